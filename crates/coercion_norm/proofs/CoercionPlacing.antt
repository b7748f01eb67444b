-- Coercions whose objects are placed one after the other, behind those of the types.
use Rattle.std.proofs.Common.{◌≡◌, inl, inr, ℕ, suc, ◌+◌, ◌*◌, ◌<◌, ◌≤◌, ◌^◌, true, false}
use Rattle.std.proofs.Common.{refl}
use Rattle.std.proofs.Common.{sym, ap, ◌∙◌, subst, arith, List, [], ◌∷◌, ◌++◌, length, Some, length-append}
use Rattle.std.proofs.Common.{append-nil}
use Rattle.std.proofs.Common.{append_assoc}
use Rattle.std.specs.Prelude.{slice_index}
use Rattle.grift_base.specs.Types.{TypeRows}
use Rattle.type_graph.specs.Trees.{height}
use Rattle.object_layout.specs.declared.headers.Header.{Header}
use Rattle.object_layout.specs.declared.kinds.Kind.{Kind as ObjectKind}
use Rattle.object_layout.specs.declared.wholes.Area.TheVariants.{Statics as InStatics}
use Rattle.object_layout.specs.Headers.{packed}
use Rattle.object_layout.specs.Wholes.{IsNth, StartsAt}
use Rattle.object_layout.specs.Wholes.{Telling, IsRow, IsWhole, header_at}
use Rattle.object_layout.proofs.Public.{fills_one_more, fills_sooner}
use Rattle.coercion_norm.specs.Coercions.{Id}
use Rattle.coercion_norm.specs.Coercions.{is_id}
use Rattle.coercion_norm.specs.Heights.{coercion_height}
use Rattle.coercion_norm.specs.Nodes.{Node}
use Rattle.coercion_norm.specs.Nodes.{tree_of}
use Rattle.coercion_norm.specs.StaticObjects.{type_header}
use Rattle.coercion_norm.specs.StaticObjects.{HoldsCoercion, Tells, coercion_headers}
use Rattle.coercion_norm.specs.StaticObjects.{header}
use Rattle.coercion_norm.specs.StaticObjects.{type_headers, up_to}
use Rattle.coercion_norm.specs.Placed.{ArePlaced, ArePlacedTypes}
use Rattle.coercion_norm.proofs.Objects.{nth_kept, nth_last}
use Rattle.coercion_norm.proofs.Objects.{tells_both, told_header, told_last, told_old}
use Rattle.coercion_norm.proofs.TypePlacing.{below_or_last}

-- behind the types stands no coercion yet
pub no_coercions_placed : (types : TypeRows) (nodes : List Node) (start : ℕ) (words type_at coercion_at : List ℕ)
    → ArePlacedTypes types start words type_at → coercion_at ≡ []
    → ArePlaced types nodes start words type_at coercion_at 0
no_coercions_placed types nodes start words type_at coercion_at placed e = record {
  as_many_types = placed.as_many;
  each_type = placed.each;
  type_starts = λ memory t type l.
      nth_kept start (up_to (type_headers types) (length types)) [] type (slice_index type_at type)
      (type_header types type) (placed.starts memory t type l);
  types_below = placed.below;
  as_many = ap (λ xs. length xs) e;
  few = let f = placed.few in omega (arith, f);
  row = λ memory t.
      subst (λ hs. IsRow memory InStatics start hs (start + 8 * length words))
      (sym (append-nil (up_to (type_headers types) (length types)))) (placed.row memory t);
  each = λ memory t c l. absurd (omega arith);
  starts = λ memory t c l f. absurd (omega arith);
  below = λ c l f. absurd (omega arith);
  above = λ c l f. absurd (omega arith);
  zero_low = λ c l f. absurd (omega arith);
}

module _ (types : TypeRows) (nodes : List Node) (start j : ℕ) (words type_at coercion_at : List ℕ)
    (old : ArePlaced types nodes start words type_at coercion_at j) where
  abbrev at : ℕ
  at = start + 8 * length words

  -- what begins somewhere begins there in a longer row
  longer : (place word : ℕ) (h : Header) (next : ℕ) → suc j ≡ next
      → IsNth start
      (up_to (type_headers types) (length types) ++ up_to (λ c. coercion_headers types (tree_of nodes c)) j) place word
      h
      → IsNth start
      (up_to (type_headers types) (length types) ++ up_to (λ c. coercion_headers types (tree_of nodes c)) next)
      place word h
  longer place word h next f n =
      subst (λ k. IsNth start (up_to (type_headers types) (length types)
      ++ up_to (λ c. coercion_headers types (tree_of nodes c)) k) place word h) f
      (subst (λ hs. IsNth start hs place word h)
      (append_assoc (up_to (type_headers types) (length types))
      (up_to (λ c. coercion_headers types (tree_of nodes c)) j) (coercion_headers types (tree_of nodes j)))
      (nth_kept start
      (up_to (type_headers types) (length types) ++ up_to (λ c. coercion_headers types (tree_of nodes c)) j)
      (coercion_headers types (tree_of nodes j)) place word h n))

  old_start : (memory : Telling) → Tells memory start words → (c next : ℕ) → suc j ≡ next → c < j
      → is_id (tree_of nodes c) ≡ false
      → StartsAt start
      (up_to (type_headers types) (length types) ++ up_to (λ c. coercion_headers types (tree_of nodes c)) next)
      (slice_index coercion_at c)
  old_start memory t c next f less other =
      let there = old.starts memory t c less other in
      (there.0, there.1, longer there.0 (slice_index coercion_at c) there.1 next f there.2)

  -- ---- Id has no object

  module _ (coercion_at2 : List ℕ) (e : coercion_at2 ≡ coercion_at ++ 0 ∷ []) (is : tree_of nodes j ≡ Id) where
    id_here : (c : ℕ) → c ≡ j → slice_index coercion_at2 c ≡ 0
    id_here c f =
        let many = old.as_many in
        ap (λ (xs : List ℕ). slice_index xs c) e ∙ told_last coercion_at 0 c (omega (arith, many, f))

    id_before : (c : ℕ) → c < j → slice_index coercion_at2 c ≡ slice_index coercion_at c
    id_before c l =
        let many = old.as_many in
        ap (λ (xs : List ℕ). slice_index xs c) e ∙ told_old coercion_at 0 c (omega (arith, many, l))

    id_now : (c : ℕ) → c ≡ j → tree_of nodes c ≡ Id
    id_now c f = ap (tree_of nodes) f ∙ is

    id_row : (memory : Telling) → Tells memory start words → (next : ℕ) → suc j ≡ next
        → IsRow memory InStatics start
        (up_to (type_headers types) (length types) ++ up_to (λ c. coercion_headers types (tree_of nodes c)) next)
        (start + 8 * length words)
    id_row memory t next f =
        subst (λ n. IsRow memory InStatics start (up_to (type_headers types) (length types)
        ++ up_to (λ c. coercion_headers types (tree_of nodes c)) n) (start + 8 * length words)) f
        (subst (λ hs. IsRow memory InStatics start (up_to (type_headers types) (length types)
        ++ (up_to (λ c. coercion_headers types (tree_of nodes c)) j ++ hs)) (start + 8 * length words))
        (sym (ap (coercion_headers types) is))
        (subst (λ hs. IsRow memory InStatics start (up_to (type_headers types) (length types) ++ hs)
        (start + 8 * length words))
        (sym (append-nil (up_to (λ c. coercion_headers types (tree_of nodes c)) j))) (old.row memory t)))

    pub placed_id : ArePlaced types nodes start words type_at coercion_at2 (j + 1)
    placed_id = record {
      as_many_types = old.as_many_types;
      each_type = old.each_type;
      type_starts = λ memory t type l.
          longer type (slice_index type_at type) (type_header types type) (j + 1) (omega arith)
          (old.type_starts memory t type l);
      types_below = old.types_below;
      as_many =
          let many = old.as_many in
          let l = ap (λ (xs : List ℕ). length xs) e ∙ length-append coercion_at (0 ∷ []) in
          omega (arith, many, l);
      few = let f = old.few in omega (arith, f);
      row = λ memory t. id_row memory t (j + 1) (omega arith);
      each = λ memory t c l.
          elim (below_or_last c j l) [
            | inl less ↦ subst (HoldsCoercion memory types (tree_of nodes c)) (sym (id_before c less))
                (old.each memory t c less)
            | inr same ↦ subst (λ x. HoldsCoercion memory types x (slice_index coercion_at2 c)) (sym (id_now c same))
                (id_here c same)
          ];
      starts = λ memory t c l f.
          elim (below_or_last c j l) [
            | inl less ↦ subst (StartsAt start (up_to (type_headers types) (length types)
                ++ up_to (λ c. coercion_headers types (tree_of nodes c)) (j + 1))) (sym (id_before c less))
                (old_start memory t c (j + 1) (omega arith) less f)
            | inr same ↦ (let g : true ≡ false = sym (ap is_id (id_now c same)) ∙ f in absurd (cc g))
          ];
      below = λ c l f.
          elim (below_or_last c j l) [
            | inl less ↦ (let g = id_before c less in let b = old.below c less f in omega (arith, g, b))
            | inr same ↦ (let g : true ≡ false = sym (ap is_id (id_now c same)) ∙ f in absurd (cc g))
          ];
      above = λ c l f.
          elim (below_or_last c j l) [
            | inl less ↦ (let g = id_before c less in let b = old.above c less f in omega (arith, g, b))
            | inr same ↦ (let g : true ≡ false = sym (ap is_id (id_now c same)) ∙ f in absurd (cc g))
          ];
      zero_low = λ c l f.
          elim (below_or_last c j l) [
            | inl less ↦ old.zero_low c less (sym (id_before c less) ∙ f)
            | inr same ↦ ap (coercion_height (height types)) (id_now c same)
          ];
    }

  -- ---- any other coercion

  -- what is known of its object
  pub record IsObject (object : List ℕ) : Type 0 where
    pub kind : ObjectKind
    pub high : ℕ
    pub count : ℕ
    pub rest : List ℕ
    pub object_is : object ≡ packed (header kind high count) ∷ rest
    pub long : length rest ≡ count
    pub few : count ≤ 8
    pub low : high < 2 ^ 16
    pub headers : coercion_headers types (tree_of nodes j) ≡ header kind high count ∷ []
    pub no_id : is_id (tree_of nodes j) ≡ false
    pub at_zero : at ≡ 0 → coercion_height (height types) (tree_of nodes j) ≡ 0
    pub held : (memory : Telling) → Tells memory start words → header_at memory at ≡ Some (header kind high count)
        → Tells memory (at + 8) rest → HoldsCoercion memory types (tree_of nodes j) at
    pub whole : (memory : Telling) → Tells memory start words → header_at memory at ≡ Some (header kind high count)
        → Tells memory (at + 8) rest
        → IsWhole memory InStatics (at + (8 + 8 * count)) at (header kind high count)

  module _ (object words2 coercion_at2 : List ℕ) (is : IsObject object) (words2_is : words2 ≡ words ++ object)
      (coercion_at2_is : coercion_at2 ≡ coercion_at ++ at ∷ []) where
    here : (c : ℕ) → c ≡ j → slice_index coercion_at2 c ≡ at
    here c f =
        let many = old.as_many in
        ap (λ (xs : List ℕ). slice_index xs c) coercion_at2_is ∙ told_last coercion_at at c (omega (arith, many, f))

    before : (c : ℕ) → c < j → slice_index coercion_at2 c ≡ slice_index coercion_at c
    before c l =
        let many = old.as_many in
        ap (λ (xs : List ℕ). slice_index xs c) coercion_at2_is ∙ told_old coercion_at at c (omega (arith, many, l))

    words2_long : length words2 ≡ length words + suc is.count
    words2_long =
        ap (λ (xs : List ℕ). length xs) words2_is ∙ length-append words object
        ∙ ap (λ n. length words + n) (ap (λ (xs : List ℕ). length xs) is.object_is ∙ ap suc is.long)

    told : (memory : Telling) → Tells memory start words2 → Tells memory start words × Tells memory at object
    told memory t = tells_both memory start words object (subst (Tells memory start) words2_is t)

    stands : (memory : Telling) → Tells memory start words2
        → (header_at memory at ≡ Some (header is.kind is.high is.count)) × Tells memory (at + 8) is.rest
    stands memory t =
        let o = subst (Tells memory at) is.object_is (told memory t).1 in
        let few = is.few in (
          told_header memory at is.kind is.high is.count is.low (omega (arith, few)) o.0,
          o.1,
        )

    new_row : (memory : Telling) → Tells memory start words2 → (next : ℕ) → suc j ≡ next
        → IsRow memory InStatics start
        (up_to (type_headers types) (length types) ++ up_to (λ c. coercion_headers types (tree_of nodes c)) next)
        (start + 8 * length words2)
    new_row memory t next f =
        let long = words2_long in
        let end : start + 8 * length words2 ≡ at + (8 + 8 * is.count) = omega (arith, long) in
        let first = up_to (type_headers types) (length types) in
        let later = up_to (λ c. coercion_headers types (tree_of nodes c)) j in
        subst (λ n. IsRow memory InStatics start (up_to (type_headers types) (length types)
        ++ up_to (λ c. coercion_headers types (tree_of nodes c)) n) (start + 8 * length words2)) f
        (subst (λ hs. IsRow memory InStatics start (up_to (type_headers types) (length types)
        ++ (up_to (λ c. coercion_headers types (tree_of nodes c)) j ++ hs)) (start + 8 * length words2))
        (sym is.headers)
        (subst (λ hs. IsRow memory InStatics start hs (start + 8 * length words2))
        (append_assoc first later (header is.kind is.high is.count ∷ []))
        (fills_one_more memory InStatics (start + 8 * length words2) start at (start + 8 * length words2)
        (first ++ later) (header is.kind is.high is.count) end
        (fills_sooner memory InStatics at (start + 8 * length words2) start (first ++ later) at
        (omega (arith, end)) (old.row memory (told memory t).0))
        (subst (λ to. IsWhole memory InStatics to at (header is.kind is.high is.count)) (sym end)
        (is.whole memory (told memory t).0 (stands memory t).0 (stands memory t).1)))))

    new_start : (memory : Telling) → Tells memory start words2 → (next : ℕ) → suc j ≡ next
        → StartsAt start
        (up_to (type_headers types) (length types) ++ up_to (λ c. coercion_headers types (tree_of nodes c)) next) at
    new_start memory t next f =
        let first = up_to (type_headers types) (length types) in
        let later = up_to (λ c. coercion_headers types (tree_of nodes c)) j in
        let place : ℕ = length (up_to (type_headers types) (length types)
        ++ up_to (λ c. coercion_headers types (tree_of nodes c)) j) in (
          place,
          header is.kind is.high is.count,
          subst (λ n. IsNth start (up_to (type_headers types) (length types)
              ++ up_to (λ c. coercion_headers types (tree_of nodes c)) n) place at (header is.kind is.high is.count)) f
              (subst (λ hs. IsNth start (up_to (type_headers types) (length types)
              ++ (up_to (λ c. coercion_headers types (tree_of nodes c)) j ++ hs)) place at
              (header is.kind is.high is.count)) (sym is.headers)
              (subst (λ hs. IsNth start hs place at (header is.kind is.high is.count))
              (append_assoc first later (header is.kind is.high is.count ∷ []))
              (nth_last memory InStatics at start at (first ++ later) (header is.kind is.high is.count)
              (old.row memory (told memory t).0)))),
        )

    pub placed_object : ArePlaced types nodes start words2 type_at coercion_at2 (j + 1)
    placed_object = record {
      as_many_types = old.as_many_types;
      each_type = λ memory t. old.each_type memory (told memory t).0;
      type_starts = λ memory t type l.
          longer type (slice_index type_at type) (type_header types type) (j + 1) (omega arith)
          (old.type_starts memory (told memory t).0 type l);
      types_below = λ type l. let b = old.types_below type l in let long = words2_long in omega (arith, b, long);
      as_many =
          let many = old.as_many in
          let l = ap (λ (xs : List ℕ). length xs) coercion_at2_is ∙ length-append coercion_at (at ∷ []) in
          omega (arith, many, l);
      few = let f = old.few in let g = is.few in let long = words2_long in omega (arith, f, g, long);
      row = λ memory t. new_row memory t (j + 1) (omega arith);
      each = λ memory t c l.
          elim (below_or_last c j l) [
            | inl less ↦ subst (HoldsCoercion memory types (tree_of nodes c)) (sym (before c less))
                (old.each memory (told memory t).0 c less)
            | inr same ↦ subst (λ k. HoldsCoercion memory types (tree_of nodes k) (slice_index coercion_at2 k)) (sym
                same)
                (subst (HoldsCoercion memory types (tree_of nodes j)) (sym (here j refl))
                (is.held memory (told memory t).0 (stands memory t).0 (stands memory t).1))
          ];
      starts = λ memory t c l f.
          elim (below_or_last c j l) [
            | inl less ↦ subst (StartsAt start (up_to (type_headers types) (length types)
                ++ up_to (λ c. coercion_headers types (tree_of nodes c)) (j + 1))) (sym (before c less))
                (old_start memory (told memory t).0 c (j + 1) (omega arith) less f)
            | inr same ↦ subst (StartsAt start (up_to (type_headers types) (length types)
                ++ up_to (λ c. coercion_headers types (tree_of nodes c)) (j + 1))) (sym (here c same))
                (new_start memory t (j + 1) (omega arith))
          ];
      below = λ c l f.
          let long = words2_long in
          elim (below_or_last c j l) [
            | inl less ↦ (let g = before c less in let b = old.below c less f in omega (arith, g, b, long))
            | inr same ↦ (let g = here c same in omega (arith, g, long))
          ];
      above = λ c l f.
          elim (below_or_last c j l) [
            | inl less ↦ (let g = before c less in let b = old.above c less f in omega (arith, g, b))
            | inr same ↦ (let g = here c same in omega (arith, g))
          ];
      zero_low = λ c l f.
          elim (below_or_last c j l) [
            | inl less ↦ old.zero_low c less (sym (before c less) ∙ f)
            | inr same ↦ ap (λ k. coercion_height (height types) (tree_of nodes k)) same
                ∙ is.at_zero (sym (here c same) ∙ f)
          ];
    }
