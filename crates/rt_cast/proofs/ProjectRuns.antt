-- What project does.
use Rattle.std.proofs.Common.{◌≡◌, ◌⊎◌, inl, inr, ℕ, zero, suc, ◌+◌, ◌*◌, ◌<◌, ◌≤◌, Bool, true, false, cond}
use Rattle.std.proofs.Common.{List, [], ◌∷◌, map, Option, Some, None, refl, sym, ap, ap₂, ◌∙◌, subst, arith}
use Rattle.std.proofs.Common.{length}
use Rattle.std.specs.Prelude.{◌==◌, nat_lt, slice_get, max, All, pos, ℤ}
use Rattle.std.proofs.lemmas.List.Elements.{All-head, All-tail}
use Rattle.grift_base.specs.Types.{TypeHead, TypeRow, TypeRows, TupleRow}
use Rattle.grift_base.specs.Types.{is_dyn, parts_of, row_at, tuple_part, dyn_from, dyn_place}
use Rattle.grift_base.proofs.Public.{each_row}
use Rattle.low_ir.specs.declared.code.LowSource.TheVariants.{Word, Number}
use Rattle.low_ir.specs.declared.code.WordOp.TheVariants.{And}
use Rattle.machine_words.specs.declared.conditions.Cond.TheVariants.{Eq, Ltu}
use Rattle.low_ir.specs.Procedures.{Code, Return}
use Rattle.low_ir.specs.Prices.{leaving}
use Rattle.low_ir.specs.Steps.{Locals, no_locals, set_local}
use Rattle.low_ir.specs.Run.{Waiting, LowState, bind}
use Rattle.coercion_norm.specs.declared.middles.MiddleKind.TheVariants.{Fun as FunKind, Tup as TupKind}
use Rattle.coercion_norm.specs.declared.middles.MiddleKind.TheVariants.{Ref as RefKind, Vec as VecKind}
use Rattle.coercion_norm.specs.Coercions.{Coercion, Coercions, Id, Fail, Middle, Inject, Project, NoCoercions}
use Rattle.coercion_norm.specs.Coercions.{CoercionThen, kind_of, rows_of}
use Rattle.coercion_norm.specs.CoercionTables.{cast_of}
use Rattle.coercion_norm.specs.Composition.{coerce_by, coerce_below}
use Rattle.coercion_norm.specs.Heights.{coercion_height, highest, TypeNoHigher}
use Rattle.cast_modes.specs.Modes.{part_to_dyn, cast_to_dyn, kept_part}
use Rattle.coercion_norm.specs.MergedMode.{part_at, tuple_coercion}
use Rattle.coercion_norm.specs.Normal.{IsNormal, AreNormal}
use Rattle.object_layout.specs.Words.{kind_mask}
use Rattle.rt_cast.specs.Costs.{tuple_cost, project_cost}
use Rattle.rt_cast.specs.LightCasts.{cast_words_of, cast_price_of}
use Rattle.rt_cast.specs.PartCosts.{of_cast, of_part, dyn_part_words, dyn_part_price}
use Rattle.coercion_norm.specs.Objects.{Object, Fixed}
use Rattle.coercion_norm.specs.Held.{Layout, There, Held, AreHeld, HoldsType, rows_in, height_in}
use Rattle.coercion_norm.specs.ObjectsOfRows.{header, type_kind}
use Rattle.rt_cast.specs.WholeObjects.{IsSolid}
use Rattle.rt_cast.specs.CastCodes.{project_code, project_dyn, project_dyn_object, project_dyn_part, project_blame}
use Rattle.rt_cast.specs.CastCodes.{into_dyn, read_kind}
use Rattle.rt_cast.specs.DynWords.{tag_of, small_dyn, IsDynBy}
use Rattle.rt_cast.proofs.DynWords.{each_tagged, small_is, tag_read, no_tag}
use Rattle.rt_cast.proofs.IntoDyn.{untagged_there, kind_there, put_into_dyn}
use Rattle.low_ir.specs.Operations.{compute}
use Rattle.object_layout.specs.declared.kinds.Kind.TheVariants.{Proxy}
use Rattle.object_layout.specs.Kinds.{kind_number as number_of}
use Rattle.low_ir.specs.Codes.{either}
use Rattle.rt_cast.specs.Procs.{cast_proc, project_proc}
use Rattle.rt_cast.specs.States.{Grows, Heap, Fine, st}
use Rattle.rt_cast.specs.MergedValues.{Merged, Base, Solid, Proxied, InDyn, Outcome, Stuck, Gives, Blames, then_outcome}
use Rattle.rt_cast.specs.MergedValues.{cast_value}
use Rattle.rt_cast.specs.PartValues.{with_some, part_value, dyn_part_by, dyn_part_value}
use Rattle.rt_cast.specs.Carried.{CarriedBy, IsLow, AreCarried, HoldsParts, HaveParts}
use Rattle.rt_cast.proofs.Walks.{Walk}
use Rattle.rt_cast.proofs.Objects.{none_some, same_some}
use Rattle.rt_cast.proofs.HeaderNumbers.{eq_true, eq_false, lt_true, lt_false, lt_cases, kind_read, count_read}
use Rattle.rt_cast.proofs.Steps.{Budget, More, at_most, word_there, loads, loads_at, computes, if_true}
use Rattle.rt_cast.proofs.Steps.{if_false}
use Rattle.rt_cast.proofs.Steps.{calls, tail_calls}
use Rattle.rt_cast.proofs.Small.{ReachedIn, grows_not}
use Rattle.rt_cast.proofs.ComposeSteps.{type_there, type_numbers}
use Rattle.rt_cast.proofs.CastRuns.{rebased, after, GoesOn, whole_above, no_higher, carried_still, carried_small}
use Rattle.rt_cast.proofs.CastRuns.{by_either}
use Rattle.rt_cast.proofs.CastDecisions.{low_of, by_inject, by_cast as decided_cast}
use Rattle.rt_cast.proofs.Objects.{proxy_header, proxy_read, dyn_header, tuple_header}
use Rattle.rt_cast.specs.ComposeCodes.{cast_place, project_place}

-- ---- lists and rows

-- what is there is told
place_told : (types : TypeRows) (k : ℕ) → k < length types → row_at types k ≡ Some (rows_of types k)
place_told [] k lt = absurd (omega arith)
place_told (row ∷ rows) zero lt = refl
place_told (row ∷ rows) (suc k) lt = place_told rows k (omega arith)

beyond : (xs : List ℕ) (k : ℕ) → length xs ≤ k → slice_get xs k ≡ None
beyond [] k le = refl
beyond (x ∷ xs) zero le = absurd (omega arith)
beyond (x ∷ xs) (suc k) le = beyond xs k (omega arith)

within : (xs : List ℕ) (k : ℕ) → k < length xs → (x : ℕ) × (slice_get xs k ≡ Some x)
within [] k lt = absurd (omega arith)
within (x ∷ xs) zero lt = (x, refl)
within (x ∷ xs) (suc k) lt = within xs k (omega arith)

mapped : (f : ℕ → ℕ) (xs : List ℕ) (k x : ℕ) → slice_get xs k ≡ Some x → slice_get (map f xs) k ≡ Some (f x)
mapped f [] k x e = none_some e
mapped f (y ∷ xs) zero x e = ap (λ z. Some (f z)) (same_some y x e)
mapped f (y ∷ xs) (suc k) x e = mapped f xs k x e

each_has : (P : ℕ → Type 0) (xs : List ℕ) (k x : ℕ) → All P xs → slice_get xs k ≡ Some x → P x
each_has P [] k x h e = none_some e
each_has P (y ∷ xs) zero x h e = subst P (same_some y x e) (All-head P y xs h)
each_has P (y ∷ xs) (suc k) x h e = each_has P xs k x (All-tail P y xs h) e

inside : (xs : List ℕ) (k x : ℕ) → slice_get xs k ≡ Some x → k < length xs
inside [] k x e = none_some e
inside (y ∷ xs) zero x e = omega arith
inside (y ∷ xs) (suc k) x e = let z = inside xs k x e in omega arith

-- the first Dyn is one
dyn_is : (types : TypeRows) (here place : ℕ) → dyn_from types here ≡ Some place
    → (k : ℕ) × (place ≡ here + k) × (is_dyn (rows_of types k) ≡ true)
dyn_is [] here place e = none_some e
dyn_is (row ∷ rows) here place e = by (is_dyn row) refl e (λ f. dyn_is rows (suc here) place f)
  where
    by : (b : Bool) → is_dyn row ≡ b → cond b (Some here) (dyn_from rows (suc here)) ≡ Some place
        → (dyn_from rows (suc here) ≡ Some place
        → (k : ℕ) × (place ≡ suc here + k) × (is_dyn (rows_of rows k) ≡ true))
        → (k : ℕ) × (place ≡ here + k) × (is_dyn (rows_of (row ∷ rows) k) ≡ true)
    by true h f later = (0, (let s = same_some here place f in omega (arith, s)), h)
    by false h f later = let z = later f in (suc z.0, (let s = z.1 in omega (arith, s)), z.2)

dyn_there : (types : TypeRows) (dyn : ℕ) → dyn_place types ≡ Some dyn → is_dyn (rows_of types dyn) ≡ true
dyn_there types dyn e =
    let z = dyn_is types 0 dyn e in
    let s : z.0 ≡ dyn = omega (arith, z.1) in
    subst (λ k. is_dyn (rows_of types k) ≡ true) s z.2

kind_of_dyn : (row : TypeRow) → (type_kind row == 19) ≡ is_dyn row
kind_of_dyn = each_row (λ row. (type_kind row == 19) ≡ is_dyn row)
    refl refl refl refl (λ _ _. refl) (λ _. refl) (λ _. refl) (λ _. refl)

-- what is done with a part of what is in Dyn
abbrev unless_dyn : Code
unless_dyn = either Eq (Word 6) (Number 19) (Return (Word 9)) into_dyn

abbrev after_part : Code
after_part = read_kind unless_dyn

-- whether a row has a part
data Sight (row : TypeRow) (k : ℕ) : Type 0 where
  NotTuple : (type_kind row == 21) ≡ false → tuple_part row (pos k) ≡ None → Sight row k
  Short : (ps : List ℕ) → row ≡ TupleRow ps → length ps ≤ k → Sight row k
  HasPart : (ps : List ℕ) (part : ℕ) → row ≡ TupleRow ps → slice_get ps k ≡ Some part → Sight row k

sight : (row : TypeRow) (k : ℕ) → Sight row k
sight (TupleRow ps) k = by (lt_cases k (length ps))
  where
    by : (k < length ps) ⊎ (length ps ≤ k) → Sight (TupleRow ps) k
    by (inl lt) = let z = within ps k lt in HasPart ps z.0 refl z.1
    by (inr le) = Short ps refl le
sight _ k = NotTuple refl refl

no_tuple : (row : TypeRow) (k : ℤ) (tag : ℕ) → tag_of row ≡ Some tag → tuple_part row k ≡ None
no_tuple row k tag e = each_tagged (λ row. tuple_part row k ≡ None) refl refl refl row e

-- a part is lower than the whole
part_lower : (rows : ℕ → TypeRow) (t kept part k : ℕ) (ps : List ℕ) → rows kept ≡ TupleRow ps
    → slice_get ps k ≡ Some part → TypeNoHigher rows t kept → (m : ℕ) × (m ≤ t) × TypeNoHigher rows m part
part_lower rows zero kept part k ps row e h = none_some (sym h ∙ ap kind_of row)
part_lower rows (suc m) kept part k ps row e h = (
  m,
  omega arith,
  each_has (TypeNoHigher rows m) ps k part
      (subst (λ r. All (TypeNoHigher rows m) (parts_of r)) row h) e,
)

-- ---- parts of coercions

part_in : (high : ℕ → ℕ) (cs : Coercions) (k : ℕ) (d : Coercion) → part_at cs k ≡ Some d
    → coercion_height high d ≤ highest high cs
part_in high NoCoercions k d e = none_some e
part_in high (CoercionThen c cs) zero d e =
    let s = ap (coercion_height high) (same_some c d e) in omega (arith, s)
part_in high (CoercionThen c cs) (suc k) d e = let z = part_in high cs k d e in omega (arith, z)

part_normal : (rows : ℕ → TypeRow) (cs : Coercions) (k : ℕ) (d : Coercion) → AreNormal rows cs → part_at cs k ≡ Some d
    → IsNormal rows d
part_normal rows NoCoercions k d h e = none_some e
part_normal rows (CoercionThen c cs) zero d h e = subst (IsNormal rows) (same_some c d e) h.0
part_normal rows (CoercionThen c cs) (suc k) d h e = part_normal rows cs k d h.1 e

-- where a coercion is held, each of its parts is
pub part_held : (l : Layout) (objects : List Object) (cs : Coercions) (ws : List ℕ) (k : ℕ) (d : Coercion)
    → AreHeld l objects cs ws → part_at cs k ≡ Some d → (w : ℕ) × (slice_get ws k ≡ Some w) × Held l objects d w
part_held l objects NoCoercions ws k d h e = none_some e
part_held l objects (CoercionThen c cs) [] k d h e = absurd h
part_held l objects (CoercionThen c cs) (w ∷ ws) zero d h e =
    (w, refl, subst (λ x. Held l objects x w) (same_some c d e) h.0)
part_held l objects (CoercionThen c cs) (w ∷ ws) (suc k) d h e = part_held l objects cs ws k d h.1 e

module _ {V : Type 0} (walk : Walk V) (low : walk.l.tallest ≤ 65534) (A : Type 0)
    (IsHeld : List Object → A → ℕ → Type 0)
    (still : (old new : List Object) → Grows old new → (a : A) (w : ℕ) → IsHeld old a w → IsHeld new a w)
    (is_solid : (objects : List Object) (a : A) (w : ℕ) → IsHeld objects a w → IsSolid walk.l objects w)
    (head : A → TypeHead) (parts : A → List (Merged A)) where
  abbrev Goes : Budget → List Object → List Waiting → Outcome A → Type 0
  Goes = GoesOn walk low A IsHeld still is_solid

  abbrev Carried : List Object → Merged A → ℕ → Type 0
  Carried = CarriedBy walk.l IsHeld

  abbrev state : ℕ → Locals → Code → List Code → List Waiting → Heap → LowState
  state = st walk.around

  abbrev R : ℕ → TypeRow
  R = rows_in walk.l

  abbrev n : ℕ
  n = walk.l.tallest

  part_carried : (objects : List Object) (xs : List (Merged A)) (ws : List ℕ) (k : ℕ) (x : Merged A)
      → AreCarried walk.l IsHeld objects xs ws → slice_get xs k ≡ Some x
      → (w : ℕ) × (slice_get ws k ≡ Some w) × Carried objects x w
  part_carried objects [] ws k x h e = none_some e
  part_carried objects (y ∷ xs) [] k x h e = absurd h
  part_carried objects (y ∷ xs) (w ∷ ws) zero x h e =
      (w, refl, subst (λ z. Carried objects z w) (same_some y x e) h.0)
  part_carried objects (y ∷ xs) (w ∷ ws) (suc k) x h e = part_carried objects xs ws k x h.1 e

  -- a part of a tuple that has it
  pub record PartThere (objects : List Object) (wa k : ℕ) (x : Merged A) : Type 0 where
    pub ws : List ℕ
    pub there : There walk.l objects wa (Fixed (tuple_header (length ws)) ws)
    pub word : ℕ
    pub got : slice_get ws k ≡ Some word
    pub carried : Carried objects x word

  part_there : (objects : List Object) → HaveParts walk.l IsHeld objects parts → (a : A) (wa k : ℕ) (x : Merged A)
      → IsHeld objects a wa → slice_get (parts a) k ≡ Some x → PartThere objects wa k x
  part_there objects tuples a wa k x h e = by (tuples a wa h)
    where
      by : HoldsParts walk.l IsHeld objects (parts a) wa → PartThere objects wa k x
      by (inl none) = none_some (ap (λ xs. slice_get xs k) (sym none) ∙ e)
      by (inr t) =
          let z = part_carried objects (parts a) t.0 k x t.2 e in
          record { ws = t.0; there = t.1; word = z.0; got = z.1; carried = z.2 }

  abbrev asked : ℕ → ℕ → ℕ → ℕ → Locals
  asked wv k which label = bind 0 (wv ∷ k ∷ which ∷ label ∷ []) no_locals

  -- the procedure goes on so
  abbrev Runs : ℕ → ℕ → ℕ → ℕ → Budget → ℕ → ℕ → ℕ → ℕ → List Waiting → Heap → Type 0
  Runs cost above asks price B wv k which label waiting h =
      ReachedIn walk (More cost above asks price B) (state 12 (asked wv k which label)
      (project_code walk.first) [] waiting h)

  -- the words and the price of the cast of a part
  abbrev asks_of : ℕ → Merged A → ℕ
  asks_of k u = of_part parts (cast_words_of walk.l) k u

  abbrev price_of : ℕ → Merged A → ℕ
  price_of k u = of_part parts (cast_price_of walk.l) k u

  -- with 1 as its third word
  abbrev pub TupleRuns : Budget → Merged A → ℕ → ℕ → ℕ → List Waiting → Heap → Type 0
  TupleRuns B u wv k label waiting h =
      Runs (tuple_cost walk.l.width n) (whole_above walk low A IsHeld still is_solid) (asks_of k u) (price_of k u + 97)
      B wv k 1 label waiting h

  -- a part of what stands under a proxy, by the part of its coercion
  abbrev on_part : A → ℕ → Option Coercion → Outcome A
  on_part a k o = with_some o (λ d. with_some (slice_get (parts a) k) (λ x. cast_value head walk.l.types d x))

  pub tuple_part_done : (B : Budget) (objects : List Object) (h : Heap)
      (fine : Fine walk.setting walk.l walk.around objects h) → HaveParts walk.l IsHeld objects parts
      → (waiting : List Waiting) (u : Merged A) (wv k label : ℕ) → Carried objects u wv → (r : Outcome A)
      → part_value head parts walk.l.types k u ≡ r → (r ≡ Stuck → ⊥) → Goes B objects waiting r
      → TupleRuns B u wv k label waiting h
  tuple_part_done B objects h fine tuples waiting (Base hd x) wv k label hv r e some go = absurd (some (sym e))
  tuple_part_done B objects h fine tuples waiting (InDyn kept x) wv k label hv r e some go = absurd (some (sym e))
  tuple_part_done B objects h fine tuples waiting (Solid a) wv k label hv r e some go = by (slice_get (parts a) k) refl
      e
    where
      by : (o : Option (Merged A)) → slice_get (parts a) k ≡ o → with_some o (λ x. Gives x) ≡ r
          → TupleRuns B (Solid a) wv k label waiting h
      by None f g = absurd (some (sym g))
      by (Some x) f g =
          let p = part_there objects tuples a wv k x hv f in
          let head4 = tuple_header (length p.ws) in
          let w = word_there walk objects h fine wv head4 p.ws p.there (suc k) p.word (wv + 8 * k + 8) p.got
          (omega arith) in
          at_most walk
          (if_false walk objects fine 1 0 refl refl refl
          (computes walk objects fine k 3 (8 * k) refl refl (let z = w.end in omega (arith, z)) refl
          (loads walk objects fine wv head4 p.ws 0 head4 refl p.there refl refl refl
          (computes walk objects fine head4 kind_mask 4 refl refl (kind_read 4 0 (length p.ws) (omega arith)) refl
          (if_false walk objects fine 4 2 refl refl refl
          (computes walk objects fine wv (8 * k) (wv + 8 * k) refl refl (let z = w.end in omega (arith, z)) refl
          (loads_at walk objects fine (wv + 8 * k) p.word refl w refl
          (subst (Goes B objects waiting) (sym g) go objects h p.word 12 _ _ (Word 8) (grows_not objects) fine p.carried
          refl))))))))
          (omega arith, omega arith, omega arith, omega arith)
  tuple_part_done B objects h fine tuples waiting (Proxied a c) wv k label hv r e some go = by_coercion c refl
    where
      by_part : (ps : Coercions) → c ≡ Middle TupKind ps → (d : Coercion) → part_at ps k ≡ Some d → (x : Merged A)
          → slice_get (parts a) k ≡ Some x → cast_value head walk.l.types d x ≡ r
          → TupleRuns B (Proxied a c) wv k label waiting h
      by_part ps is d at x f g =
          let lc : IsLow walk.l (Middle TupKind ps) = subst (IsLow walk.l) is hv.5 in
          let hc : Held walk.l objects (Middle TupKind ps) hv.1 = subst (λ y. Held walk.l objects y hv.1) is hv.4 in
          let ld : IsLow walk.l d = record {
            normal = part_normal R ps k d lc.normal.1 at;
            low = let z = part_in (height_in walk.l) ps k d at in let y = lc.low in omega (arith, z, y);
          } in
          let p = part_there objects tuples a hv.0 k x hv.3 f in
          let q = part_held walk.l objects ps hc.0 k d hc.2 at in
          let head4 = tuple_header (length p.ws) in
          let head10 = header 10 (coercion_height (height_in walk.l) (Middle TupKind ps)) (length hc.0) in
          let w = word_there walk objects h fine hv.0 head4 p.ws p.there (suc k) p.word (hv.0 + 8 * k + 8) p.got
          (omega arith) in
          let v = word_there walk objects h fine hv.1 head10 hc.0 hc.1 (suc k) q.0 (hv.1 + 8 * k + 8) q.1
          (omega arith) in
          let words_are : asks_of k (Proxied a c) ≡ cast_words_of walk.l d x =
          ap₂ (of_cast (cast_words_of walk.l)) (ap (λ y. tuple_coercion y (pos k)) is ∙ at) f in
          let price_is : price_of k (Proxied a c) ≡ cast_price_of walk.l d x =
          ap₂ (of_cast (cast_price_of walk.l)) (ap (λ y. tuple_coercion y (pos k)) is ∙ at) f in
          let done =
          decided_cast walk.l walk.types head d ld.normal (no_higher walk low A IsHeld still is_solid d ld) x
          (low_of walk.l walk.types head IsHeld objects x p.word p.carried) r some g in
          let ws2 = hv.0 ∷ hv.1 ∷ [] in
          at_most walk
          (if_false walk objects fine 1 0 refl refl refl
          (computes walk objects fine k 3 (8 * k) refl refl (let z = w.end in omega (arith, z)) refl
          (loads walk objects fine wv proxy_header ws2 0 proxy_header refl hv.2 refl refl refl
          (computes walk objects fine proxy_header kind_mask (number_of Proxy) refl refl proxy_read refl
          (if_true walk objects fine 2 2 refl refl refl
          (loads walk objects fine wv proxy_header ws2 1 hv.0 refl hv.2 refl refl refl
          (computes walk objects fine hv.0 (8 * k) (hv.0 + 8 * k) refl refl (let z = w.end in omega (arith, z)) refl
          (loads_at walk objects fine (hv.0 + 8 * k) p.word refl w refl
          (loads walk objects fine wv proxy_header ws2 2 hv.1 refl hv.2 refl refl refl
          (computes walk objects fine hv.1 (8 * k) (hv.1 + 8 * k) refl refl (let z = v.end in omega (arith, z)) refl
          (loads_at walk objects fine (hv.1 + 8 * k) q.0 refl v refl
          (tail_calls walk objects fine (p.word ∷ q.0 ∷ []) (cast_proc walk.first) refl
          (walk.stands cast_place _ refl) refl
          (by_either walk low A IsHeld still is_solid d ld.normal (no_higher walk low A IsHeld still is_solid d ld) x B
          objects h fine waiting p.word q.0 p.carried q.2 (subst (Goes B objects waiting) (sym done) go))))))))))))))
          (omega arith, omega arith, omega (arith, words_are), omega (arith, price_is))

      by_target : (ps : Coercions) → c ≡ Middle TupKind ps → (d : Coercion) → part_at ps k ≡ Some d
          → (o : Option (Merged A)) → slice_get (parts a) k ≡ o
          → with_some o (λ x. cast_value head walk.l.types d x) ≡ r
          → TupleRuns B (Proxied a c) wv k label waiting h
      by_target ps is d at None f g = absurd (some (sym g))
      by_target ps is d at (Some x) f g = by_part ps is d at x f g

      by_place : (ps : Coercions) → c ≡ Middle TupKind ps → (o : Option Coercion) → part_at ps k ≡ o → on_part a k o ≡ r
          → TupleRuns B (Proxied a c) wv k label waiting h
      by_place ps is None at g = absurd (some (sym g))
      by_place ps is (Some d) at g = by_target ps is d at (slice_get (parts a) k) refl g

      none : (o : Option Coercion) → tuple_coercion c (pos k) ≡ o → o ≡ None
          → TupleRuns B (Proxied a c) wv k label waiting h
      none o f g = absurd (some (sym e ∙ ap (on_part a k) (f ∙ g)))

      by_coercion : (d : Coercion) → c ≡ d
          → TupleRuns B (Proxied a c) wv k label waiting h
      by_coercion Id is = none _ (ap (λ x. tuple_coercion x (pos k)) is) refl
      by_coercion (Fail lb) is = none _ (ap (λ x. tuple_coercion x (pos k)) is) refl
      by_coercion (Inject g kept) is = none _ (ap (λ x. tuple_coercion x (pos k)) is) refl
      by_coercion (Project wanted lb i) is = none _ (ap (λ x. tuple_coercion x (pos k)) is) refl
      by_coercion (Middle FunKind ps) is = none _ (ap (λ x. tuple_coercion x (pos k)) is) refl
      by_coercion (Middle RefKind ps) is = none _ (ap (λ x. tuple_coercion x (pos k)) is) refl
      by_coercion (Middle VecKind ps) is = none _ (ap (λ x. tuple_coercion x (pos k)) is) refl
      by_coercion (Middle TupKind ps) is =
          by_place ps is (part_at ps k) refl (ap (λ x. on_part a k (tuple_coercion x (pos k))) (sym is) ∙ e)

  abbrev make : ℕ → ℕ → ℕ → Coercion
  make from label to = cast_of walk.l.types from to label

  -- with the type that the Dyn keeps and what is in it
  abbrev dyn_read : ℕ → ℕ → ℕ → ℕ → ℕ → ℕ → Locals
  dyn_read wv k label wt wx kept =
      set_local 6 (length (parts_of (R kept))) (set_local 7 (type_kind (R kept)) (set_local 6 (header
      (type_kind (R kept)) (height_in walk.l kept) (length (parts_of (R kept)))) (set_local 5 wx (set_local 4 wt
      (set_local 4 0 (asked wv k 0 label))))))

  -- the label is blamed
  blamed : {B : Budget} → (objects : List Object) (h : Heap) (fine : Fine walk.setting walk.l walk.around objects h)
      (waiting : List Waiting) (rests : List Code) (wv k label wt wx kept : ℕ)
      → Goes B objects waiting (Blames label)
      → ReachedIn walk (More 0 0 0 0 B) (state 12 (dyn_read wv k label wt wx kept) project_blame rests waiting h)
  blamed objects h fine waiting rests wv k label wt wx kept go =
      at_most walk
      (go objects h 12 _ rests waiting (Word 3) (Number 0) 4 5 (Return (Number 0)) (grows_not objects) fine refl refl
      (omega arith) (omega arith))
      (omega arith, omega arith, omega arith, omega arith)

  -- the part in a Dyn that keeps its type, unless that is Dyn
  in_dyn : (B : Budget) (objects : List Object) (h : Heap) (fine : Fine walk.setting walk.l walk.around objects h)
      (waiting : List Waiting) (count : ℕ) (locals : Locals) (rests : List Code) (part dyn label : ℕ) (y : Merged A)
      (w : ℕ) → part < length walk.l.types → height_in walk.l part ≤ n → is_dyn (R dyn) ≡ true → Carried objects y w
      → locals 8 ≡ Some (walk.l.type_at part) → locals 9 ≡ Some w → nat_lt 7 count ≡ true → nat_lt 6 count ≡ true
      → nat_lt 5 count ≡ true
      → (r : Outcome A) → cast_value head walk.l.types (make part label dyn) y ≡ r → (r ≡ Stuck → ⊥)
      → Goes B objects waiting r
      → ReachedIn walk (More 12 0 3 (102 + leaving count) B) (state count locals (after_part) rests waiting h)
  in_dyn B objects h fine waiting count locals rests part dyn label y w known lower isdyn hy l8 l9 lt7 lt6 lt5 r e some
      go =
      by (is_dyn (R part)) refl
    where
      at : ℕ
      at = walk.l.type_at part

      held : HoldsType walk.l objects at part
      held = record { known = known; is = refl }

      type_head : ℕ
      type_head = header (type_kind (R part)) (height_in walk.l part) (length (parts_of (R part)))

      coercion_is : (b : Bool) → is_dyn (R part) ≡ b
          → make part label dyn ≡ coerce_by R (coerce_below R (max (height_in walk.l part) (height_in walk.l dyn))) b
          true
          part dyn label
      coercion_is b f =
          ap₂ (λ x z. coerce_by R (coerce_below R (max (height_in walk.l part) (height_in walk.l dyn))) x z part dyn
          label)
          f isdyn

      by : (b : Bool) → is_dyn (R part) ≡ b → ReachedIn walk (More 12 0 3 (102 + leaving count) B)
          (state count locals after_part rests waiting
          h)
      by true f =
          let g : Gives y ≡ r = ap (λ c. cast_value head walk.l.types c y) (sym (coercion_is true f)) ∙ e in
          at_most walk
          (kind_there walk objects h fine waiting count locals rests unless_dyn part at held lt6 l8
          (λ read. if_true walk objects fine (type_kind (R part)) 19 refl refl (kind_of_dyn (R part) ∙ f)
          (subst (Goes B objects waiting) (sym g) go objects h w count _ _ (Word 9) (grows_not objects) fine hy l9)))
          (omega arith, omega arith, omega arith, omega arith)
      by false f =
          let g : Gives (InDyn part y) ≡ r =
          by_inject walk.l walk.types head 2 part y r some
          (ap (λ c. cast_value head walk.l.types c y) (sym (coercion_is false f)) ∙ e) in
          at_most walk
          (kind_there walk objects h fine waiting count locals rests unless_dyn part at held lt6 l8
          (λ read. if_false walk objects fine (type_kind (R part)) 19 refl refl (kind_of_dyn (R part) ∙ f)
          (put_into_dyn walk objects h fine waiting count part at w held lower
          (carried_small walk low A IsHeld still is_solid objects h fine y w hy) lt7 lt6 lt5
          (λ new h' w' locals' rests' grows fine' d l7. subst (Goes B objects waiting) (sym g) go new h' w' count
          locals'
          rests' (Word 7) grows fine'
          (w, d, lower, f, carried_still walk low A IsHeld still is_solid objects new grows y w hy) l7)
          _ _ refl l8 l9)))
          (omega arith, omega arith, omega arith, omega arith)

  pub dyn_part_done : (B : Budget) (objects : List Object) (h : Heap)
      (fine : Fine walk.setting walk.l walk.around objects h) → HaveParts walk.l IsHeld objects parts
      → (waiting : List Waiting) (u : Merged A) (wv k label : ℕ) → Carried objects u wv → (r : Outcome A)
      → dyn_part_value head parts walk.l.types k label u ≡ r → (r ≡ Stuck → ⊥) → Goes B objects waiting r
      → Runs (project_cost walk.l.width n) (suc (whole_above walk low A IsHeld still is_solid))
      (dyn_part_words parts walk.l k u) (dyn_part_price parts walk.l k u) B wv k 0 label waiting h
  dyn_part_done B objects h fine tuples waiting (Base hd x) wv k label hv r e some go = absurd (some (sym e))
  dyn_part_done B objects h fine tuples waiting (Solid a) wv k label hv r e some go = absurd (some (sym e))
  dyn_part_done B objects h fine tuples waiting (Proxied a c) wv k label hv r e some go = absurd (some (sym e))
  dyn_part_done B objects h fine tuples waiting (InDyn kept x) wv k label hv r e some go =
      at_most walk
      (if_true walk objects fine 0 0 refl refl refl
      (by_size (small_dyn (R kept) hv.0) refl hv.1 _))
      (omega arith, omega arith, omega arith, omega arith)
    where
      type_head : ℕ
      type_head = header (type_kind (R kept)) (height_in walk.l kept) (length (parts_of (R kept)))

      type_words : List ℕ
      type_words = map walk.l.type_at (parts_of (R kept))

      known : kept < length walk.l.types
      known = by (small_dyn (R kept) hv.0) hv.1
        where
          by : (o : Option ℕ) → IsDynBy walk.l objects o kept hv.0 wv → kept < length walk.l.types
          by (Some small) d = d.1
          by None d = d.2.known

      tk : type_kind (R kept) < 256
      tk = type_numbers (R kept)

      tall : height_in walk.l kept < 65535
      tall = walk.types.low kept

      -- by the row that is kept
      by_row : dyn_part_by head parts walk.l.types (part_to_dyn make walk.l.types (tuple_part (R kept) (pos k)) label) k
          label x ≡ r
      by_row =
          ap (λ o. dyn_part_by head parts walk.l.types (kept_part make walk.l.types o (pos k) label) k label x)
          (sym (place_told walk.l.types kept known)) ∙ e

      -- where there is no such part
      no_part : tuple_part (R kept) (pos k) ≡ None → Goes B objects waiting (Blames label)
      no_part none =
          subst (Goes B objects waiting)
          (sym (ap (λ o. dyn_part_by head parts walk.l.types (part_to_dyn make walk.l.types o label) k label x)
          (sym none)
          ∙ by_row)) go

      -- the label is blamed where what is there stands behind a tag
      from_tag : (tag : ℕ) → tag_of (R kept) ≡ Some tag → (locals : Locals) → locals 3 ≡ Some label
          → (rests : List Code) → ReachedIn walk (More 0 0 0 0 B) (state 12 locals project_blame rests waiting h)
      from_tag tag has locals l3 rests =
          at_most walk
          (no_part (no_tuple (R kept) (pos k) tag has) objects h 12 _ rests waiting (Word 3) (Number 0) 4 5
          (Return (Number 0)) (grows_not objects) fine l3 refl (omega arith) (omega arith))
          (omega arith, omega arith, omega arith, omega arith)

      InObject : Type 0
      InObject =
          (wt : ℕ) × There walk.l objects wv (Fixed dyn_header (wt ∷ hv.0 ∷ [])) × HoldsType walk.l objects wt kept

      from_object : (d : InObject) → (rests : List Code)
          → ReachedIn walk (More (tuple_cost walk.l.width n + 30) (suc (whole_above walk low A IsHeld still is_solid))
          (asks_of k x + 3) (price_of k x + 304) B)
          (state 12 (set_local 4 0 (asked wv k 0 label)) (project_dyn_object walk.first) rests waiting h)
      from_object d rests =
          at_most walk
          (loads walk objects fine wv dyn_header (d.0 ∷ hv.0 ∷ []) 1 d.0 refl d.1 refl refl refl
          (loads walk objects fine wv dyn_header (d.0 ∷ hv.0 ∷ []) 2 hv.0 refl d.1 refl refl refl
          (loads walk objects fine d.0 type_head type_words 0 type_head refl (type_there walk objects d.0 kept d.2) refl
          refl refl
          (computes walk objects fine type_head kind_mask (type_kind (R kept)) refl refl
          (kind_read (type_kind (R kept)) (height_in walk.l kept) (length (parts_of (R kept))) tk) refl
          (computes walk objects fine type_head 32 (length (parts_of (R kept))) refl refl
          (count_read (type_kind (R kept)) (height_in walk.l kept) (length (parts_of (R kept))) (omega (arith, tk))
          (omega (arith, tall))) refl
          (by_sight (sight (R kept) k) _))))))
          (omega arith, omega arith, omega arith, omega arith)
        where
          L : Locals
          L = dyn_read wv k label d.0 hv.0 kept

          with_dyn : (ps : List ℕ) → R kept ≡ TupleRow ps → (part : ℕ) → slice_get ps k ≡ Some part → (dyn : ℕ)
              → dyn_place walk.l.types ≡ Some dyn
              → then_outcome (part_value head parts walk.l.types k x) (cast_value head walk.l.types (make part label
              dyn)) ≡
              r
              → (rests : List Code) → ReachedIn walk (More (tuple_cost walk.l.width n + 18)
              (suc (whole_above walk low A IsHeld still is_solid)) (asks_of k x + 3)
              (price_of k x + 258) B) (state 12 L (project_dyn_part walk.first) rests
              waiting h)
          with_dyn ps row part got dyn place f rests =
              let known =
              each_has (λ p. p < length walk.l.types) ps k part
              (subst (λ y. All (λ p. p < length walk.l.types) (parts_of y)) row (walk.types.parts kept d.2.known)) got
              in
              let below = part_lower R n kept part k ps row got ((walk.types.heights kept n).1 hv.2) in
              let tall_part = (walk.types.heights part below.0).0 below.2 in
              let told : slice_get type_words k ≡ Some (walk.l.type_at part) =
              ap (λ y. slice_get (map walk.l.type_at (parts_of y)) k) row ∙ mapped walk.l.type_at ps k part got in
              let w =
              word_there walk objects h fine d.0 type_head type_words (type_there walk objects d.0 kept d.2) (suc k)
              (walk.l.type_at part) (8 * k + d.0 + 8) told (omega arith) in
              at_most walk
              (computes walk objects fine k 3 (8 * k) refl refl (let z = w.end in omega (arith, z)) refl
              (computes walk objects fine (8 * k) d.0 (8 * k + d.0) refl refl (let z = w.end in omega (arith, z)) refl
              (loads_at walk objects fine (8 * k + d.0) (walk.l.type_at part) refl w refl
              (calls walk objects fine (hv.0 ∷ k ∷ 1 ∷ label ∷ []) (project_proc walk.first) refl
              (walk.stands project_place _ refl)
              refl
              (tuple_part_done _ objects h fine tuples _ x hv.0 k label hv.4 (part_value head parts walk.l.types k x)
              refl
              (λ q. some (sym f ∙ ap (λ o. then_outcome o (cast_value head walk.l.types (make part label dyn))) q))
              (after walk low A IsHeld still is_solid B _ objects waiting _ 9 refl (part_value head parts walk.l.types k
              x)
              (cast_value head walk.l.types (make part label dyn)) (subst (Goes B objects waiting) (sym f) go)
              (λ y go' new h' w2 grows fine' held. in_dyn B new h' fine' waiting 12 _ rests part dyn label y w2 known
              (omega (arith, tall_part, below.1)) (dyn_there walk.l.types dyn place) held refl refl refl refl refl
              (cast_value head walk.l.types (make part label dyn) y) refl (λ q. subst (Goes B objects waiting) q go')
              (rebased walk low A IsHeld still is_solid B objects new waiting grows
              (cast_value head walk.l.types (make part label dyn) y) go'))))))))
              (omega arith, omega arith, omega arith, omega arith)

          by_dyn : (ps : List ℕ) → R kept ≡ TupleRow ps → (part : ℕ) → slice_get ps k ≡ Some part → (o : Option ℕ)
              → dyn_place walk.l.types ≡ o
              → dyn_part_by head parts walk.l.types (cast_to_dyn make o part label) k label x ≡ r → (rests : List Code)
              → ReachedIn walk (More (tuple_cost walk.l.width n + 18) (suc (whole_above walk low A IsHeld still
              is_solid))
              (asks_of k x + 3) (price_of k x + 258) B)
              (state 12 L (project_dyn_part walk.first) rests waiting h)
          by_dyn ps row part got None place f rests = absurd (some (sym f))
          by_dyn ps row part got (Some dyn) place f rests = with_dyn ps row part got dyn place f rests

          by_sight : Sight (R kept) k → (rests : List Code)
              → ReachedIn walk (More (tuple_cost walk.l.width n + 22) (suc (whole_above walk low A IsHeld still
              is_solid))
              (asks_of k x + 3) (price_of k x + 285) B)
              (state 12 L (either Eq (Word 7) (Number 21) (either Ltu (Word 1) (Word 6) (project_dyn_part walk.first)
              project_blame) project_blame) rests waiting h)
          by_sight (NotTuple other none) rests =
              at_most walk
              (if_false walk objects fine (type_kind (R kept)) 21 refl refl other
              (blamed {B = B} objects h fine waiting _ wv k label d.0 hv.0 kept (no_part none)))
              (omega arith, omega arith, omega arith, omega arith)
          by_sight (Short ps row le) rests =
              let long : length (parts_of (R kept)) ≡ length ps = ap (λ y. length (parts_of y)) row in
              at_most walk
              (if_true walk objects fine (type_kind (R kept)) 21 refl refl (eq_true (type_kind (R kept)) 21 (ap
              type_kind
              row))
              (if_false walk objects fine k (length (parts_of (R kept))) refl refl
              (lt_false k (length (parts_of (R kept))) (omega (arith, long, le)))
              (blamed {B = B} objects h fine waiting _ wv k label d.0 hv.0 kept
              (no_part (ap (λ y. tuple_part y (pos k)) row ∙ beyond ps k le)))))
              (omega arith, omega arith, omega arith, omega arith)
          by_sight (HasPart ps part row got) rests =
              let long : length (parts_of (R kept)) ≡ length ps = ap (λ y. length (parts_of y)) row in
              let less = inside ps k part got in
              at_most walk
              (if_true walk objects fine (type_kind (R kept)) 21 refl refl (eq_true (type_kind (R kept)) 21 (ap
              type_kind
              row))
              (if_true walk objects fine k (length (parts_of (R kept))) refl refl
              (lt_true k (length (parts_of (R kept))) (omega (arith, long, less)))
              (by_dyn ps row part got (dyn_place walk.l.types) refl
              (ap (λ o. dyn_part_by head parts walk.l.types (part_to_dyn make walk.l.types o label) k label x)
              (sym (ap (λ y. tuple_part y (pos k)) row ∙ got)) ∙ by_row) _)))
              (omega arith, omega arith, omega arith, omega arith)

      by_size : (o : Option ℕ) → small_dyn (R kept) hv.0 ≡ o → IsDynBy walk.l objects o kept hv.0 wv
          → (rests : List Code)
          → ReachedIn walk (More (tuple_cost walk.l.width n + 34) (suc (whole_above walk low A IsHeld still is_solid))
          (asks_of k x + 3) (price_of k x + 323) B)
          (state 12 (asked wv k 0 label) (project_dyn walk.first) rests waiting h)
      by_size (Some small) e d rests =
          let s = small_is (R kept) hv.0 small e in
          let tag_is : compute And wv 7 ≡ s.tag =
          ap (λ y. compute And y 7) (d.0 ∙ s.is) ∙ tag_read s.tag hv.0 (let f = s.few in omega (arith, f)) in
          at_most walk
          (computes walk objects fine wv 7 s.tag refl refl tag_is refl
          (if_false walk objects fine s.tag 0 refl refl (eq_false s.tag 0 (λ z. let p = s.some in omega (arith, z, p)))
          (from_tag s.tag s.has _ refl _)))
          (omega arith, omega arith, omega arith, omega arith)
      by_size None e d rests =
          at_most walk
          (computes walk objects fine wv 7 0 refl refl (no_tag wv (untagged_there walk objects h fine wv _ d.1)) refl
          (if_true walk objects fine 0 0 refl refl refl
          (from_object d _)))
          (omega arith, omega arith, omega arith, omega arith)
