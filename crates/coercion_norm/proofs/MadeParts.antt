-- Parts that are made one after the other.
use Rattle.std.proofs.Common.{◌≡◌, ◌⊎◌, inl, inr, ℕ, zero, suc, ◌+◌, ◌<◌, nat_eq, Bool, true, false, refl, sym, ap, ◌∙◌}
use Rattle.std.proofs.Common.{subst, List, [], ◌∷◌, ◌++◌, length, get_or, length-append, All, arith}
use Rattle.std.proofs.lemmas.List.{length-map, map-append, get_or_append_left}
use Rattle.std.proofs.lemmas.Bool.{eq-eqb}
use Rattle.std.proofs.lemmas.Bool.Decides.{eqb_tells}
use Rattle.std.proofs.Math.Seq.{get_or-append_seam}
use Rattle.grift_base.specs.Types.{TypeRow}
use Rattle.coercion_norm.specs.declared.nodes.CoercionId.{CoercionId}
use Rattle.coercion_norm.specs.Coercions.{Kind, Coercion, CoercionThen, runs_back, slot}
use Rattle.coercion_norm.specs.StandsFor.{is_none_left}
use Rattle.coercion_norm.specs.Composition.{coerce_part, coerce_parts}
use Rattle.coercion_norm.specs.Nodes.{Node, PartsBefore, IsTree, Grows, coercion_places, trees, tree_of}
use Rattle.coercion_norm.specs.CoercionTables.{AreMade}
use Rattle.coercion_norm.proofs.NodeLemmas.{IsTree-kept}

pub made_none : (nodes : List Node) (cs : List CoercionId) (tree : ℕ → Coercion) → cs ≡ [] → AreMade nodes cs 0 tree
made_none nodes cs tree e = record { as_many = ap (λ xs. length xs) e; each = λ k l. absurd (omega arith) }

places_more : (cs : List CoercionId) (c : CoercionId) → coercion_places (cs ++ c ∷ []) ≡ coercion_places cs ++ c.0 ∷ []
places_more cs c = map-append (λ (x : CoercionId). x.0) cs (c ∷ [])

pub made_more : (nodes new : List Node) (cs ds : List CoercionId) (c : CoercionId) (j : ℕ) (tree : ℕ → Coercion) →
    PartsBefore nodes → Grows nodes new → ds ≡ cs ++ c ∷ []
    → AreMade nodes cs j tree → IsTree new c.0 (tree j) → AreMade new ds (j + 1) tree
made_more nodes new cs ds c j tree t grows e made is =
    let len : length (cs ++ c ∷ []) ≡ length cs + 1 = length-append cs (c ∷ []) in
    let many : length cs ≡ j = made.as_many in
    let places_many : length (coercion_places cs) ≡ length cs = length-map cs (λ (x : CoercionId). x.0) in
    subst (λ xs. AreMade new xs (j + 1) tree) (sym e)
    (record {
      as_many = omega arith;
      each = λ k l.
          subst (λ xs. IsTree new (get_or xs k 0) (tree k)) (sym (places_more cs c))
          (let cases : (k < j) ⊎ (k ≡ j) = grind arith in
          elim cases [
            | inl old ↦ subst (λ p. IsTree new p (tree k))
                (sym (get_or_append_left (coercion_places cs) (c.0 ∷ []) 0 k (omega arith)))
                (IsTree-kept nodes new (get_or (coercion_places cs) k 0) (tree k) t grows (made.each k old))
            | inr now ↦
                let at : k ≡ length (coercion_places cs) = omega arith in
                subst (λ p. IsTree new p (tree k)) (sym (ap (λ i. get_or (coercion_places cs ++ c.0 ∷ []) i 0)
                at ∙ get_or-append_seam (coercion_places cs) c.0 [] 0))
                (subst (λ i. IsTree new c.0 (tree i)) (sym now) is)
          ]);
    })

pub made_there : (nodes : List Node) (cs : List CoercionId) (j : ℕ) (tree : ℕ → Coercion) → AreMade nodes cs j tree →
    All (λ part. part < length nodes) (coercion_places cs)
made_there nodes cs j tree made k d l =
    let many : length cs ≡ j = made.as_many in
    let places_many : length (coercion_places cs) ≡ length cs = length-map cs (λ (x : CoercionId). x.0) in
    subst (λ p. p < length nodes) (get_or_any (coercion_places cs) k 0 d l) (made.each k (omega arith)).within
  where
    get_or_any : (xs : List ℕ) (i a b : ℕ) → i < length xs → get_or xs i a ≡ get_or xs i b
    get_or_any [] i a b l = absurd (omega arith)
    get_or_any (x ∷ xs) zero a b l = refl
    get_or_any (x ∷ xs) (suc i) a b l = get_or_any xs i a b (omega arith)

module _ (rows : ℕ → TypeRow) (next : ℕ → ℕ → ℕ → Coercion) (kind : Kind) (from to label width : ℕ) where
  -- part k of the middle between the types
  abbrev pub part_tree : ℕ → Coercion
  part_tree k = coerce_part rows next (runs_back kind (nat_eq (k + 1) width)) (slot rows k from) (slot rows k to) label

  last_one : (m j : ℕ) → suc m + j ≡ width → nat_eq (j + 1) width ≡ is_none_left m
  last_one zero j e = eq-eqb (j + 1) width (omega arith)
  last_one (suc m) j e = go (eqb_tells (j + 1) width)
    where
      go : ((nat_eq (j + 1) width ≡ true) × (j + 1 ≡ width)) ⊎ ((nat_eq (j + 1) width ≡ false) × (j + 1 ≡ width → ⊥)) →
          nat_eq (j + 1) width ≡ false
      go (inl h) = let e2 : j + 1 ≡ width = h.1 in absurd (omega arith)
      go (inr h) = h.0

  parts_are : (at : ℕ → Coercion) (xs : List ℕ) (n j : ℕ) → length xs ≡ n → n + j ≡ width →
      ((k i : ℕ) → k < n → i ≡ j + k → at (get_or xs k 0) ≡ part_tree i)
      → trees at xs ≡ coerce_parts rows next kind from to label n j
  parts_are at [] zero j e w h = refl
  parts_are at [] (suc n) j e w h = absurd (omega arith)
  parts_are at (x ∷ xs) zero j e w h = absurd (omega arith)
  parts_are at (x ∷ xs) (suc n) j e w h =
      ap (λ c. CoercionThen c (trees at xs)) (h 0 j (omega arith) (omega arith) ∙
      ap (λ b. coerce_part rows next (runs_back kind b) (slot rows j from) (slot rows j to) label) (last_one n j w))
      ∙ ap (CoercionThen (coerce_part rows next (runs_back kind (is_none_left n)) (slot rows j from)
      (slot rows j to) label))
      (parts_are at xs n (suc j) (omega arith) (omega arith) (λ k i l f. h (suc k) i (omega arith) (omega arith)))

  pub made_parts : (nodes : List Node) (cs : List CoercionId) → AreMade nodes cs width part_tree →
      trees (tree_of nodes) (coercion_places cs) ≡ coerce_parts rows next kind from to label width 0
  made_parts nodes cs made =
      let many : length cs ≡ width = made.as_many in
      let places_many : length (coercion_places cs) ≡ length cs = length-map cs (λ (x : CoercionId). x.0) in
      parts_are (tree_of nodes) (coercion_places cs) width 0 (omega arith) (omega arith)
      (λ k i l e. let same : i ≡ k = omega arith in subst (λ x. tree_of nodes (get_or (coercion_places cs) k 0) ≡
      part_tree x) (sym same) (made.each k l).is)

-- a part as it was made, in the words of the slots
pub part_made : (rows : ℕ → TypeRow) (next : ℕ → ℕ → ℕ → Coercion) (kind : Kind) (from to label width j : ℕ)
    (nodes : List Node) (place : ℕ) (back : Bool) (here there : ℕ)
    → back ≡ runs_back kind (nat_eq (j + 1) width) → here ≡ slot rows j from → there ≡ slot rows j to
    → IsTree nodes place (coerce_part rows next back here there label) →
    IsTree nodes place (part_tree rows next kind from to label width j)
part_made rows next kind from to label width j nodes place back here there eb eh et is =
    subst (IsTree nodes place)
    (ap (λ b. coerce_part rows next b here there label) eb
    ∙ ap (λ x. coerce_part rows next (runs_back kind (nat_eq (j + 1) width)) x there label) eh
    ∙ ap (λ y. coerce_part rows next (runs_back kind (nat_eq (j + 1) width)) (slot rows j from) y label) et) is

pub made_all : (rows : ℕ → TypeRow) (next : ℕ → ℕ → ℕ → Coercion) (kind : Kind) (from to label width wide j : ℕ)
    (nodes : List Node) (cs : List CoercionId)
    → width ≡ wide → j ≡ width → AreMade nodes cs j (part_tree rows next kind from to label width) →
    trees (tree_of nodes) (coercion_places cs) ≡ coerce_parts rows next kind from to label wide 0
made_all rows next kind from to label width wide j nodes cs ew ej made =
    made_parts rows next kind from to label width nodes cs
    (subst (λ k. AreMade nodes cs k (part_tree rows next kind from to label width)) ej made)
    ∙ ap (λ n. coerce_parts rows next kind from to label n 0) ew
