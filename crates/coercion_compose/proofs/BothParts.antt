-- Parts of two middles, composed one after the other.
use Rattle.std.proofs.Common.{◌≡◌, ℕ, suc, ◌+◌, ◌<◌, min, nat_eq, Bool, true, false, refl, sym, ap, ◌∙◌}
use Rattle.std.proofs.Common.{subst, List, [], ◌∷◌, length, get_or, inl, inr, ◌⊎◌, arith}
use Rattle.std.proofs.lemmas.List.{length-map}
use Rattle.std.proofs.lemmas.Bool.{eq-eqb}
use Rattle.std.proofs.lemmas.Bool.Decides.{eqb_tells}
use Rattle.coercion_norm.specs.declared.nodes.CoercionId.{CoercionId}
use Rattle.coercion_norm.specs.declared.middles.MiddleKind.{MiddleKind as Kind}
use Rattle.coercion_norm.specs.Coercions.{Coercion, CoercionThen, is_end, runs_back}
use Rattle.coercion_norm.specs.Composition.{follow_part, follow_parts}
use Rattle.coercion_norm.specs.Nodes.{Node, Grows, IsTree, PartsBefore, coercion_places, tree_of, trees}
use Rattle.coercion_norm.specs.CoercionTables.{AreMade}
use Rattle.coercion_norm.proofs.Public.{tree_kept}

one_less : (k n : ℕ) → nat_eq (suc k + 1) (suc n) ≡ nat_eq (k + 1) n
one_less k n = go (eqb_tells (k + 1) n)
  where
    go : ((nat_eq (k + 1) n ≡ true) × (k + 1 ≡ n)) ⊎ ((nat_eq (k + 1) n ≡ false) × (k + 1 ≡ n → ⊥))
        → nat_eq (suc k + 1) (suc n) ≡ nat_eq (k + 1) n
    go (inl h) = let e : k + 1 ≡ n = h.1 in eq-eqb (suc k + 1) (suc n) (omega arith) ∙ sym h.0
    go (inr h) = other (eqb_tells (suc k + 1) (suc n)) ∙ sym h.0
      where
        other : ((nat_eq (suc k + 1) (suc n) ≡ true) × (suc k + 1 ≡ suc n))
            ⊎ ((nat_eq (suc k + 1) (suc n) ≡ false) × (suc k + 1 ≡ suc n → ⊥))
            → nat_eq (suc k + 1) (suc n) ≡ false
        other (inl g) = let e : suc k + 1 ≡ suc n = g.1 in absurd (h.1 (omega arith))
        other (inr g) = g.0

first_last : (at : ℕ → Coercion) (cs : List ℕ) → nat_eq (0 + 1) (suc (length cs)) ≡ is_end (trees at cs)
first_last at [] = refl
first_last at (c ∷ cs) = go (eqb_tells 1 (suc (suc (length cs))))
  where
    go : ((nat_eq 1 (suc (suc (length cs))) ≡ true) × (1 ≡ suc (suc (length cs))))
        ⊎ ((nat_eq 1 (suc (suc (length cs))) ≡ false) × (1 ≡ suc (suc (length cs)) → ⊥))
        → nat_eq 1 (suc (suc (length cs))) ≡ false
    go (inl h) = let e : 1 ≡ suc (suc (length cs)) = h.1 in absurd (omega arith)
    go (inr h) = h.0

module _ (next : Coercion → Coercion → Coercion) (kind : Kind) where
  -- part k of what follows, over the coercions of the parts
  abbrev pub part_of_both : (ℕ → Coercion) → List ℕ → List ℕ → ℕ → ℕ → Coercion
  part_of_both at cs ds width k =
      follow_part next (runs_back kind (nat_eq (k + 1) width)) (at (get_or cs k 0)) (at (get_or ds k 0))

  both_are : (here at : ℕ → Coercion) (xs cs ds : List ℕ) → length xs ≡ min (length cs) (length ds)
      → ((k : ℕ) → k < length xs → here (get_or xs k 0) ≡ part_of_both at cs ds (length cs) k)
      → trees here xs ≡ follow_parts next kind (trees at cs) (trees at ds)
  both_are here at [] [] ds e h = refl
  both_are here at (x ∷ xs) [] ds e h = absurd (omega arith)
  both_are here at [] (c ∷ cs) [] e h = refl
  both_are here at (x ∷ xs) (c ∷ cs) [] e h = absurd (omega arith)
  both_are here at [] (c ∷ cs) (d ∷ ds) e h = absurd (omega arith)
  both_are here at (x ∷ xs) (c ∷ cs) (d ∷ ds) e h =
      ap (λ y. CoercionThen y (trees here xs))
      (h 0 (omega arith) ∙ ap (λ l. follow_part next (runs_back kind l) (at c) (at d)) (first_last at cs))
      ∙ ap (CoercionThen (follow_part next (runs_back kind (is_end (trees at cs))) (at c) (at d)))
      (both_are here at xs cs ds (omega arith)
      (λ k l. h (suc k) (omega arith)
      ∙ ap (λ l. follow_part next (runs_back kind l) (at (get_or cs k 0)) (at (get_or ds k 0)))
      (one_less k (length cs))))

  pub both_made : (nodes : List Node) (at : ℕ → Coercion) (firsts seconds es : List CoercionId) (width j : ℕ)
      → width ≡ length firsts → j ≡ min width (length seconds)
      → AreMade nodes es j (part_of_both at (coercion_places firsts) (coercion_places seconds) width)
      → trees (tree_of nodes) (coercion_places es)
      ≡ follow_parts next kind (trees at (coercion_places firsts)) (trees at (coercion_places seconds))
  both_made nodes at firsts seconds es width j ew ej made =
      let many : length es ≡ j = made.as_many in
      let es_many : length (coercion_places es) ≡ length es = length-map es (λ (x : CoercionId). x.0) in
      let cs_many : length (coercion_places firsts) ≡ length firsts = length-map firsts (λ (x : CoercionId). x.0) in
      let ds_many : length (coercion_places seconds) ≡ length seconds = length-map seconds (λ (x : CoercionId). x.0) in
      let wide : width ≡ length (coercion_places firsts) = omega arith in
      both_are (tree_of nodes) at (coercion_places es) (coercion_places firsts) (coercion_places seconds) (omega arith)
      (λ k l. (made.each k (omega arith)).is
      ∙ ap (λ w. part_of_both at (coercion_places firsts) (coercion_places seconds) w k) wide)

  -- a part as it was composed, over the coercions of the table as it was
  pub both_part : (old now new : List Node) (cs ds : List ℕ) (width j place here there : ℕ) (back : Bool)
      → PartsBefore old → Grows old now → back ≡ runs_back kind (nat_eq (j + 1) width)
      → here ≡ get_or cs j 0 → there ≡ get_or ds j 0 → get_or cs j 0 < length old → get_or ds j 0 < length old
      → IsTree new place (follow_part next back (tree_of now here) (tree_of now there))
      → IsTree new place (part_of_both (tree_of old) cs ds width j)
  both_part old now new cs ds width j place here there back before grows eb eh et lh lt is =
      subst (IsTree new place)
      (ap (λ b. follow_part next b (tree_of now here) (tree_of now there)) eb
      ∙ ap (λ x. follow_part next (runs_back kind (nat_eq (j + 1) width)) x (tree_of now there))
      (ap (tree_of now) eh ∙ tree_kept old now before grows (get_or cs j 0) lh)
      ∙ ap (λ y. follow_part next (runs_back kind (nat_eq (j + 1) width)) (tree_of old (get_or cs j 0)) y)
      (ap (tree_of now) et ∙ tree_kept old now before grows (get_or ds j 0) lt)) is
