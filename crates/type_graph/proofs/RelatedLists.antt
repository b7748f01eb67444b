-- Whether numbers are related one by one, as far as they are gone through.
use Rattle.std.proofs.Common.{◌≡◌, ℕ, zero, suc, ◌+◌, ◌<◌, Bool, true, false, List, [], ◌∷◌, ◌++◌, length, take}
use Rattle.std.proofs.Common.{get_or, refl, ap, ap₂, ◌∙◌, subst, arith, Result}
use Rattle.std.specs.Prelude.{◌&&◌, IfOk}
use Rattle.std.proofs.lemmas.Bool.{and_parts}
use Rattle.std.proofs.lemmas.List.{map_more}
use Rattle.grift_base.specs.declared.places.TypeId.{TypeId}
use Rattle.type_graph.specs.Rows.{places_of}
use Rattle.type_graph.specs.Trees.{related}
use Rattle.type_graph.proofs.RowParts.{nowhere}

related-push : (f : ℕ → ℕ → Bool) (xs ys : List ℕ) (x y : ℕ) → related f xs ys ≡ true → f x y ≡ true →
    related f (xs ++ x ∷ []) (ys ++ y ∷ []) ≡ true
related-push f [] [] x y e h = ap (λ b. b && true) h
related-push f [] (z ∷ ys) x y e h = cc
related-push f (w ∷ xs) [] x y e h = cc
related-push f (w ∷ xs) (z ∷ ys) x y e h =
    let both = and_parts (f w z) (related f xs ys) e in
    ap₂ ◌&&◌ both.0 (related-push f xs ys x y both.1 h)

-- one pair more, of lists of one length
pub related_more : (f : ℕ → ℕ → Bool) (xs ys : List TypeId) → length xs ≡ length ys → (k : ℕ) → k < length xs →
    related f (places_of (take k xs)) (places_of (take k ys)) ≡ true →
    f (get_or xs k nowhere).0 (get_or ys k nowhere).0 ≡ true →
    related f (places_of (take (k + 1) xs)) (places_of (take (k + 1) ys)) ≡ true
related_more f xs ys same k within e h =
    ap₂ (λ a b. related f a b) (map_more (λ (id : TypeId). id.0) xs k nowhere within)
    (map_more (λ (id : TypeId). id.0) ys k nowhere (omega arith))
    ∙ related-push f (places_of (take k xs)) (places_of (take k ys)) (get_or xs k nowhere).0 (get_or ys k nowhere).0 e h

and_false : (b : Bool) → (b && false) ≡ false
and_false true = refl
and_false false = refl

-- a pair that is not related spoils the lists
pub related_fails : (f : ℕ → ℕ → Bool) (xs ys : List TypeId) → length xs ≡ length ys → (k : ℕ) → k < length xs →
    f (get_or xs k nowhere).0 (get_or ys k nowhere).0 ≡ false → related f (places_of xs) (places_of ys) ≡ false
related_fails f [] ys same k within e = absurd (omega arith)
related_fails f (x ∷ xs) [] same k within e = absurd (omega arith)
related_fails f (x ∷ xs) (y ∷ ys) same zero within e = ap (λ b. b && related f (places_of xs) (places_of ys)) e
related_fails f (x ∷ xs) (y ∷ ys) same (suc k) within e =
    ap (λ b. f x.0 y.0 && b) (related_fails f xs ys (omega arith) k (omega arith) e) ∙ and_false (f x.0 y.0)

-- lists of other lengths are not related
pub related_lengths : (f : ℕ → ℕ → Bool) (xs ys : List TypeId) → (length xs ≡ length ys → ⊥) →
    related f (places_of xs) (places_of ys) ≡ false
related_lengths f [] [] differ = absurd (differ refl)
related_lengths f [] (y ∷ ys) differ = refl
related_lengths f (x ∷ xs) [] differ = refl
related_lengths f (x ∷ xs) (y ∷ ys) differ =
    ap (λ b. f x.0 y.0 && b) (related_lengths f xs ys (λ e. differ (ap suc e))) ∙ and_false (f x.0 y.0)

-- what is answered is another fact where that is the same
pub same_answer : {E : Type 0} (r : Result Bool E) (x y : Bool) → IfOk r (λ answer. answer ≡ x) → x ≡ y →
    IfOk r (λ answer. answer ≡ y)
same_answer r x y h e = subst (λ (z : Bool). IfOk r (λ answer. answer ≡ z)) e h
