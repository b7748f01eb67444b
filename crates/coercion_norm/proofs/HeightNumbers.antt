-- Heights as numbers say the same as bounds.
use Rattle.std.proofs.Common.{ℕ, zero, suc, ◌≤◌, max, arith}
use Rattle.grift_base.specs.Types.{TypeRow}
use Rattle.coercion_norm.specs.Coercions.{Coercion, Coercions, Id, Fail, Middle, Inject, Project, NoCoercions}
use Rattle.coercion_norm.specs.Coercions.{CoercionThen}
use Rattle.coercion_norm.specs.Composition.{coerce_to, compose_to}
use Rattle.coercion_norm.specs.Heights.{NoHigher, AllNoHigher, coercion_height, highest, AreHeights}
use Rattle.coercion_norm.proofs.HeightLemmas.{coerce_height, compose_height}

module _ (rows : ℕ → TypeRow) (type_height : ℕ → ℕ) (heights : AreHeights rows type_height) where
  mutual
    pub bound_from_height : (c : Coercion) (n : ℕ) → coercion_height type_height c ≤ n → NoHigher rows c n
    bound_from_height Id n h = tt
    bound_from_height (Fail label) n h = tt
    bound_from_height (Middle kind parts) zero h = absurd (omega arith)
    bound_from_height (Middle kind parts) (suc n) h = bounds_from_highest parts n (omega arith)
    bound_from_height (Inject g kept) n h = (bound_from_height g n (omega arith), (heights kept n).1 (omega arith))
    bound_from_height (Project wanted label i) n h =
        ((heights wanted n).1 (omega arith), bound_from_height i n (omega arith))

    bounds_from_highest : (parts : Coercions) (n : ℕ) → highest type_height parts ≤ n → AllNoHigher rows parts n
    bounds_from_highest NoCoercions n h = tt
    bounds_from_highest (CoercionThen c rest) n h =
        (bound_from_height c n (omega arith), bounds_from_highest rest n (omega arith))

  mutual
    pub height_from_bound : (c : Coercion) (n : ℕ) → NoHigher rows c n → coercion_height type_height c ≤ n
    height_from_bound Id n h = omega arith
    height_from_bound (Fail label) n h = omega arith
    height_from_bound (Middle kind parts) zero h = absurd h
    height_from_bound (Middle kind parts) (suc n) h = let l = highest_from_bounds parts n h in omega arith
    height_from_bound (Inject g kept) n h =
        let l = height_from_bound g n h.0 in let m = (heights kept n).0 h.1 in omega arith
    height_from_bound (Project wanted label i) n h =
        let l = height_from_bound i n h.1 in let m = (heights wanted n).0 h.0 in omega arith

    highest_from_bounds : (parts : Coercions) (n : ℕ) → AllNoHigher rows parts n → highest type_height parts ≤ n
    highest_from_bounds NoCoercions n h = omega arith
    highest_from_bounds (CoercionThen c rest) n h =
        let l = height_from_bound c n h.0 in let m = highest_from_bounds rest n h.1 in omega arith

  -- in numbers: the coercion of a cast is no higher than the higher of its types, and composition than the higher of
  -- both
  pub coerce_no_higher : (made s t p : ℕ) → coercion_height type_height (coerce_to rows made s t p) ≤
      max (type_height s) (type_height t)
  coerce_no_higher made s t p =
      let n = max (type_height s) (type_height t) in
      height_from_bound (coerce_to rows made s t p) n (coerce_height rows made n s t p ((heights s n).1 (omega arith))
      ((heights t n).1 (omega arith)))

  pub compose_no_higher : (made : ℕ) (c d : Coercion) →
      coercion_height type_height (compose_to rows made c d) ≤ max (coercion_height type_height c)
      (coercion_height type_height d)
  compose_no_higher made c d =
      let n = max (coercion_height type_height c) (coercion_height type_height d) in
      height_from_bound (compose_to rows made c d) n
      (compose_height rows made n c d (bound_from_height c n (omega arith)) (bound_from_height d n (omega arith)))
