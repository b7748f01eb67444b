-- The coercion of a cast from a type without parts: Id to the same type, and Fail to each other one.
use Rattle.std.proofs.Common.{◌≡◌, ℕ, Bool, true, false, cond, Some, refl, sym, ap, ◌∙◌, subst, nat_eq, eqb-true}
use Rattle.grift_base.specs.Types.{TypeRow, same_head}
use Rattle.coercion_norm.specs.Coercions.{Coercion, Id, Fail, kind_of}
use Rattle.coercion_norm.specs.Composition.{coerce_middle, coerce_solid}
use Rattle.coercion_norm.specs.ObjectsOfRows.{type_kind}
use Rattle.rt_cast.specs.DynWords.{tag_of}
use Rattle.rt_cast.proofs.DynWords.{heads_by_kinds, tagged_has_no_kind}
use Rattle.rt_cast.proofs.HeaderNumbers.{eq_true}

true_false : {A : Type 0} → true ≡ false → A
true_false e = absurd (let z : ⊥ = cc in z)

module _ (rows : ℕ → TypeRow) (next : ℕ → ℕ → ℕ → Coercion) (from to label tag : ℕ)
    (has : tag_of (rows from) ≡ Some tag) where
  pub same_base : same_head (rows from) (rows to) ≡ true → coerce_solid rows next from to label ≡ Id
  same_base same = by (nat_eq from to)
    where
      middle_is : coerce_middle rows next (kind_of (rows from)) from to label ≡ Id
      middle_is = ap (λ k. coerce_middle rows next k from to label) (tagged_has_no_kind (rows from) tag has)

      by : (b : Bool)
          → cond b Id (cond (same_head (rows from) (rows to))
          (coerce_middle rows next (kind_of (rows from)) from to label) (Fail label)) ≡ Id
      by true = refl
      by false =
          ap (λ b. cond b (coerce_middle rows next (kind_of (rows from)) from to label) (Fail label)) same ∙ middle_is

  pub other_base : same_head (rows from) (rows to) ≡ false → coerce_solid rows next from to label ≡ Fail label
  other_base other = by (nat_eq from to) refl
    where
      own : same_head (rows from) (rows from) ≡ true
      own =
          heads_by_kinds (rows from) (rows from) tag has
          ∙ eq_true (type_kind (rows from)) (type_kind (rows from)) refl

      by : (b : Bool) → nat_eq from to ≡ b
          → cond b Id (cond (same_head (rows from) (rows to))
          (coerce_middle rows next (kind_of (rows from)) from to label) (Fail label)) ≡ Fail label
      by true e =
          true_false (sym own ∙ subst (λ t. same_head (rows from) (rows t) ≡ false) (sym (eqb-true from to e)) other)
      by false e =
          ap (λ b. cond b (coerce_middle rows next (kind_of (rows from)) from to label) (Fail label)) other
