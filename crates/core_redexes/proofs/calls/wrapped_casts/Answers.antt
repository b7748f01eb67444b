use Rattle.std.proofs.Common.{◌≡◌, ◌∙◌, ◌⊎◌, inl, inr, ℕ, List, Option, Some, None, ap, sym}
use Rattle.std.specs.Prelude.{true, false, option_map}
use Rattle.grift_base.specs.Types.{TypeRow, FunRow}
use Rattle.core_calc.specs.Calls.{cast_arguments}
use Rattle.core_calc.specs.Terms.{Terms}
use Rattle.core_redexes.specs.Taken.{as_many, casts, wrapped_casts}
use Rattle.core_redexes.proofs.Entering.{as_many_mapped, casts_are, no_casts, no_casts_to}
use Rattle.core_redexes.proofs.calls.wrapped_casts.Goals as goal

-- both types are functions: the arguments in casts, or none, are what is wrapped

both_functions : (first second : Option TypeRow) (inner outer : List ℕ) (answer wanted : ℕ) (terms : Terms)
    (label : ℕ) → Some (FunRow inner answer) ≡ first → Some (FunRow outer wanted) ≡ second →
    option_map (λ casts. (casts, answer, wanted)) (cast_arguments terms outer inner label)
    ≡ wrapped_casts first second terms label
both_functions first second inner outer answer wanted terms label e f =
    ap (λ o. wrapped_casts o (Some (FunRow outer wanted)) terms label) e
    ∙ ap (λ o. wrapped_casts first o terms label) f

wrapped : (first second : Option TypeRow) (inner outer : List ℕ) (answer wanted : ℕ) (terms made : Terms)
    (label : ℕ) → Some (FunRow inner answer) ≡ first → Some (FunRow outer wanted) ≡ second →
    as_many outer terms ≡ true → as_many inner terms ≡ true → made ≡ casts terms outer inner label →
    Some (made, answer, wanted) ≡ wrapped_casts first second terms label
wrapped first second inner outer answer wanted terms made label e f g h k =
    ap (λ x. Some (x, answer, wanted)) k
    ∙ sym (ap (option_map (λ casts. (casts, answer, wanted))) (casts_are terms outer inner label g h))
    ∙ both_functions first second inner outer answer wanted terms label e f

not_wrapped : (first second : Option TypeRow) (inner outer : List ℕ) (answer wanted : ℕ) (terms : Terms)
    (label : ℕ) → Some (FunRow inner answer) ≡ first → Some (FunRow outer wanted) ≡ second →
    (as_many outer terms ≡ false) ⊎ (as_many inner terms ≡ false) → None ≡ wrapped_casts first second terms label
not_wrapped first second inner outer answer wanted terms label e f other =
    sym (ap (option_map (λ casts. (casts, answer, wanted))) (no_cast other))
    ∙ both_functions first second inner outer answer wanted terms label e f
  where
    no_cast : (as_many outer terms ≡ false) ⊎ (as_many inner terms ≡ false) →
        cast_arguments terms outer inner label ≡ None
    no_cast (inl g) = no_casts terms outer inner label g
    no_cast (inr g) = no_casts_to terms outer inner label g

pub returns : goal.returns
returns c =
    wrapped _ _ _ _ _ _ _ _ _ (rw c.in-Some-Fun.field-0-is at c.in-Some-Fun.ensures)
    (rw c.in-Some-Fun-row.field-0-is at c.in-Some-Fun-row.ensures)
    (as_many_mapped _ _ _ _ _ _ c.as_slice.ensures c.as_many.ensures c.if-not-as_many.false)
    (as_many_mapped _ _ _ _ _ _ c.as_slice-2.ensures c.as_many-2.ensures c.if-not-as_many-2.false)
    (rw (c.as_slice-outer.ensures, c.as_slice-inner.ensures) at c.in_ok-casts.ensures)

pub returns-then-not-as_many : goal.returns-then-not-as_many
returns-then-not-as_many c =
    not_wrapped _ _ _ _ _ _ _ _ (rw c.in-Some-Fun.field-0-is at c.in-Some-Fun.ensures)
    (rw c.in-Some-Fun-row.field-0-is at c.in-Some-Fun-row.ensures)
    (inl (as_many_mapped _ _ _ _ _ _ c.as_slice.ensures c.as_many.ensures c.if-not-as_many.true))

pub returns-then-not-as_many-2 : goal.returns-then-not-as_many-2
returns-then-not-as_many-2 c =
    not_wrapped _ _ _ _ _ _ _ _ (rw c.in-Some-Fun.field-0-is at c.in-Some-Fun.ensures)
    (rw c.in-Some-Fun-row.field-0-is at c.in-Some-Fun-row.ensures)
    (inr (as_many_mapped _ _ _ _ _ _ c.as_slice-2.ensures c.as_many-2.ensures c.if-not-as_many-2.true))
