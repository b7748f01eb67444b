-- How runs of the calculus end.
use Rattle.std.proofs.Common.{◌≡◌, ◌↔◌, ℕ, List, Option, Some, None, refl, sym, ap, ◌∙◌}
use Rattle.std.specs.Prelude.{option_map}
use Rattle.run_laws.proofs.Public.{state_after_keeps}
use Rattle.grift_base.specs.World.{WorldState}
use Rattle.grift_base.specs.Types.{TypeRows}
use Rattle.grift_base.specs.declared.places.Pos.{Pos}
use Rattle.grift_base.specs.declared.verdicts.Answer.{Answer}
use Rattle.grift_base.specs.declared.verdicts.Trap.{Trap}
use Rattle.core_calc.specs.Terms.{Term, Value, IntLit, BoolLit, UnitLit, ValueTerm, as_value}
use Rattle.core_calc.specs.Outcome.{Store, Outcome, Goes, Blames, Traps, Stuck}
use Rattle.core_calc.specs.Step.{step}
use Rattle.core_calc.specs.Calculus.{shown_value, CalcEnd, Answered, Blamed, Trapped, NoStep, CalcState, start}
use Rattle.core_calc.specs.Calculus.{state_after_step, ending_of, Program, calculus, calc}

none_is_not_some : {A : Type 0} (a : A) → None ≡ Some a → ⊥
none_is_not_some a e = cc

-- a value takes no step
pub value_takes_no_step : (types : TypeRows) (store : Store) (world : WorldState) (term : Term) (v : Value) →
    as_value term ≡ Some v → step types store world term ≡ Stuck
value_takes_no_step types store world (IntLit n) v e = refl
value_takes_no_step types store world (BoolLit b) v e = refl
value_takes_no_step types store world UnitLit v e = refl
value_takes_no_step types store world (ValueTerm u) v e = refl
value_takes_no_step types store world _ v e = absurd (none_is_not_some v e)

-- ---- a run has ended with an answer just where the term is a value

-- an end fits the value that the term is, or that it is none
abbrev Fits : Option CalcEnd → Option Value → Type 0
Fits (Some (Answered shown)) (Some v) = shown ≡ shown_value v
Fits (Some (Answered shown)) None = ⊥
Fits _ (Some v) = ⊥
Fits _ None = Unit {0}

fits_of_term : (option : Option Value) → Fits (option_map (λ v. Answered (shown_value v)) option) option
fits_of_term (Some v) = refl
fits_of_term None = tt

running_is_no_value : (ended : Option CalcEnd) (option : Option Value) → ended ≡ None → Fits ended option →
    option ≡ None
running_is_no_value ended None e fits = refl
running_is_no_value None (Some v) e fits = absurd fits
running_is_no_value (Some end) (Some v) e fits = absurd (none_is_not_some end (sym e))

running : (labels : List Pos) (ended : Option CalcEnd) → option_map (ending_of labels) ended ≡ None → ended ≡ None
running labels None e = refl
running labels (Some end) e = absurd (none_is_not_some (ending_of labels end) (sym e))

fits_blamed : (label : ℕ) (option : Option Value) → option ≡ None → Fits (Some (Blamed label)) option
fits_blamed label None e = tt
fits_blamed label (Some v) e = absurd (none_is_not_some v (sym e))

fits_trapped : (trap : Trap) (option : Option Value) → option ≡ None → Fits (Some (Trapped trap)) option
fits_trapped trap None e = tt
fits_trapped trap (Some v) e = absurd (none_is_not_some v (sym e))

fits_no_step : (option : Option Value) → option ≡ None → Fits (Some NoStep) option
fits_no_step None e = tt
fits_no_step (Some v) e = absurd (none_is_not_some v (sym e))

fits_after_step : (state : CalcState) (outcome : Outcome Term) → as_value state.term ≡ None →
    Fits (state_after_step state outcome).ended (as_value (state_after_step state outcome).term)
fits_after_step state (Goes term store world) e = fits_of_term (as_value term)
fits_after_step state (Blames label) e = fits_blamed label (as_value state.term) e
fits_after_step state (Traps trap world) e = fits_trapped trap (as_value state.term) e
fits_after_step state Stuck e = fits_no_step (as_value state.term) e

module _ (program : Program) (input : List ℕ) (n : ℕ) where
  abbrev state : CalcState
  state = (calc program input n).shown

  fits : Fits state.ended (as_value state.term)
  fits =
      state_after_keeps (calculus program.types program.labels) (λ s. Fits s.ended (as_value s.term)) keeps n
      (start program.term input) (fits_of_term (as_value program.term))
    where
      keeps : (s : CalcState) → Fits s.ended (as_value s.term) → option_map (ending_of program.labels) s.ended ≡ None →
          Fits (state_after_step s (step program.types s.store s.world s.term)).ended
          (as_value (state_after_step s (step program.types s.store s.world s.term)).term)
      keeps s fit e =
          fits_after_step s (step program.types s.store s.world s.term) (running_is_no_value s.ended (as_value s.term)
          (running program.labels s.ended e) fit)

answer_of_value : (ended : Option CalcEnd) (option : Option Value) → Fits ended option → (shown : Answer) →
    ended ≡ Some (Answered shown) ↔ option_map shown_value option ≡ Some shown
answer_of_value (Some (Answered a)) (Some v) fits shown = (
  λ e. ap Some (sym fits) ∙ answered_alike a shown e,
  λ e. ap (λ x. Some (Answered x)) fits ∙ ap (λ (o : Option Answer). option_map Answered o) e,
)
  where
    answered_alike : (a b : Answer) → ◌≡◌ {A = Option CalcEnd} (Some (Answered a)) (Some (Answered b)) → Some a ≡ Some b
    answered_alike a b e = cc
answer_of_value (Some (Answered a)) None fits shown = absurd fits
answer_of_value ended None fits shown =
    (λ e. absurd (no_answer ended fits shown e), λ e. absurd (none_is_not_some shown e))
  where
    no_answer : (ended : Option CalcEnd) → Fits ended None → (shown : Answer) → ended ≡ Some (Answered shown) → ⊥
    no_answer None fits shown e = none_is_not_some (Answered shown) e
    no_answer (Some (Answered a)) fits shown e = fits
    no_answer (Some (Blamed label)) fits shown e = cc
    no_answer (Some (Trapped trap)) fits shown e = cc
    no_answer (Some NoStep) fits shown e = cc
answer_of_value None (Some v) fits shown = absurd fits
answer_of_value (Some (Blamed label)) (Some v) fits shown = absurd fits
answer_of_value (Some (Trapped trap)) (Some v) fits shown = absurd fits
answer_of_value (Some NoStep) (Some v) fits shown = absurd fits

-- at every moment of every run
pub answers_are_values : (program : Program) (input : List ℕ) (n : ℕ) (shown : Answer) →
    (calc program input n).shown.ended ≡ Some (Answered shown) ↔
    option_map shown_value (as_value (calc program input n).shown.term) ≡ Some shown
answers_are_values program input n shown =
    answer_of_value (calc program input n).shown.ended (as_value (calc program input n).shown.term)
    (fits program input n) shown
