-- A run of a typed program never goes wrong.
use Rattle.std.proofs.Common.{◌≡◌, ◌≢◌, ℕ, zero, suc, ◌<◌, List, [], ◌∷◌, length, Option, Some, None, refl, arith}
use Rattle.std.proofs.Common.{slice_get}
use Rattle.std.specs.Prelude.{option_map}
use Rattle.run_laws.specs.Runs.{Ending, Verdict as EndsWith, Wrong, NeverWrong}
use Rattle.run_laws.proofs.Public.{state_after_keeps, reduction_never_wrong}
use Rattle.grift_base.specs.Types.{TypeRows}
use Rattle.grift_base.specs.declared.places.Pos.{Pos}
use Rattle.grift_base.specs.declared.verdicts.Verdict.{Verdict}
use Rattle.core_calc.specs.Terms.{Term, Value, as_value}
use Rattle.core_calc.specs.Outcome.{Outcome, Goes, Blames, Traps, Stuck}
use Rattle.core_calc.specs.Step.{step}
use Rattle.core_calc.specs.Calculus.{shown_value, CalcEnd, Answered, Blamed, Trapped, NoStep, CalcState, start}
use Rattle.core_calc.specs.Calculus.{state_after_step, blame_at, ending_of, Program, calculus, calc}
use Rattle.core_calc.specs.Typing.{CellType, HasType, IsTypeTable, StoreHasTypes, KeepsType, EndsWell, Stands}
use Rattle.core_calc.specs.Typing.{ProgramTermHasType}
use Rattle.core_calc.proofs.ListPlaces.{some_is_not_none, none_is_not_some}
use Rattle.core_calc.proofs.StepsKeepTypes.{steps_keep_types}

get_below : {A : Type 0} (xs : List A) (k : ℕ) → k < length xs → (a : A) × (slice_get xs k ≡ Some a)
get_below [] k below = absurd (omega arith)
get_below (x ∷ xs) zero below = (x, refl)
get_below (x ∷ xs) (suc k) below = get_below xs k (omega arith)

module _ (types : TypeRows) (labels : ℕ) where
  ends_of_value : (option : Option Value) → EndsWell labels (option_map (λ v. Answered (shown_value v)) option) option
  ends_of_value (Some v) = refl
  ends_of_value None = refl

  stands_after : (state : CalcState) (type : ℕ) (cells : List CellType) (outcome : Outcome Term) → IsTypeTable types →
      StoreHasTypes types labels state.store cells → HasType types labels cells [] state.term type →
      KeepsType types labels type cells outcome → Stands types labels (state_after_step state outcome) type
  stands_after state type cells (Goes term store world) table stored typed kept =
      ((table, kept.0, kept.2, kept.3), ends_of_value (as_value term))
  stands_after state type cells (Blames label) table stored typed kept = ((table, cells, stored, typed), kept)
  stands_after state type cells (Traps trap world) table stored typed kept = ((table, cells, stored, typed), tt)
  stands_after state type cells Stuck table stored typed kept = absurd kept

  running_is_no_value : (ended : Option CalcEnd) (option : Option Value) → EndsWell labels ended option → ended ≡ None →
      option ≡ None
  running_is_no_value None option h e = h
  running_is_no_value (Some end) option h e = absurd (some_is_not_none end e)

  pub stands_on : (state : CalcState) (type : ℕ) → Stands types labels state type → state.ended ≡ None →
      Stands types labels (state_after_step state (step types state.store state.world state.term)) type
  stands_on state type h e =
      stands_after state type h.0.1 (step types state.store state.world state.term) h.0.0 h.0.2 h.0.3
      (steps_keep_types types labels h.0.0 h.0.1 state.store h.0.2 state.world state.term type h.0.3
      (running_is_no_value state.ended (as_value state.term) h.1 e))

running : (labels : List Pos) (ended : Option CalcEnd) → option_map (ending_of labels) ended ≡ None → ended ≡ None
running labels None e = refl
running labels (Some end) e = absurd (some_is_not_none (ending_of labels end) e)

some_verdict : (v : Verdict) → ◌≡◌ {A = Option (Ending Verdict)} (Some (EndsWith v)) (Some Wrong) → ⊥
some_verdict v e = cc

blame_has_place : (option : Option Pos) (place : Pos) → option ≡ Some place →
    ◌≡◌ {A = Option (Ending Verdict)} (Some (blame_at option)) (Some Wrong) → ⊥
blame_has_place (Some other) place e wrong = cc
blame_has_place None place e wrong = none_is_not_some place e

not_wrong : (labels : List Pos) (ended : Option CalcEnd) (option : Option Value) →
    EndsWell (length labels) ended option → option_map (ending_of labels) ended ≢ Some Wrong
not_wrong labels None option h wrong = none_is_not_some Wrong wrong
not_wrong labels (Some (Answered shown)) option h wrong = cc
not_wrong labels (Some (Blamed label)) option h wrong =
    let place = get_below labels label h in
    blame_has_place (slice_get labels label) place.0 place.1 wrong
not_wrong labels (Some (Trapped trap)) option h wrong = cc
not_wrong labels (Some NoStep) option h wrong = h

start_stands : (program : Program) (input : List ℕ) (type : ℕ) →
    ProgramTermHasType program.types (length program.labels) program.term type →
    Stands program.types (length program.labels) (start program.term input) type
start_stands program input type h = (
  (h.0, [], (refl, λ place cell cell_type e f. absurd (none_is_not_some cell e)), h.3),
  ends_of_value program.types (length program.labels) (as_value program.term),
)

pub typed_programs_never_go_wrong-never_wrong : (program : Program) (input : List ℕ) (type : ℕ) →
    ProgramTermHasType program.types (length program.labels) program.term type → NeverWrong (calc program input)
typed_programs_never_go_wrong-never_wrong program input type h =
    reduction_never_wrong (calculus program.types program.labels)
    (λ state. Stands program.types (length program.labels) state type) (λ state stands e.
    stands_on program.types (length program.labels) state type stands (running program.labels state.ended e))
    (λ state stands. not_wrong program.labels state.ended (as_value state.term) stands.1) (start program.term input)
    (start_stands program input type h)

-- at each moment the state has the type
pub typed_programs_never_go_wrong-typed : (program : Program) (input : List ℕ) (type : ℕ) (n : ℕ) →
    ProgramTermHasType program.types (length program.labels) program.term type →
    Stands program.types (length program.labels) (calc program input n).shown type
typed_programs_never_go_wrong-typed program input type n h =
    state_after_keeps (calculus program.types program.labels)
    (λ state. Stands program.types (length program.labels) state type) (λ state stands e.
    stands_on program.types (length program.labels) state type stands (running program.labels state.ended e)) n
    (start program.term input) (start_stands program input type h)
