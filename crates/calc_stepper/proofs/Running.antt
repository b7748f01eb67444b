-- One step of a state, and many.
use Rattle.std.proofs.Common.{◌≡◌, ℕ, ◌+◌, ◌-◌, ◌<◌, List, Option, Some, None, refl, ap, ◌∙◌, sym, arith}
use Rattle.std.specs.Prelude.{zero, suc, true, false, is_some, option_map}
use Rattle.run_laws.specs.Reductions.{state_after, unless_ended}
use Rattle.run_laws.proofs.Public.{later_steps_go_on_from_earlier_ones-reductions}
use Rattle.grift_base.specs.Types.{TypeRows}
use Rattle.grift_base.specs.World.{WorldState}
use Rattle.grift_base.specs.declared.places.Pos.{Pos}
use Rattle.core_calc.specs.Calculus.{CalcState, CalcEnd, calculus, ending_of, state_after_step}
use Rattle.core_calc.specs.Outcome.{Store, Outcome, Goes, Blames, Traps, Stuck}
use Rattle.core_calc.specs.States.{end_of}
use Rattle.core_calc.specs.declared.ends.Stepped.{Stepped}
use Rattle.core_calc.specs.Step.{step}
use Rattle.core_calc.specs.Terms.{Term}
use Rattle.calc_stepper.specs.Ends.{end_after}
use Rattle.core_redexes.specs.Moves.{After, after}

false_is_not_true : false ≡ true → ⊥
false_is_not_true e = cc

-- the state in which a step leaves a term
abbrev pub landed : After Term → CalcState
landed d = record {
  term = d.item;
  store = d.store;
  world = d.world;
  ended = end_after d.moved d.item;
}

lands : (term : Term) (store : Store) (world : WorldState) (outcome : Outcome Term) →
    state_after_step (record { term = term; store = store; world = world; ended = None }) outcome
    ≡ landed (after outcome term store world)
lands term store world (Goes next s w) = refl
lands term store world (Blames label) = refl
lands term store world (Traps trap w) = refl
lands term store world Stuck = refl

-- a step from a state that has not ended
pub step_lands : (types : TypeRows) (labels : List Pos) (term : Term) (store : Store) (world : WorldState)
    (ended : Option CalcEnd) (d : After Term) → ended ≡ None →
    after (step types store world term) term store world ≡ d →
    landed d
    ≡ state_after (calculus types labels) (record { term = term; store = store; world = world; ended = ended }) 1
step_lands types labels term store world ended d e f =
    sym (ap (λ o. state_after (calculus types labels)
    (record { term = term; store = store; world = world; ended = o }) 1) e
    ∙ lands term store world (step types store world term) ∙ ap landed f)

-- a state that has ended stays
pub ended_stays : (types : TypeRows) (labels : List Pos) (s : CalcState) (end : CalcEnd) (n : ℕ) →
    s.ended ≡ Some end → s ≡ state_after (calculus types labels) s n
ended_stays types labels s end zero e = refl
ended_stays types labels s end (suc n) e =
    ended_stays types labels s end n e
    ∙ sym (ap (λ o. state_after (calculus types labels)
    (unless_ended (option_map (ending_of labels) o) (calculus types labels).step s) n) e)

-- one step, and then those that are left
pub step_then : (types : TypeRows) (labels : List Pos) (s next : CalcState) (n : ℕ) → 0 < n →
    next ≡ state_after (calculus types labels) s 1 →
    state_after (calculus types labels) next (n - 1) ≡ state_after (calculus types labels) s n
step_then types labels s next n l e =
    let k : 1 + (n - 1) ≡ n = omega arith in
    ap (λ x. state_after (calculus types labels) x (n - 1)) e
    ∙ sym (later_steps_go_on_from_earlier_ones-reductions (calculus types labels) 1 (n - 1) s)
    ∙ ap (state_after (calculus types labels) s) k

-- one more step behind those that are made
pub then_step : (types : TypeRows) (labels : List Pos) (s now next : CalcState) (n : ℕ) →
    now ≡ state_after (calculus types labels) s n → next ≡ state_after (calculus types labels) now 1 →
    next ≡ state_after (calculus types labels) s (n + 1)
then_step types labels s now next n e f =
    f ∙ ap (λ x. state_after (calculus types labels) x 1) e
    ∙ sym (later_steps_go_on_from_earlier_ones-reductions (calculus types labels) n 1 s)

-- the same with the end as it is held
pub step_made : (types : TypeRows) (labels : List Pos) (term : Term) (store : Store) (world : WorldState)
    (ended : Option CalcEnd) (d : After Term) (end : Option CalcEnd) → ended ≡ None →
    after (step types store world term) term store world ≡ d → end ≡ end_after d.moved d.item →
    record { term = d.item; store = d.store; world = d.world; ended = end }
    ≡ state_after (calculus types labels) (record { term = term; store = store; world = world; ended = ended }) 1
step_made types labels term store world ended d end e f g =
    ap (λ o. record { term = d.item; store = d.store; world = d.world; ended = o }) g
    ∙ step_lands types labels term store world ended d e f

later : (types : TypeRows) (labels : List Pos) (s now : CalcState) (made left steps : ℕ) →
    now ≡ state_after (calculus types labels) s made → made + left ≡ steps →
    state_after (calculus types labels) now left ≡ state_after (calculus types labels) s steps
later types labels s now made left steps e f =
    ap (λ x. state_after (calculus types labels) x left) e
    ∙ sym (later_steps_go_on_from_earlier_ones-reductions (calculus types labels) made left s)
    ∙ ap (state_after (calculus types labels) s) f

stays_then : (types : TypeRows) (labels : List Pos) (s : CalcState) (end : Option CalcEnd) (n : ℕ) → s.ended ≡ end →
    is_some end ≡ true → s ≡ state_after (calculus types labels) s n
stays_then types labels s (Some end) n e f = ended_stays types labels s end n e
stays_then types labels s None n e f = absurd (false_is_not_true f)

-- a run that has ended before all steps are made
pub run_ended : (types : TypeRows) (labels : List Pos) (s now : CalcState) (made left steps : ℕ) →
    now ≡ state_after (calculus types labels) s made → made + left ≡ steps → is_some now.ended ≡ true →
    now ≡ state_after (calculus types labels) s steps
run_ended types labels s now made left steps e f g =
    stays_then types labels now now.ended left refl g ∙ later types labels s now made left steps e f

-- a run whose steps are all made
pub run_spent : (types : TypeRows) (labels : List Pos) (s now : CalcState) (made left steps : ℕ) →
    now ≡ state_after (calculus types labels) s made → made + left ≡ steps → left ≡ 0 →
    now ≡ state_after (calculus types labels) s steps
run_spent types labels s now made left steps e f g =
    let k : made ≡ steps = omega arith in e ∙ ap (state_after (calculus types labels) s) k

-- an end that is held is one
pub some_end : (o : Option Stepped) → is_some o ≡ true → is_some (option_map end_of o) ≡ true
some_end (Some end) e = refl
some_end None e = e
