-- What other crates may cite: what is held after `start` and `run` is the moment of the program's run.
use Rattle.std.proofs.Common.{◌≡◌, ◌∙◌, ℕ, List, ap, sym}
use Rattle.std.specs.Prelude.{option_map}
use Rattle.run_laws.specs.Reductions.{moment_at, state_after}
use Rattle.core_calc.specs.Calculus.{Program, calc, calculus, ending_of, start}
use Rattle.core_calc.specs.States.{end_of, state_view}
use Rattle.core_calc.specs.declared.states.CalcState.{CalcState}

-- the state after so many steps shows what the run has come to after as many
pub run_is_calc : (program : Program) (input : List ℕ) (steps : ℕ) (first last : CalcState) →
    state_view first ≡ start program.term input →
    state_view last ≡ state_after (calculus program.types program.labels) (state_view first) steps →
    calc program input steps ≡ moment_at (calculus program.types program.labels) (state_view last)
run_is_calc program input steps first last e f =
    ap (moment_at (calculus program.types program.labels))
    (ap (λ s. state_after (calculus program.types program.labels) s steps) (sym e) ∙ sym f)

-- so its end is the one that is held, and its output stands in the outside
pub run_ends : (program : Program) (input : List ℕ) (steps : ℕ) (first last : CalcState) →
    state_view first ≡ start program.term input →
    state_view last ≡ state_after (calculus program.types program.labels) (state_view first) steps →
    (calc program input steps).ending ≡ option_map (ending_of program.labels) (option_map end_of last.ended)
run_ends program input steps first last e f = ap (λ m. m.ending) (run_is_calc program input steps first last e f)

pub run_prints : (program : Program) (input : List ℕ) (steps : ℕ) (first last : CalcState) →
    state_view first ≡ start program.term input →
    state_view last ≡ state_after (calculus program.types program.labels) (state_view first) steps →
    (calc program input steps).output ≡ last.world.output
run_prints program input steps first last e f = ap (λ m. m.output) (run_is_calc program input steps first last e f)
