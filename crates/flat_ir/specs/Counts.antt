-- What runs of procedures are counted by: words asked for, turns, active frames and wrap steps.
use Rattle.std.specs.Prelude.{ℕ, ◌+◌, ◌*◌, List, [], ◌∷◌, length, Option, Some, None}
use Rattle.run_laws.specs.Runs.{Run}
use Rattle.run_laws.specs.Reductions.{Reduction, reduction_run}
use Rattle.grift_base.specs.declared.verdicts.Verdict.{Verdict}
use Rattle.cast_modes.specs.Modes.{Decision, NoCast, Mode}
use Rattle.cast_modes.specs.RunValues.{shape_of}
use Rattle.cast_modes.specs.ValueSteps.{CastFrame, PrimFrame, Own, Return, onto}
use Rattle.cast_modes.specs.ValueSteps.{decision_words, operator_words, decision_wraps}
use Rattle.cast_modes.specs.AnswerTypes.{Told}
use Rattle.cast_modes.specs.Counting.{Counted, Counts, counted, uncounted}
use Rattle.flat_ir.specs.declared.code.Operand.{Operand}
use Rattle.flat_ir.specs.declared.code.Operation.{Operation}
use Rattle.flat_ir.specs.declared.code.Operation.TheVariants.{Prim, Cast, Tuple}
use Rattle.flat_ir.specs.Bodies.{Body, Give, LetGroup, Proc}
use Rattle.flat_ir.specs.Machine.{FlatValue, FlatFrame, FlatFocus, FlatState, Inside, Locals, Group, value, values}
use Rattle.flat_ir.specs.Machine.{flat_arity, flat_running, flat_start}

-- ---- words asked for: those of the objects that a turn makes

-- a tuple is a header and a word for each part; an empty one, which no closed program has, is nothing
abbrev pub tuple_words : List Operand → ℕ
tuple_words [] = 0
tuple_words (o ∷ os) = 2 + length os

module _ {C : Type 0} (procs : List Proc) (mode : Mode C) where
  -- what a cast of a value comes to
  abbrev pub decision_at : Option C → FlatValue C → Decision C
  decision_at (Some cast) v = mode.cast cast (shape_of (flat_arity procs) v)
  decision_at None v = NoCast

  abbrev pub operation_words : Operation → Locals C → Group C → ℕ
  operation_words (Prim operator os) l g = operator_words operator (values l g os)
  operation_words (Cast o number) l g = decision_words (decision_at (mode.row number) (value l g o))
  operation_words (Tuple os) l g = tuple_words os
  operation_words _ l g = 0

  -- a function is a header, a code address and its captured words; of a group the functions lie back to back, and those
  -- behind the first have a header and a code address alone
  abbrev pub body_words : Body → Locals C → Group C → ℕ
  body_words (Give operation) l g = operation_words operation l g
  body_words (LetGroup slot first count captured rest) l g = 2 * count + length captured
  body_words _ l g = 0

  abbrev pub flat_turn_words : FlatFocus C → List (FlatFrame C) → ℕ
  flat_turn_words (Own (Inside body l g)) k = body_words body l g
  flat_turn_words (Return v) (CastFrame cast ∷ k) = decision_words (decision_at (Some cast) v)
  flat_turn_words (Return v) (PrimFrame operator done ∷ k) = operator_words operator (onto (v ∷ done) [])
  flat_turn_words _ k = 0

  -- ---- wrap steps: 1 for a turn that wraps a value in one wrapper more

  abbrev pub flat_turn_wraps : FlatFocus C → List (FlatFrame C) → ℕ
  flat_turn_wraps (Own (Inside (Give (Cast o number)) l g)) k =
      decision_wraps (decision_at (mode.row number) (value l g o))
  flat_turn_wraps (Return v) (CastFrame cast ∷ k) = decision_wraps (decision_at (Some cast) v)
  flat_turn_wraps _ k = 0

  -- ---- of the next turn of a state

  abbrev pub flat_words_of_turn : FlatState C → ℕ
  flat_words_of_turn state = flat_turn_words state.focus state.frames

  abbrev pub flat_wraps_of_turn : FlatState C → ℕ
  flat_wraps_of_turn state = flat_turn_wraps state.focus state.frames

-- ---- counted runs

-- the run in a mode, with what is counted
abbrev pub flat_counting : {C : Type 0} → List Proc → Mode C → Told → Reduction (Counted (FlatState C)) Counts Verdict
flat_counting procs mode told =
    counted (flat_words_of_turn procs mode) (flat_wraps_of_turn procs mode) (λ state. length state.frames)
    (flat_running procs mode told)

-- the run of a program in a mode, told these, on an input: its procedures and the number of the one that it begins with
abbrev pub flat_run_in : {C : Type 0} → List Proc → ℕ → Mode C → Told → List ℕ → Run Counts Verdict
flat_run_in procs entry mode told input =
    reduction_run (flat_counting procs mode told) (uncounted (flat_start procs told entry input))
