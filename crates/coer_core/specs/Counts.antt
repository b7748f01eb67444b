-- What runs are counted by: words asked for, turns, pending frames and wrap steps.
use Rattle.std.specs.Prelude.{◌≡◌, ℕ, suc, ◌+◌, ◌*◌, cond, List, [], ◌∷◌, ◌++◌, length}
use Rattle.run_laws.specs.Runs.{Run}
use Rattle.run_laws.specs.Reductions.{Reduction, reduction_run}
use Rattle.run_laws.specs.Meters.{Metered, metered_reduction, unspent}
use Rattle.grift_base.specs.Types.{TypeRows}
use Rattle.grift_base.specs.declared.verdicts.Verdict.{Verdict}
use Rattle.core_calc.specs.Substitution.{is_among}
use Rattle.core_calc.specs.Account.{StepKind, Wraps, kind_of_step}
use Rattle.core_calc.specs.Calculus.{CalcState, Program, calculus, start}
use Rattle.cast_modes.specs.Modes.{Mode}
use Rattle.cast_modes.specs.RunValues.{shape_of}
use Rattle.cast_modes.specs.ValueSteps.{CastFrame, PrimFrame, OwnFrame, Own, Return, onto}
use Rattle.cast_modes.specs.ValueSteps.{decision_words, operator_words, decision_wraps}
use Rattle.cast_modes.specs.AnswerTypes.{Told}
use Rattle.cast_modes.specs.Counting.{Counted, Counts, counted, uncounted}
use Rattle.coer_core.specs.Terms.{RowTerm, RowTerms, RowMembers, RowBindings, RowInt, RowBool, RowUnit, RowVar}
use Rattle.coer_core.specs.Terms.{RowLambda, RowGroup, RowLet, RowCall, RowIf, RowSeq, RowCast, RowProj, RowProjDyn}
use Rattle.coer_core.specs.Terms.{RowTuple, RowPrim, NoRowTerms, RowTermThen, NoRowMembers, RowMemberThen}
use Rattle.coer_core.specs.Terms.{NoRowBindings, RowBindingThen}
use Rattle.coer_core.specs.Machine.{code_arity, Eval, Tupling, Operating, GatherFrame, CoerFocus, CoerFrame, RunState}
use Rattle.coer_core.specs.Machine.{running, run_start}

-- ---- free names: what a function captures

-- the names that are not among these
abbrev pub names_besides : List ℕ → List ℕ → List ℕ
names_besides names [] = []
names_besides names (name ∷ rest) =
    cond (is_among name names) (names_besides names rest) (name ∷ names_besides names rest)

-- the names of a group's members
abbrev pub row_member_names : RowMembers → List ℕ
row_member_names NoRowMembers = []
row_member_names (RowMemberThen name parameters body type rest) = name ∷ row_member_names rest

-- the names that bindings bind
abbrev pub row_binding_names : RowBindings → List ℕ
row_binding_names NoRowBindings = []
row_binding_names (RowBindingThen name bound rest) = name ∷ row_binding_names rest

-- the free names of a term in order, each as often as it stands there
abbrev mutual
  pub free_names : RowTerm → List ℕ
  free_names (RowInt n) = []
  free_names (RowBool b) = []
  free_names RowUnit = []
  free_names (RowVar name) = name ∷ []
  free_names (RowLambda parameters body type) = names_besides parameters (free_names body)
  free_names (RowGroup members body) =
      names_besides (row_member_names members) (free_names_of_members members ++ free_names body)
  free_names (RowLet bindings body) =
      free_names_of_bindings bindings ++ names_besides (row_binding_names bindings) (free_names body)
  free_names (RowCall function arguments) = free_names function ++ free_names_of_all arguments
  free_names (RowIf condition on_true on_false) =
      free_names condition ++ (free_names on_true ++ free_names on_false)
  free_names (RowSeq terms) = free_names_of_all terms
  free_names (RowCast term number) = free_names term
  free_names (RowProj term k) = free_names term
  free_names (RowProjDyn term k label) = free_names term
  free_names (RowTuple parts) = free_names_of_all parts
  free_names (RowPrim operator operands) = free_names_of_all operands

  pub free_names_of_all : RowTerms → List ℕ
  free_names_of_all NoRowTerms = []
  free_names_of_all (RowTermThen term rest) = free_names term ++ free_names_of_all rest

  -- of the members' bodies, the group's names among them
  pub free_names_of_members : RowMembers → List ℕ
  free_names_of_members NoRowMembers = []
  free_names_of_members (RowMemberThen name parameters body type rest) =
      names_besides parameters (free_names body) ++ free_names_of_members rest

  pub free_names_of_bindings : RowBindings → List ℕ
  free_names_of_bindings NoRowBindings = []
  free_names_of_bindings (RowBindingThen name bound rest) = free_names bound ++ free_names_of_bindings rest

-- each name once, where it stands first
abbrev pub each_once : List ℕ → List ℕ
each_once [] = []
each_once (name ∷ rest) = name ∷ names_besides (name ∷ []) (each_once rest)

-- the captured names of a group: those bound outside it that are free in one of its members
abbrev pub group_captures : RowMembers → List ℕ
group_captures members = each_once (names_besides (row_member_names members) (free_names_of_members members))

-- those of a lambda
abbrev pub lambda_captures : List ℕ → RowTerm → List ℕ
lambda_captures parameters body = each_once (names_besides parameters (free_names body))

-- how many functions a group has
abbrev pub row_member_count : RowMembers → ℕ
row_member_count NoRowMembers = 0
row_member_count (RowMemberThen name parameters body type rest) = suc (row_member_count rest)

-- ---- words asked for: those of the objects that a turn makes

-- a function is a header, a code address and its captured words; of a group the functions lie back to back, and those
-- behind the first have a header and a code address alone
abbrev pub eval_words : RowTerm → ℕ
eval_words (RowLambda parameters body type) = 2 + length (lambda_captures parameters body)
eval_words (RowGroup members body) = 2 * row_member_count members + length (group_captures members)
eval_words _ = 0

module _ {C : Type 0} (mode : Mode C) where
  -- a tuple is a header and a word for each part
  abbrev pub turn_words : CoerFocus C → List (CoerFrame C) → ℕ
  turn_words (Own (Eval term env)) k = eval_words term
  turn_words (Return v) (CastFrame cast ∷ k) = decision_words (mode.cast cast (shape_of code_arity v))
  turn_words (Return v) (PrimFrame operator done ∷ k) = operator_words operator (onto (v ∷ done) [])
  turn_words (Return v) (OwnFrame (GatherFrame Tupling done NoRowTerms env) ∷ k) = 2 + length done
  turn_words (Return v) (OwnFrame (GatherFrame (Operating operator) done NoRowTerms env) ∷ k) =
      operator_words operator (onto (v ∷ done) [])
  turn_words _ k = 0

  -- the words that the next turn from a state asks for
  abbrev pub words_of_turn : RunState C → ℕ
  words_of_turn state = turn_words state.focus state.frames

  -- ---- wrap steps: 1 for a turn that wraps a value in one wrapper more

  abbrev pub turn_wraps : CoerFocus C → List (CoerFrame C) → ℕ
  turn_wraps (Return v) (CastFrame cast ∷ k) = decision_wraps (mode.cast cast (shape_of code_arity v))
  turn_wraps _ k = 0

  abbrev pub wraps_of_turn : RunState C → ℕ
  wraps_of_turn state = turn_wraps state.focus state.frames

-- 1 for a step of the calculus that wraps a value
abbrev pub kind_wraps : StepKind → ℕ
kind_wraps Wraps = 1
kind_wraps _ = 0

-- of the next step from a state
abbrev pub wraps_of_step : TypeRows → CalcState → ℕ
wraps_of_step types state = kind_wraps (kind_of_step types state)

-- ---- counted runs

-- the run in a mode, with what is counted
abbrev pub counting : {C : Type 0} → Mode C → Told → Reduction (Counted (RunState C)) Counts Verdict
counting mode told =
    counted (words_of_turn mode) (wraps_of_turn mode) (λ state. length state.frames) (running mode told)

-- the run of a term in a mode, told these, on an input
abbrev pub run_in : {C : Type 0} → Mode C → Told → RowTerm → List ℕ → Run Counts Verdict
run_in mode told term input = reduction_run (counting mode told) (uncounted (run_start term input))

-- what the run of a program of this type is told
abbrev pub told_of : Program → ℕ → Told
told_of program type = record { labels = program.labels; types = program.types; answer = type }

-- the run of a program of the calculus, with its wrap steps so far
abbrev pub calc_with_wraps : Program → List ℕ → Run (Metered CalcState) Verdict
calc_with_wraps program input =
    reduction_run (metered_reduction (wraps_of_step program.types) (calculus program.types program.labels))
    (unspent (start program.term input))

-- as many wrap steps were made
abbrev pub SameWraps : Counts → Metered CalcState → Type 0
SameWraps counts calc = counts.wraps ≡ calc.spent
