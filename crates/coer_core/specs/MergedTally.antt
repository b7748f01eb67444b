-- The account of a run in the merged mode: a cast composes coercions, so it asks for more at a time, and less often.
-- Other turns are as in any mode, but that a part of what is in Dyn asks for 13 words, and a new box for its two.
use Rattle.std.specs.Prelude.{ℕ, ◌+◌, ◌*◌, ◌^◌, ◌≤◌, List, ◌∷◌, Option, Some, None}
use Rattle.run_laws.specs.Runs.{Run}
use Rattle.run_laws.specs.Reductions.{Reduction, reduction_run}
use Rattle.grift_base.specs.Types.{TypeRows, row_at}
use Rattle.grift_base.specs.declared.verdicts.Verdict.{Verdict}
use Rattle.core_calc.specs.Account.{Measures, StepKind, Wraps, Casts, cast_kind, Account}
use Rattle.coercion_norm.specs.Coercions.{Coercion, Project}
use Rattle.cast_modes.specs.Modes.{Shape, Injected, Decision, Wrapping, Rewrapping, Unwrapping, Injecting, Opening}
use Rattle.cast_modes.specs.Modes.{Making, Mode}
use Rattle.cast_modes.specs.RunValues.{shape_of}
use Rattle.cast_modes.specs.ValueSteps.{CastFrame, OwnFrame, Return}
use Rattle.cast_modes.specs.AnswerTypes.{Told}
use Rattle.coer_core.specs.Terms.{RowTerm}
use Rattle.coer_core.specs.Machine.{code_arity, CoerFocus, CoerFrame, ProjDynFrame, RunState, running, run_start}
use Rattle.coer_core.specs.Tally.{turn_kind, kind_asks, kind_budget, kind_acts, kind_elements, kind_products}
use Rattle.coer_core.specs.Tally.{function_words, made_words, Tally, reach, Tallied, tally_with, untallied}

-- what a cast does in this mode, or a part of what is in Dyn
pub data Effort : Type 0 where
  -- it composes coercions: it wraps, wraps anew or unwraps, or opens a value in Dyn whose kept type has parts and the
  -- head that is wanted
  Heavy : Effort
  -- it opens another value in Dyn
  Opens : Effort
  -- it puts a value into Dyn
  Injects : Effort
  -- it is split in two
  Splits : Effort
  -- it keeps the value, or ends the run
  Keeps : Effort

-- of an opening, by the kind of the cast from the kept type to the wanted one
abbrev pub opening_of_kind : StepKind → Effort
opening_of_kind Wraps = Heavy
opening_of_kind _ = Opens

abbrev pub opening_effort : TypeRows → Coercion → Shape Coercion → Effort
opening_effort types (Project wanted label i) (Injected kept) =
    opening_of_kind (cast_kind (row_at types kept) (row_at types wanted))
opening_effort types _ _ = Opens

-- of a coercion at a value of a shape, by what is decided
abbrev pub effort : TypeRows → Coercion → Shape Coercion → Decision Coercion → Effort
effort types c shape (Wrapping d) = Heavy
effort types c shape (Rewrapping d) = Heavy
effort types c shape Unwrapping = Heavy
effort types c shape (Opening d) = opening_effort types c shape
effort types c shape (Injecting kept) = Injects
effort types c shape (Making d e) = Splits
effort types c shape _ = Keeps

-- half of Z, of which a wrap step may ask for 16 words more than the whole
abbrev pub half_charge : Measures → ℕ
half_charge m = 16 * (m.width + 8) * (2 * m.width) ^ m.height

abbrev pub effort_asks : Measures → Effort → ℕ
effort_asks m Heavy = half_charge m
effort_asks m Opens = 13
effort_asks m Injects = 3
effort_asks m Splits = 0
effort_asks m Keeps = 0

abbrev pub effort_budget : Measures → Effort → ℕ
effort_budget m Heavy = 896 + 64 * half_charge m
effort_budget m Splits = 0
effort_budget m _ = 896

-- a cast that is split is gone on with by others: it makes no step
abbrev pub effort_acts : Effort → ℕ
effort_acts Splits = 0
effort_acts _ = 1

abbrev pub heavy_turns : Effort → ℕ
heavy_turns Heavy = 1
heavy_turns _ = 0

-- of a turn that is neither a cast nor a part of what is in Dyn, by its kind: a new box has two words
abbrev pub other_asks : Measures → Option StepKind → ℕ → ℕ
other_asks m (Some Casts) words = 2
other_asks m kind words = kind_asks m kind words

-- by the effort, where there is one
abbrev pub by_effort : Option Effort → (Effort → ℕ) → ℕ → ℕ
by_effort (Some e) count other = count e
by_effort None count other = other

module _ (types : TypeRows) (mode : Mode Coercion) (m : Measures) where
  abbrev pub effort_at : CoerFocus Coercion → List (CoerFrame Coercion) → Option Effort
  effort_at (Return v) (CastFrame c ∷ k) =
      Some (effort types c (shape_of code_arity v) (mode.cast c (shape_of code_arity v)))
  effort_at (Return v) (OwnFrame (ProjDynFrame i label) ∷ k) = Some Opens
  effort_at _ k = None

  -- what the next turn may ask for, whether it makes a step of the calculus, 1 if it does, and its budget in
  -- instructions
  abbrev pub merged_asks : CoerFocus Coercion → List (CoerFrame Coercion) → ℕ
  merged_asks focus k =
      by_effort (effort_at focus k) (effort_asks m) (other_asks m (turn_kind mode focus k) (made_words focus k))

  abbrev pub merged_acts : CoerFocus Coercion → List (CoerFrame Coercion) → ℕ
  merged_acts focus k = by_effort (effort_at focus k) effort_acts (kind_acts (turn_kind mode focus k))

  abbrev pub merged_budget : CoerFocus Coercion → List (CoerFrame Coercion) → ℕ
  merged_budget focus k =
      by_effort (effort_at focus k) (effort_budget m) (kind_budget m (turn_kind mode focus k) (function_words focus))

  abbrev pub merged_tally_of : Tallied Coercion → Tally
  merged_tally_of s = tally_with (merged_asks s.state.focus s.state.frames) s

  abbrev pub next_merged : Tallied Coercion → RunState Coercion → Tallied Coercion
  next_merged s next = record {
    acts = s.acts + merged_acts s.state.focus s.state.frames;
    words = s.words + merged_asks s.state.focus s.state.frames;
    wraps = s.wraps + by_effort (effort_at s.state.focus s.state.frames) heavy_turns 0;
    elements = s.elements + kind_elements (turn_kind mode s.state.focus s.state.frames);
    products = s.products + kind_products (turn_kind mode s.state.focus s.state.frames);
    paid = s.paid + merged_budget s.state.focus s.state.frames;
    state = next;
  }

  -- the merged run with its account; it counts its heavy turns where the piled run counts its wrap steps
  abbrev pub merged_tallying : Told → Reduction (Tallied Coercion) Tally Verdict
  merged_tallying told = record {
    step = λ s. next_merged s ((running mode told).step s.state);
    ending = λ s. (running mode told).ending s.state;
    output = λ s. (running mode told).output s.state;
    shown = λ s. merged_tally_of s;
  }

  abbrev pub merged_tally_in : Told → RowTerm → List ℕ → Run Tally Verdict
  merged_tally_in told term input = reduction_run (merged_tallying told) (untallied (run_start term input))

-- ---- the merged run against the piled one, and against the calculus

-- one frame more may wait, since a cast into Dyn is split in two
pub record NoMoreStorage (merged piled : Tally) : Type 0 where
  pub reach : reach merged ≤ reach piled
  pub asks : merged.asks ≤ piled.asks
  pub frames : merged.frames ≤ piled.frames + 1

pub record NoMoreSpent (merged piled : Tally) : Type 0 where
  pub acts : merged.acts ≤ piled.acts
  pub paid : merged.paid ≤ piled.paid

-- a moment's words and frames are within the calculus's account
pub record StorageBelow (tally : Tally) (account : Account) : Type 0 where
  pub reach : reach tally ≤ account.words + account.charge
  pub asks : tally.asks ≤ account.charge
  pub frames : tally.frames ≤ account.depth + 2
