-- Runs that are counted: the words asked for, the turns and the wrap steps so far, and the frames, whatever the states
-- are of.
use Rattle.std.specs.Prelude.{ℕ, suc, ◌+◌}
use Rattle.run_laws.specs.Reductions.{Reduction}

-- what a counted run shows: the words asked for, the turns and the wrap steps so far, and the frames that are there
pub record Counts : Type 0 where
  pub words : ℕ
  pub turns : ℕ
  pub frames : ℕ
  pub wraps : ℕ

-- a state with what was counted so far
pub record Counted (S : Type 0) : Type 0 where
  pub words : ℕ
  pub turns : ℕ
  pub wraps : ℕ
  pub state : S

-- at first
abbrev pub uncounted : {S : Type 0} → S → Counted S
uncounted state = record { words = 0; turns = 0; wraps = 0; state = state }

-- a reduction with what is counted, told which words a turn asks for, how many wrap steps it makes, and how many frames
-- a state has
abbrev pub counted : {S A V : Type 0} → (S → ℕ) → (S → ℕ) → (S → ℕ) → Reduction S A V → Reduction (Counted S) Counts V
counted words wraps frames reduction = record {
  step = λ s. record {
    words = s.words + words s.state;
    turns = suc s.turns;
    wraps = s.wraps + wraps s.state;
    state = reduction.step s.state;
  };
  ending = λ s. reduction.ending s.state;
  output = λ s. reduction.output s.state;
  shown = λ s. record { words = s.words; turns = s.turns; frames = frames s.state; wraps = s.wraps };
}
