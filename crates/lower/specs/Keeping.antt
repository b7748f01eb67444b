-- What the run over words asks for and costs, against the account of the run of the numbered procedures.
use Rattle.std.specs.Prelude.{ℕ, ◌+◌, ◌*◌, ◌≤◌}
use Rattle.run_laws.specs.Meters.{Metered}
use Rattle.core_calc.specs.Account.{Measures}
use Rattle.low_ir.specs.Run.{Setting, LowShown}
use Rattle.coercion_norm.specs.Held.{Layout}
use Rattle.flat_ir.specs.FlatTally.{FlatTally}
use Rattle.low_ir.specs.Frames.{frame_room}

-- the types and coercions that stand among the static objects are no wider and no higher than the measures say, whose
-- width is two at least
pub record FitsMeasures (l : Layout) (m : Measures) : Type 0 where
  pub wide : l.width ≤ m.width
  pub two : 2 ≤ m.width
  pub tall : l.tallest ≤ m.height

-- What was asked for is within the account: what had been taken when the turn began, and what that turn asks for. So
-- are the frames, where no procedure has more than so many words, and so many may be active above one that serves: the
-- frames of the program's procedures are no more than were active at one time so far, and four, and each other one
-- counts as a frame of 24 words.
pub record KeepsFlat (setting : Setting) (serving most : ℕ) (low : Metered LowShown) (flat : FlatTally) : Type 0 where
  pub base : ℕ
  pub taken : setting.region + 8 * base ≤ low.rest.alloc
  pub earlier : base ≤ flat.words
  pub asked : low.rest.words ≤ base + flat.asks
  pub frames : low.rest.frames + low.rest.held ≤ (flat.deepest + 4) * frame_room most + 25 * (1 + serving)

-- the start, code that comes to a blame or a trap, and what shows the answer have 720 instructions beside what the
-- turns have
abbrev pub PaysFlat : Metered LowShown → FlatTally → Type 0
PaysFlat low flat = low.spent ≤ flat.paid + 720
