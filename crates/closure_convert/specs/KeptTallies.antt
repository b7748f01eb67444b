-- The account of a run of numbered procedures against that of the term's run.
use Rattle.std.specs.Prelude.{◌+◌, ◌*◌, ◌≤◌}
use Rattle.coer_core.specs.Tally.{Tally, reach}
use Rattle.flat_ir.specs.FlatTally.{FlatTally, flat_reach}

-- no more acts, words and frames, and at most one name or constant for each act, and one
pub record KeepsTally (flat : FlatTally) (tally : Tally) : Type 0 where
  pub acts : flat.acts ≤ tally.acts
  pub atoms : flat.atoms ≤ tally.acts + 1
  pub reach : flat_reach flat ≤ reach tally
  pub asks : flat.asks ≤ tally.asks
  pub frames : flat.frames ≤ tally.frames

-- the budgets are no more, with 64 instructions for each act, and for one
abbrev pub PaysTally : FlatTally → Tally → Type 0
PaysTally flat tally = flat.paid ≤ tally.paid + 64 * (tally.acts + 1)
