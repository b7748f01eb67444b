-- How the counts of a converted program's run are bounded by those of the run that it follows.
use Rattle.std.specs.Prelude.{◌≡◌, ◌+◌, ◌*◌, ◌≤◌}
use Rattle.cast_modes.specs.Counting.{Counts}

-- as many wrap steps, no more words and no more frames, and at most two turns for each turn, and one
pub record CountsKept (flat : Counts) (counts : Counts) : Type 0 where
  pub wraps : flat.wraps ≡ counts.wraps
  pub words : flat.words ≤ counts.words
  pub turns : flat.turns ≤ 2 * counts.turns + 1
  pub frames : flat.frames ≤ counts.frames
