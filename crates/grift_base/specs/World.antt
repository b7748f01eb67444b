-- What a program sees of the outside, as data.
use Rattle.std.specs.Prelude.{ℕ, ◌++◌, List}

-- the bytes that it printed, and its input, of which those below the place are read
pub record WorldState : Type 0 where
  pub output : List ℕ
  pub input : List ℕ
  pub place : ℕ

-- these bytes are printed
abbrev pub printing : List ℕ → WorldState → WorldState
printing bytes w = record w { output = w.output ++ bytes }
