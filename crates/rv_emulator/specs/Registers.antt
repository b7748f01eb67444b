-- The registers as a function.
use Rattle.std.specs.Prelude.{ℕ, List, slice_index}

abbrev pub regs_of : List ℕ → ℕ → ℕ
regs_of words i = slice_index words i
