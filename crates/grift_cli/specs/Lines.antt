-- Lines that tell numbers.
use Rattle.std.specs.Prelude.{ℕ, List, ◌++◌, codes}
use Rattle.std.specs.Fmt.{decimal}

-- a line of these words and a number
abbrev pub number_line : List ℕ → ℕ → List ℕ
number_line words number = words ++ decimal number ++ codes "\n"
