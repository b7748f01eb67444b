-- The number and the text of each trap.
use Rattle.std.specs.Prelude.{ℕ, List, codes}
use Rattle.grift_base.specs.declared.verdicts.Trap.{Trap}
use Rattle.grift_base.specs.declared.verdicts.Trap.TheVariants.{ZeroDivisor, Index, Length, Input}

abbrev pub trap_number : Trap → ℕ
trap_number ZeroDivisor = 1
trap_number Index = 2
trap_number Length = 3
trap_number Input = 4

abbrev pub trap_text : Trap → List ℕ
trap_text ZeroDivisor = codes "zero-divisor"
trap_text Index = codes "index"
trap_text Length = codes "length"
trap_text Input = codes "input"
