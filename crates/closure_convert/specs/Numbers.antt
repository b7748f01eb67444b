-- Numbered operands.
use Rattle.std.specs.Prelude.{ℕ, zero, suc, List, [], ◌∷◌}
use Rattle.flat_ir.specs.declared.code.Operand.{Operand}
use Rattle.flat_ir.specs.declared.code.Operand.TheVariants.{Local as LocalName, Sibling as SiblingName}
use Rattle.closure_convert.specs.declared.numbers.Kind.{Kind}
use Rattle.closure_convert.specs.declared.numbers.Kind.TheVariants.{Local, Sibling}

-- the operand of a number
abbrev pub operand_of : Kind → ℕ → Operand
operand_of Local number = LocalName number
operand_of Sibling number = SiblingName number

-- so many operands, with the numbers from this one on
abbrev pub counted : (ℕ → Operand) → ℕ → ℕ → List Operand
counted make zero number = []
counted make (suc count) number = make number ∷ counted make count (suc number)
