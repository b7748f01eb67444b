-- The operations on words.
use Rattle.std.specs.Prelude.{ℕ, ◌%◌, nat_lt, bit_and, bit_or, bit_xor}
use Rattle.machine_words.specs.Arithmetic.{add, subtract, shift_left, shift_right, shift_right_signed, signed_less}
use Rattle.machine_words.specs.Arithmetic.{flag}
use Rattle.low_ir.specs.declared.code.WordOp.{WordOp}
use Rattle.low_ir.specs.declared.code.WordOp.TheVariants.{Add, Sub, And, Or, Xor, Sll, Srl, Sra, Slt, Sltu}

-- the word of an operation on two words
abbrev pub compute : WordOp → ℕ → ℕ → ℕ
compute Add a b = add a b
compute Sub a b = subtract a b
compute And a b = bit_and a b
compute Or a b = bit_or a b
compute Xor a b = bit_xor a b
compute Sll a b = shift_left a (b % 64)
compute Srl a b = shift_right a (b % 64)
compute Sra a b = shift_right_signed a (b % 64)
compute Slt a b = flag (signed_less a b)
compute Sltu a b = flag (nat_lt a b)
