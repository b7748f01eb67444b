-- How the words of a lowered procedure are numbered. Word 0 is the function that was called, and the arguments follow.
-- Then come nine words to compute in: eight for operands, and one for tests and addresses. Behind them stand the names
-- that are bound inside, each at its level.
use Rattle.std.specs.Prelude.{ℕ, zero, suc, ◌+◌, ◌*◌, nat_lt, if◌then◌else◌}
use Rattle.lowered_code.specs.declared.numbering.Shape.{Shape}

-- the function that was called
abbrev pub own_word : ℕ
own_word = 0

-- for the operand of this place
abbrev pub operand_word : Shape → ℕ → ℕ
operand_word s i = suc (s.params + i)

-- for tests, addresses and the answer
abbrev pub test_word : Shape → ℕ
test_word s = operand_word s 8

-- of the local name of a level
abbrev pub local_word : Shape → ℕ → ℕ
local_word s level = if nat_lt level s.params then suc level else level + 10

-- ---- where the functions of a group lie: the first holds what the group has captured, the others a code address alone

-- from the first function of a group to the one of a place, in bytes
abbrev pub function_offset : ℕ → ℕ → ℕ
function_offset captured zero = 0
function_offset captured (suc i) = 16 + 8 * captured + 16 * i

-- from the first function of a group to the captured word of a place, in bytes
abbrev pub captured_offset : ℕ → ℕ
captured_offset i = 16 + 8 * i
