-- Words of 64 bits: as signed numbers, sums, differences and shifts.
use Rattle.std.specs.Prelude.{ℕ, ◌+◌, ◌-◌, ◌*◌, ◌/◌, ◌%◌, ◌^◌, Bool, if◌then◌else◌, ℤ, int_lt}
use Rattle.std.specs.Int.{Width, w32, w64, cast_unsigned, cast_signed, int_shr}

-- the word of a signed number
abbrev pub word_of : ℤ → ℕ
word_of z = cast_unsigned w64 z

-- a word as a signed number
abbrev pub signed_of : ℕ → ℤ
signed_of a = cast_signed w64 a

-- the word of a number of this width that is taken as signed
abbrev pub sign_extend : Width → ℕ → ℕ
sign_extend w n = cast_unsigned w64 (cast_signed w n)

-- sums, which wrap
abbrev pub add : ℕ → ℕ → ℕ
add a b = (a + b) % 2 ^ 64

abbrev pub plus : ℕ → ℤ → ℕ
plus a z = (a + word_of z) % 2 ^ 64

abbrev pub subtract : ℕ → ℕ → ℕ
subtract a b = (a + (2 ^ 64 - b)) % 2 ^ 64

-- 1 for what holds, and else 0
abbrev pub flag : Bool → ℕ
flag b = if b then 1 else 0

abbrev pub signed_less : ℕ → ℕ → Bool
signed_less a b = int_lt (signed_of a) (signed_of b)

-- shifts by a number of bits
abbrev pub shift_left : ℕ → ℕ → ℕ
shift_left a n = a * 2 ^ n % 2 ^ 64

abbrev pub shift_right : ℕ → ℕ → ℕ
shift_right a n = a / 2 ^ n

abbrev pub shift_right_signed : ℕ → ℕ → ℕ
shift_right_signed a n = word_of (int_shr (signed_of a) n)

-- ---- the low 32 bits, whose result is sign-extended

abbrev pub low_half : ℕ → ℕ
low_half a = a % 2 ^ 32

abbrev pub half : ℕ → ℕ
half n = sign_extend w32 (n % 2 ^ 32)

abbrev pub half_right_signed : ℕ → ℕ → ℕ
half_right_signed a n = word_of (int_shr (cast_signed w32 (low_half a)) n)
