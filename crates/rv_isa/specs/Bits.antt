-- Bits of a word, and signed numbers as bits. The width of a signed number is told by half the count of its
-- values: 2048 for 12 bits.
use Rattle.std.specs.Prelude.{ℕ, suc, ◌-◌, ◌*◌, ◌/◌, ◌%◌, ◌^◌, ◌<◌, ◌≡◌, unsigned_abs, ℤ, pos, negsuc, nat_lt}
use Rattle.std.specs.Prelude.{if◌then◌else◌}

-- the number that `count` bits of the word make, from the bit `low` up
abbrev pub bits : ℕ → ℕ → ℕ → ℕ
bits word low count = word / 2 ^ low % 2 ^ count

-- the signed number that has these bits
abbrev pub signed : ℕ → ℕ → ℤ
signed half n = if nat_lt n half then pos n else negsuc (2 * half - suc n)

-- the bits of a signed number
abbrev pub low_bits : ℕ → ℤ → ℕ
low_bits half (pos n) = n
low_bits half (negsuc n) = 2 * half - suc n

-- from -half to half - 1
abbrev pub IsIn : ℕ → ℤ → Type 0
IsIn half (pos n) = n < half
IsIn half (negsuc n) = n < half

abbrev pub IsEven : ℤ → Type 0
IsEven z = unsigned_abs z % 2 ≡ 0

-- from 0 to limit - 1
abbrev pub IsBelow : ℕ → ℤ → Type 0
IsBelow limit (pos n) = n < limit
IsBelow limit (negsuc n) = ⊥
