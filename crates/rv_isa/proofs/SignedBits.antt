-- Signed numbers and their bits, there and back.
use Rattle.std.proofs.Common.{ℕ, ◌*◌, ◌%◌, ◌<◌, ◌≡◌, arith}
use Rattle.std.specs.Prelude.{ℤ, pos, negsuc}
use Rattle.rv_isa.specs.Bits.{signed, low_bits, IsIn, IsEven}

pub signed-low_bits : (half : ℕ) (z : ℤ) → IsIn half z → signed half (low_bits half z) ≡ z
signed-low_bits half (pos n) h = grind arith
signed-low_bits half (negsuc n) h = grind arith

pub low_bits-signed : (half n : ℕ) → n < 2 * half → low_bits half (signed half n) ≡ n
low_bits-signed half n h = grind arith

pub low_bits_below : (half : ℕ) (z : ℤ) → IsIn half z → low_bits half z < 2 * half
low_bits_below half (pos n) h = omega arith
low_bits_below half (negsuc n) h = omega arith

pub low_bits_even : (half : ℕ) (z : ℤ) → IsIn half z → IsEven z → low_bits half z % 2 ≡ 0
low_bits_even half (pos n) h e = e
low_bits_even half (negsuc n) h e = omega arith

pub signed_in : (half n : ℕ) → n < 2 * half → IsIn half (signed half n)
signed_in half n h = grind arith

pub signed_even : (half n : ℕ) → n < 2 * half → n % 2 ≡ 0 → IsEven (signed half n)
signed_even half n h e = grind arith
