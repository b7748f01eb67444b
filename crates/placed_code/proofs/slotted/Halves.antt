-- A word that is a number from -2^31 to 2^31 - 1 is put into a register by two instructions.
use Rattle.std.proofs.Common.{ℕ, ◌+◌, ◌-◌, ◌*◌, ◌%◌, ◌^◌, ◌<◌, ◌≤◌, ◌≡◌, Bool, true, false, refl, sym}
use Rattle.std.proofs.Common.{◌∙◌, ap, arith, subst}
use Rattle.std.specs.Prelude.{nat_lt, if◌then◌else◌, pos, negsuc}
use Rattle.machine_words.specs.Arithmetic.{half, plus}
use Rattle.placed_code.specs.Slots.{is_half, upper_of, lower_of}

half_low : (n : ℕ) → n % 2 ^ 32 < 2 ^ 31 → half n ≡ n % 2 ^ 32
half_low n h = grind arith

half_high : (n : ℕ) → 2 ^ 31 ≤ n % 2 ^ 32 → half n ≡ n % 2 ^ 32 + (2 ^ 64 - 2 ^ 32)
half_high n h = grind arith

-- the lower bits are added
plus_lower : (a word : ℕ) → a < 2 ^ 64 → plus a (lower_of word) % 2 ^ 32
    ≡ (a + word % 4096 + (if nat_lt (word % 4096) 2048 then 0 else 2 ^ 64 - 4096)) % 2 ^ 32
plus_lower a word h = pick (nat_lt (word % 4096) 2048) refl
  where
    pick : (c : Bool) → nat_lt (word % 4096) 2048 ≡ c
        → plus a (if c then pos (word % 4096) else negsuc (4095 - word % 4096)) % 2 ^ 32
        ≡ (a + word % 4096 + (if c then 0 else 2 ^ 64 - 4096)) % 2 ^ 32
    pick true e = omega arith
    pick false e = omega arith

half_same : (n : ℕ) → (half n % 2 ^ 32 ≡ n % 2 ^ 32) × (half n < 2 ^ 64)
half_same n = pick (nat_lt (n % 2 ^ 32) (2 ^ 31)) refl
  where
    pick : (c : Bool) → nat_lt (n % 2 ^ 32) (2 ^ 31) ≡ c → (half n % 2 ^ 32 ≡ n % 2 ^ 32) × (half n < 2 ^ 64)
    pick true e =
        let l : n % 2 ^ 32 < 2 ^ 31 = grind arith in
        let h = half_low n l in (
          ap (λ x. x % 2 ^ 32) h ∙ (let z : n % 2 ^ 32 % 2 ^ 32 ≡ n % 2 ^ 32 = omega arith in z),
          subst (λ x. x < 2 ^ 64) (sym h) (let z : n % 2 ^ 32 < 2 ^ 64 = omega arith in z),
        )
    pick false e =
        let l : 2 ^ 31 ≤ n % 2 ^ 32 = grind arith in
        let h = half_high n l in
        let z : (n % 2 ^ 32 + (2 ^ 64 - 2 ^ 32)) % 2 ^ 32 ≡ n % 2 ^ 32 = omega arith in
        let y : n % 2 ^ 32 + (2 ^ 64 - 2 ^ 32) < 2 ^ 64 = omega arith in
        (ap (λ x. x % 2 ^ 32) h ∙ z, subst (λ x. x < 2 ^ 64) (sym h) y)

-- both parts make the word, up to a multiple of 2^32
parts_sum : (a word : ℕ) → a % 2 ^ 32 ≡ upper_of word * 2 ^ 12 % 2 ^ 32
    → (a + word % 4096 + (if nat_lt (word % 4096) 2048 then 0 else 2 ^ 64 - 4096)) % 2 ^ 32 ≡ word % 2 ^ 32
parts_sum a word h = pick (nat_lt (word % 4096) 2048) refl
  where
    pick : (c : Bool) → nat_lt (word % 4096) 2048 ≡ c
        → (a + word % 4096 + (if c then 0 else 2 ^ 64 - 4096)) % 2 ^ 32 ≡ word % 2 ^ 32
    pick true e = let l : word % 4096 < 2048 = grind arith in omega (arith, h, l)
    pick false e = let l : 2048 ≤ word % 4096 = grind arith in omega (arith, h, l)

-- the half of the sum is the word
half_back : (n word : ℕ) → n % 2 ^ 32 ≡ word % 2 ^ 32 → word < 2 ^ 64 → is_half word ≡ true → half n ≡ word
half_back n word e small h = pick (nat_lt word (2 ^ 31)) refl
  where
    pick : (c : Bool) → nat_lt word (2 ^ 31) ≡ c → half n ≡ word
    pick true k =
        let l : word < 2 ^ 31 = grind arith in
        let m : n % 2 ^ 32 < 2 ^ 31 = omega (arith, e, l) in
        half_low n m ∙ (let z : n % 2 ^ 32 ≡ word = omega (arith, e, l) in z)
    pick false k =
        let l : 2 ^ 64 - 2 ^ 31 ≤ word = grind arith in
        let m : 2 ^ 31 ≤ n % 2 ^ 32 = omega (arith, e, l, small) in
        half_high n m ∙ (let z : n % 2 ^ 32 + (2 ^ 64 - 2 ^ 32) ≡ word = omega (arith, e, l, small) in z)

pub two_make : (word : ℕ) → word < 2 ^ 64 → is_half word ≡ true
    → half (plus (half (upper_of word * 2 ^ 12)) (lower_of word)) ≡ word
two_make word small h =
    let a : ℕ = half (upper_of word * 2 ^ 12) in
    let s = half_same (upper_of word * 2 ^ 12) in
    half_back (plus a (lower_of word)) word (plus_lower a word s.1 ∙ parts_sum a word s.0) small h
