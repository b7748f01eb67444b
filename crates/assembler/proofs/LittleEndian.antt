-- Numbers as lists of bytes, the lowest first.
use Rattle.std.proofs.Common.{ℕ, zero, suc, ◌+◌, ◌-◌, ◌*◌, ◌/◌, ◌%◌, ◌^◌, ◌<◌, ◌≤◌, ◌≡◌, refl, sym, ◌∙◌, ap, arith}
use Rattle.std.proofs.Common.{List, length, get_or, take, drop, ◌++◌, replicate}
use Rattle.std.proofs.lemmas.Nat.{pow-add}
use Rattle.std.proofs.Math.Nat.{pow-suc}
use Rattle.std.proofs.lemmas.List.{get_or-append_right, get_or_append_left, get_or-take, get_or-drop, get_or-replicate}
use Rattle.std.proofs.lemmas.List.{length-take-le, length-drop}
use Rattle.std.specs.Int.{w64, byte_at, byte_worth, bytes_low_first, sum_through, from_le_bytes}
use Rattle.machine_words.specs.Memory.{load_bytes, byte_of, memory_of}
use Rattle.machine_words.proofs.Public.{load_same, load_short, load_below}

power_256 : (i : ℕ) → 256 ^ i ≡ 2 ^ (8 * i)
power_256 zero = refl
power_256 (suc i) =
    let a : 256 ^ suc i ≡ 256 ^ i * 256 = pow-suc 256 i in
    let d : 8 * suc i ≡ 8 + 8 * i = omega arith in
    let e : 2 ^ (8 + 8 * i) ≡ 256 * 2 ^ (8 * i) = pow-add 2 8 (8 * i) in
    rw (a, power_256 i, d, e) (omega arith)

worth : (i b : ℕ) → byte_worth i b ≡ b * 2 ^ (8 * i)
worth zero b = omega arith
worth (suc i) b = ap (λ p. b * p) (power_256 (suc i))

byte : (i n : ℕ) → byte_at i n ≡ byte_of n i
byte zero n = omega arith
byte (suc i) n = ap (λ p. n / p % 256) (power_256 (suc i))

-- the number of a list of bytes is what is loaded from its place 0
sum_is_load : (k : ℕ) (bytes : List ℕ) → sum_through (λ i. byte_worth i (get_or bytes i 0)) k ≡ load_bytes (suc k)
    (memory_of bytes) 0
unfolding load_bytes
sum_is_load zero bytes = omega arith
sum_is_load (suc k) bytes =
    let a = sum_is_load k bytes in
    let b : byte_worth (suc k) (get_or bytes (suc k) 0) ≡ get_or bytes (suc k) 0 * 2 ^ (8 * suc k) = worth (suc k)
    (get_or bytes (suc k) 0) in
    let z : 0 + suc k ≡ suc k = omega arith in
    rw (a, b, z)

-- the bytes of a word
pub byte_in : (k i n j : ℕ) → j < k → get_or (bytes_low_first i k n) j 0 ≡ byte_of n (i + j)
byte_in zero i n j h = absurd (omega arith)
byte_in (suc k) i n zero h = let z : i + 0 ≡ i = omega arith in rw z (byte i n)
byte_in (suc k) i n (suc j) h =
    let z : i + suc j ≡ suc i + j = omega arith in rw z (byte_in k (suc i) n j (omega arith))

-- ---- a number that is read

-- the bytes that are read, before zeros
before_zeros : (n at i : ℕ) (bytes part : List ℕ) → at + n ≤ length bytes → part ≡ take n (drop at bytes) → i < n
    → get_or (part ++ drop n (replicate 8 0)) i 0 ≡ get_or bytes (at + i) 0
before_zeros n at i bytes part h e l =
    let d : n ≤ length (drop at bytes) = omega (arith, length-drop at bytes) in
    let f : length part ≡ n = ap length e ∙ length-take-le n (drop at bytes) d in
    get_or_append_left part (drop n (replicate 8 0)) 0 i (omega arith) ∙ ap (λ xs. get_or xs i 0) e
    ∙ get_or-take n (drop at bytes) i 0 l ∙ get_or-drop at bytes i 0

-- the zeros
in_zeros : (n i : ℕ) (part : List ℕ) → length part ≡ n → n ≤ i → i < 8 → get_or (part ++ drop n (replicate 8 0)) i 0 ≡ 0
in_zeros n i part f l h =
    let z : n + (i - n) ≡ i = omega arith in
    get_or-append_right part (drop n (replicate 8 0)) n i 0 f l ∙ get_or-drop n (replicate 8 0) (i - n) 0
    ∙ ap (λ k. get_or (replicate 8 0) k 0) z ∙ get_or-replicate 8 i 0 0 h

pub read_is_load : (n at result : ℕ) (bytes part : List ℕ) → n ≤ 8 → at + n ≤ length bytes
    → part ≡ take (at + n - at) (drop at bytes) → result ≡ from_le_bytes w64 (part ++ drop n (replicate 8 0))
    → result ≡ load_bytes n (memory_of bytes) at
read_is_load n at result bytes part s h e f =
    let word = part ++ drop n (replicate 8 0) in
    let z : at + n - at ≡ n = omega arith in
    let p : part ≡ take n (drop at bytes) = e ∙ ap (λ k. take k (drop at bytes)) z in
    let l : length part ≡ n = ap length p ∙ length-take-le n (drop at bytes) (omega (arith, length-drop at bytes)) in
    let a : result ≡ load_bytes 8 (memory_of word) 0 = f ∙ sum_is_load 7 word in
    let k : n + (8 - n) ≡ 8 = omega arith in
    let b : load_bytes (n + (8 - n)) (memory_of word) 0 ≡ load_bytes n (memory_of word) 0 = load_short (8 - n) n
    (memory_of word) 0 (λ i q r. let t : 0 + i ≡ i = omega arith in rw t (in_zeros n i part l q (omega arith))) in
    let c : load_bytes n (memory_of word) 0 ≡ load_bytes n (memory_of bytes) at = load_same n (memory_of word)
    (memory_of bytes) 0 at (λ i q. let t : 0 + i ≡ i = omega arith in
    rw t (before_zeros n at i bytes part h p q)) in
    a ∙ ap (λ j. load_bytes j (memory_of word) 0) (sym k) ∙ b ∙ c

pub read_fits : (n at result : ℕ) (bytes : List ℕ) → ((i : ℕ) → get_or bytes i 0 < 256)
    → result ≡ load_bytes n (memory_of bytes) at → result < 2 ^ (8 * n)
read_fits n at result bytes h e = rw e (load_below n (memory_of bytes) at h)
