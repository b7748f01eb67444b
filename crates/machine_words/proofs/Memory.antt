-- What loads and stores give.
use Rattle.std.proofs.Common.{mod-eq_of_lt, ℕ, zero, suc, ◌+◌, ◌-◌, ◌*◌, ◌/◌, ◌%◌, ◌^◌, ◌<◌, ◌≤◌, ◌≡◌, ◌⊎◌, refl, ◌∙◌}
use Rattle.std.proofs.Common.{arith}
use Rattle.std.proofs.lemmas.Nat.{mod-pow-add, mul-le, pow-add}
use Rattle.machine_words.specs.Memory.{Memory, load_bytes, store_bytes, byte_of}

-- the byte at an address inside a store, and outside
pub stored_inside : (count : ℕ) (m : Memory) (at word i : ℕ) → at ≤ i → i < at + count →
    store_bytes count m at word i ≡ byte_of word (i - at)
unfolding store_bytes
stored_inside count m at word i h k = grind arith

pub stored_outside : (count : ℕ) (m : Memory) (at word i : ℕ) → (i < at) ⊎ (at + count ≤ i) →
    store_bytes count m at word i ≡ m i
unfolding store_bytes
stored_outside count m at word i h = grind arith

-- a load sees only its bytes
pub load_same : (k : ℕ) (m n : Memory) (at to : ℕ) → ((i : ℕ) → i < k → m (at + i) ≡ n (to + i)) →
    load_bytes k m at ≡ load_bytes k n to
unfolding load_bytes
load_same zero m n at to h = refl
load_same (suc k) m n at to h =
    let a : load_bytes k m at ≡ load_bytes k n to = load_same k m n at to (λ i p. h i (omega arith)) in
    let b : m (at + k) ≡ n (to + k) = h k (omega arith) in
    rw (a, b)

-- bytes that are 0 at the high end add nothing
pub load_short : (j k : ℕ) (m : Memory) (at : ℕ) → ((i : ℕ) → k ≤ i → i < k + j → m (at + i) ≡ 0) →
    load_bytes (k + j) m at ≡ load_bytes k m at
unfolding load_bytes
load_short zero k m at h = let e : k + 0 ≡ k = omega arith in rw e
load_short (suc j) k m at h =
    let a : load_bytes (k + j) m at ≡ load_bytes k m at = load_short j k m at (λ i p q. h i p (omega arith)) in
    let b : m (at + (k + j)) ≡ 0 = h (k + j) (omega arith) (omega arith) in
    let e : k + suc j ≡ suc (k + j) = omega arith in
    rw (e, a, b) (omega arith)

-- a number that was written is read back
load_front : (j count : ℕ) (m : Memory) (at word : ℕ) → j ≤ count →
    load_bytes j (store_bytes count m at word) at ≡ word % 2 ^ (8 * j)
unfolding load_bytes
load_front zero count m at word h = grind arith
load_front (suc j) count m at word h =
    let a : load_bytes j (store_bytes count m at word) at ≡ word % 2 ^ (8 * j) =
    load_front j count m at word (omega arith) in
    let b : store_bytes count m at word (at + j) ≡ byte_of word (at + j - at) =
    stored_inside count m at word (at + j) (omega arith) (omega arith) in
    let c : at + j - at ≡ j = omega arith in
    let d : 8 * suc j ≡ 8 + 8 * j = omega arith in
    let e : word % 2 ^ (8 + 8 * j) ≡ (word / 2 ^ (8 * j) % 2 ^ 8) * 2 ^ (8 * j) + word % 2 ^ (8 * j) =
    mod-pow-add word 8 (8 * j) in
    rw (a, b, c, d, e) (omega arith)

-- the lowest bytes of a word that was written are read back
pub load_lowest : (count : ℕ) (m : Memory) (at word : ℕ) →
    load_bytes count (store_bytes count m at word) at ≡ word % 2 ^ (8 * count)
load_lowest count m at word = load_front count count m at word (omega arith)

pub load_stored : (count : ℕ) (m : Memory) (at word : ℕ) → word < 2 ^ (8 * count) →
    load_bytes count (store_bytes count m at word) at ≡ word
load_stored count m at word h = load_lowest count m at word ∙ mod-eq_of_lt h

-- other numbers stay
pub load_other : (k count : ℕ) (m : Memory) (at word to : ℕ) → (to + k ≤ at) ⊎ (at + count ≤ to) →
    load_bytes k (store_bytes count m at word) to ≡ load_bytes k m to
load_other k count m at word to h = load_same k _ m to to (λ i p. stored_outside count m at word (to + i) (grind arith))

-- a load fits its width
pub load_below : (k : ℕ) (m : Memory) (at : ℕ) → ((i : ℕ) → m i < 256) → load_bytes k m at < 2 ^ (8 * k)
unfolding load_bytes
load_below zero m at h = omega arith
load_below (suc k) m at h =
    let a : load_bytes k m at < 2 ^ (8 * k) = load_below k m at h in
    let d : 8 * suc k ≡ 8 + 8 * k = omega arith in
    let e : 2 ^ (8 + 8 * k) ≡ 256 * 2 ^ (8 * k) = pow-add 2 8 (8 * k) in
    let b : m (at + k) ≤ 255 = omega (arith, h (at + k)) in
    let f : m (at + k) * 2 ^ (8 * k) ≤ 255 * 2 ^ (8 * k) =
    mul-le (m (at + k)) (2 ^ (8 * k)) 255 (2 ^ (8 * k)) b (omega arith) in
    rw (d, e) (omega arith)
