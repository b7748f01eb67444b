-- The words of a code.
use Rattle.std.proofs.Common.{◌≡◌, ℕ, zero, suc, ◌+◌, ◌*◌, ◌^◌, ◌<◌, List, [], ◌∷◌, ◌++◌, length, refl, ap, arith}
use Rattle.std.specs.Prelude.{All}
use Rattle.std.proofs.lemmas.List.Elements.{All-nil, All-cons}
use Rattle.machine_words.specs.Memory.{load_bytes, memory_of}
use Rattle.machine_words.proofs.Public.{load_below}
use Rattle.listing.specs.CodeLines.{words_from}

pub words_none : (bytes : List ℕ) (at : ℕ) → words_from bytes at 0 ≡ []
unfolding words_from
words_none bytes at = refl

-- one word more
pub words_more : (n at : ℕ) (bytes : List ℕ)
    → words_from bytes at (n + 1) ≡ words_from bytes at n ++ load_bytes 4 (memory_of bytes) (at + 4 * n) ∷ []
unfolding words_from
words_more zero at bytes = let e : at + 4 * 0 ≡ at = omega arith in rw e
words_more (suc n) at bytes =
    let z : suc n + 1 ≡ suc (n + 1) = omega arith in
    let e : at + 4 * suc n ≡ at + 4 + 4 * n = omega arith in
    rw (z, e) (ap (λ xs. load_bytes 4 (memory_of bytes) at ∷ xs) (words_more n (at + 4) bytes))

pub length-words_from : (n at : ℕ) (bytes : List ℕ) → length (words_from bytes at n) ≡ n
unfolding words_from
length-words_from zero at bytes = refl
length-words_from (suc n) at bytes = ap suc (length-words_from n (at + 4) bytes)

-- they have 32 bits
pub words_fit : (n at : ℕ) (bytes : List ℕ) → ((i : ℕ) → memory_of bytes i < 256)
    → All (λ word. word < 2 ^ 32) (words_from bytes at n)
unfolding words_from
words_fit zero at bytes bytes_fit = All-nil (λ word. word < 2 ^ 32)
words_fit (suc n) at bytes bytes_fit =
    All-cons (λ word. word < 2 ^ 32) (load_bytes 4 (memory_of bytes) at) (words_from bytes (at + 4) n)
    (load_below 4 (memory_of bytes) at bytes_fit) (words_fit n (at + 4) bytes bytes_fit)
