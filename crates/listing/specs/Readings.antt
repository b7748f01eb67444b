-- Texts that are listings of a code.
use Rattle.std.specs.Prelude.{ℕ, ◌+◌, ◌*◌, ◌%◌, ◌^◌, ◌<◌, ◌≡◌, List, All, length}
use Rattle.listing.specs.CodeLines.{code_lines}

-- the text lists these words of 32 bits from this address on: every line is the line of its word, the addresses rise by
-- 4, and each is below 2 ^ 64
pub record ListsFrom (first : ℕ) (text words : List ℕ) : Type 0 where
  pub lines : text ≡ code_lines first words
  pub words_fit : All (λ word. word < 2 ^ 32) words
  pub addresses_fit : (k : ℕ) → k < length words → first + 4 * k < 2 ^ 64

-- it does so from some address on that is a multiple of 4
pub record IsListing (text words : List ℕ) : Type 0 where
  pub first : ℕ
  pub aligned : first % 4 ≡ 0
  pub lists : ListsFrom first text words
