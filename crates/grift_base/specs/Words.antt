-- Memories that tell their words.
use Rattle.std.specs.Prelude.{ℕ, ◌+◌, ◌%◌, ◌==◌, ◌&&◌, nat_le, if◌then◌else◌, Option, Some, None}

-- the word at an address of a memory from `first` up to `end`: none where the address is no multiple of 8, or the eight
-- bytes don't all lie there
abbrev pub word_within : ℕ → ℕ → (ℕ → ℕ) → ℕ → Option ℕ
word_within first end word at =
    if (at % 8 == 0) && (nat_le first at && nat_le (at + 8) end) then Some (word at) else None
