-- Kinds of bytes in a source.
use Rattle.std.specs.Prelude.{ℕ, Bool, ◌==◌, ◌||◌, codes}
use Rattle.std.specs.List.{list_any}
use Rattle.std.specs.Char.{is_ascii_alphanumeric}

abbrev pub is_line_feed : ℕ → Bool
is_line_feed b = b == 10

-- space, tab, carriage return and line feed
abbrev pub is_white : ℕ → Bool
is_white b = b == 32 || b == 9 || b == 13 || is_line_feed b

-- `;`, which begins a comment
abbrev pub is_comment_sign : ℕ → Bool
is_comment_sign b = b == 59

abbrev pub is_hash : ℕ → Bool
is_hash b = b == 35

-- the signs that may stand in an atom beside letters and digits
abbrev pub is_symbol_sign : ℕ → Bool
is_symbol_sign b = list_any (λ sign. sign == b) (codes "!$%&*/:<=>?^_~+-.@")

abbrev pub is_symbol_byte : ℕ → Bool
is_symbol_byte b = is_ascii_alphanumeric b || is_symbol_sign b
