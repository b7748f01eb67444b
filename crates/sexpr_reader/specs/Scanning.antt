-- How the scanner goes along a text, for the contracts of its private functions.
use Rattle.std.specs.Prelude.{ℕ, ◌≡◌, ◌≤◌, ◌+◌, Bool, false, ◌&&◌, ◌||◌, List, [], ◌∷◌, length, take, drop}
use Rattle.std.specs.Prelude.{if◌then◌else◌}
use Rattle.std.specs.List.{prefix_len}
use Rattle.sexpr_reader.specs.Bytes.{is_hash, is_symbol_byte}
use Rattle.sexpr_reader.specs.Places.{line_before, place_after}
use Rattle.sexpr_reader.specs.Token.{Lexeme, open_bracket, close_bracket, atom, hash_atom, quote, other, Token}
use Rattle.sexpr_reader.specs.Token.{is_in_comment, may_go_on, tokens_behind}
use Rattle.sexpr_reader.specs.declared.scan.Lexeme.{Lexeme as ScanLexeme}
use Rattle.sexpr_reader.specs.declared.scan.Lexeme.TheVariants.{Open, Close, Atom, HashAtom, Quote, Other}
use Rattle.sexpr_reader.specs.declared.scan.Token.{Token as ScanToken}
use Rattle.sexpr_reader.specs.declared.scan.Cursor.{Cursor}

abbrev pub lexeme_of : ScanLexeme → Lexeme
lexeme_of (Open shape) = open_bracket shape
lexeme_of (Close shape) = close_bracket shape
lexeme_of (Atom bytes) = atom bytes.now
lexeme_of (HashAtom bytes) = hash_atom bytes.now
lexeme_of Quote = quote
lexeme_of Other = other

abbrev pub token_of : ScanToken → Token
token_of t = record { pos = t.pos; lexeme = lexeme_of t.lexeme }

-- how many bytes the lexeme takes that begins with this byte
abbrev pub lexeme_len : ℕ → List ℕ → ℕ
lexeme_len b rest = if is_symbol_byte b || is_hash b then 1 + prefix_len is_symbol_byte rest else 1

-- the cursor is a place in the text
pub record Stands (text : List ℕ) (c : Cursor) : Type 0 where
  pub in_text : c.at ≤ length text
  pub place : c.pos ≡ place_after (take c.at text)
  pub low_line : c.pos.line ≤ c.at + 1
  pub low_col : c.pos.col ≤ c.at + 1

-- an atom before this goes on with it
abbrev pub goes_on : List ℕ → List ℕ → Bool
goes_on before [] = false
goes_on before (b ∷ rest) = is_symbol_byte b && may_go_on (line_before before)

-- at this place neither a comment nor an atom goes on
pub record IsBetween (text : List ℕ) (at : ℕ) : Type 0 where
  pub outside : is_in_comment (take at text) ≡ false
  pub apart : goes_on (take at text) (drop at text) ≡ false

-- the tokens from here on
abbrev pub tokens_at : List ℕ → ℕ → List Token
tokens_at text at = tokens_behind (take at text) (drop at text)

-- the first token from here on is this one, and the others begin behind this cursor
pub record TakesToken (text : List ℕ) (at : ℕ) (t : ScanToken) (next : Cursor) : Type 0 where
  pub tokens : tokens_at text at ≡ token_of t ∷ tokens_at text next.at
  pub stands : Stands text next
  pub between : IsBetween text next.at
