-- How a text is cut into tokens.
use Rattle.std.specs.Prelude.{ℕ, Bool, false, ◌==◌, ◌||◌, ◌&&◌, List, [], ◌∷◌, ◌++◌, if◌then◌else◌}
use Rattle.std.specs.List.{list_any, take_while}
use Rattle.grift_base.specs.declared.places.Pos.{Pos}
use Rattle.sexpr_reader.specs.Bytes.{is_white, is_comment_sign, is_hash, is_symbol_byte}
use Rattle.sexpr_reader.specs.Places.{line_before, place_after}
use Rattle.sexpr_reader.specs.declared.scan.Shape.{Shape}
use Rattle.sexpr_reader.specs.declared.scan.Shape.TheVariants.{Round, Square}

pub data Lexeme : Type 0 where
  open_bracket : Shape → Lexeme
  close_bracket : Shape → Lexeme
  atom : List ℕ → Lexeme
  -- the symbol bytes behind a hash
  hash_atom : List ℕ → Lexeme
  quote : Lexeme
  -- any other byte
  other : Lexeme

-- a lexeme and the place of its first byte
pub record Token : Type 0 where
  pub pos : Pos
  pub lexeme : Lexeme

-- what stands behind this text stands in a comment: a `;` is before it on its line
abbrev pub is_in_comment : List ℕ → Bool
is_in_comment before = list_any is_comment_sign (line_before before)

-- an atom or a hash atom may go on here: behind a symbol byte or a hash; the line is that before the place, the nearest
-- byte first
abbrev pub may_go_on : List ℕ → Bool
may_go_on [] = false
may_go_on (last ∷ line) = is_symbol_byte last || is_hash last

-- the lexeme of a byte that is neither white nor a symbol byte, nor a hash
abbrev pub mark : ℕ → Lexeme
mark b =
    if b == 40 then open_bracket Round
    else if b == 41 then close_bracket Round
    else if b == 91 then open_bracket Square
    else if b == 93 then close_bracket Square
    else if b == 34 then quote
    else other

-- the lexeme that begins with this byte, where one does: an atom has all symbol bytes that follow
abbrev pub lexeme_at : ℕ → List ℕ → Lexeme
lexeme_at b rest =
    if is_symbol_byte b then atom (b ∷ take_while is_symbol_byte rest)
    else if is_hash b then hash_atom (take_while is_symbol_byte rest)
    else mark b

-- no token begins with this byte: it is white or in a comment, or an atom goes on with it
abbrev pub no_token_begins : List ℕ → ℕ → Bool
no_token_begins before b =
    is_in_comment before || is_white b || is_comment_sign b || (is_symbol_byte b && may_go_on (line_before before))

-- the tokens that begin in the rest of a text
abbrev pub tokens_behind : List ℕ → List ℕ → List Token
tokens_behind before [] = []
tokens_behind before (b ∷ rest) =
    (if no_token_begins before b then [] else record { pos = place_after before; lexeme = lexeme_at b rest } ∷ [])
    ++ tokens_behind (before ++ b ∷ []) rest

abbrev pub tokens : List ℕ → List Token
tokens text = tokens_behind [] text
