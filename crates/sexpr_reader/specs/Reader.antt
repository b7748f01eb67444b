-- How the reader goes along the tokens: its state as plain data, for the contracts of its private functions.
use Rattle.std.specs.Prelude.{ℕ, Bool, true, false, nat_lt, List, [], ◌∷◌, ◌++◌, length, Result, Ok, Err, if◌then◌else◌}
use Rattle.grift_base.specs.declared.places.Pos.{Pos}
use Rattle.grift_base.specs.declared.refusals.Refusal.{Refusal}
use Rattle.grift_base.specs.declared.refusals.RefusalKind.TheVariants.{Unclosed, Unopened, TooDeep, Empty}
use Rattle.sexpr_reader.specs.Datum.{integer, truth, symbol, Datum, leaf_datum, list_datum, Datums, no_datums}
use Rattle.sexpr_reader.specs.Datum.{datum_then}
use Rattle.sexpr_reader.specs.Places.{first_place}
use Rattle.sexpr_reader.specs.Token.{Token}
use Rattle.sexpr_reader.specs.Meaning.{meaning}
use Rattle.sexpr_reader.specs.declared.scan.Shape.{Shape}
use Rattle.sexpr_reader.specs.declared.scan.Shape.TheVariants.{Round, Square}
use Rattle.sexpr_reader.specs.declared.atoms.Meaning.{Meaning}
use Rattle.sexpr_reader.specs.declared.atoms.Meaning.TheVariants.{Opening, Closing, Int, Bool as Truth, Symbol, Refused}
use Rattle.sexpr_reader.specs.declared.readers.Bracket.{Bracket}

-- an open list: its bracket, and what stands before it in the list around it
pub record OpenList : Type 0 where
  pub bracket : Bracket
  pub before : List Datum

-- the open lists, the innermost first, and the elements of the innermost so far
pub record ReaderState : Type 0 where
  pub around : List OpenList
  pub items : List Datum

abbrev pub start : ReaderState
start = record { around = []; items = [] }

-- the elements as a list of their own
abbrev pub in_row : List Datum → Datums
in_row [] = no_datums
in_row (d ∷ ds) = datum_then d (in_row ds)

abbrev pub with_item : Datum → ReaderState → ReaderState
with_item d s = record { around = s.around; items = s.items ++ d ∷ [] }

abbrev pub opened : ℕ → Bracket → ReaderState → Result ReaderState Refusal
opened limit bracket s =
    if nat_lt (length s.around) limit
    then Ok (record { around = record { bracket = bracket; before = s.items } ∷ s.around; items = [] })
    else Err (record { kind = TooDeep; pos = bracket.pos })

abbrev pub same_shape : Shape → Shape → Bool
same_shape Round Round = true
same_shape Round Square = false
same_shape Square Round = false
same_shape Square Square = true

-- the innermost list ends at a closing bracket
abbrev pub closed : Bracket → List OpenList → List Datum → Result ReaderState Refusal
closed bracket [] items = Err (record { kind = Unopened; pos = bracket.pos })
closed bracket (innermost ∷ around) items =
    if same_shape innermost.bracket.shape bracket.shape
    then Ok (record {
      around = around;
      items = innermost.before ++ list_datum innermost.bracket.pos
          (in_row items) ∷ [];
    })
    else Err (record { kind = Unopened; pos = bracket.pos })

-- the state behind a token with this meaning, where at most so many lists may be open
abbrev pub step : ℕ → Pos → Meaning → ReaderState → Result ReaderState Refusal
step limit p (Opening shape) s = opened limit (record { shape = shape; pos = p }) s
step limit p (Closing shape) s = closed (record { shape = shape; pos = p }) s.around s.items
step limit p (Int n) s = Ok (with_item (leaf_datum p (integer n)) s)
step limit p (Truth b) s = Ok (with_item (leaf_datum p (truth b)) s)
step limit p (Symbol name) s = Ok (with_item (leaf_datum p (symbol name)) s)
step limit p (Refused kind) s = Err (record { kind = kind; pos = p })

-- the text ends
abbrev pub ended : List OpenList → List Datum → Result Datums Refusal
ended [] items = Ok (in_row items)
ended (innermost ∷ around) items = Err (record { kind = Unclosed; pos = innermost.bracket.pos })

abbrev pub go_on : (ReaderState → Result Datums Refusal) → Result ReaderState Refusal → Result Datums Refusal
go_on next (Ok s) = next s
go_on next (Err r) = Err r

-- what is read from these tokens on
abbrev pub run : ℕ → List Token → ReaderState → Result Datums Refusal
run limit [] s = ended s.around s.items
run limit (t ∷ ts) s = go_on (run limit ts) (step limit t.pos (meaning t.lexeme) s)

-- a text without s-expressions is refused
abbrev pub not_empty : Result Datums Refusal → Result Datums Refusal
not_empty (Ok no_datums) = Err (record { kind = Empty; pos = first_place })
not_empty (Ok (datum_then d ds)) = Ok (datum_then d ds)
not_empty (Err r) = Err r
