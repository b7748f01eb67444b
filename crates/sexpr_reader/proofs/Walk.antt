-- The reader's run along the tokens without what it reads: the open brackets alone.
use Rattle.std.specs.Prelude.{nat_lt, List, [], ◌∷◌, length, drop, Option, Some, None, if◌then◌else◌}
use Rattle.grift_base.specs.declared.places.Pos.{Pos}
use Rattle.grift_base.specs.declared.refusals.Refusal.{Refusal}
use Rattle.grift_base.specs.declared.refusals.RefusalKind.{RefusalKind}
use Rattle.grift_base.specs.declared.refusals.RefusalKind.TheVariants.{Unclosed, Unopened, TooDeep, Empty}
use Rattle.sexpr_reader.specs.Places.{first_place}
use Rattle.sexpr_reader.specs.Token.{Token}
use Rattle.sexpr_reader.specs.Meaning.{meaning}
use Rattle.sexpr_reader.specs.Grammar.{depth_limit}
use Rattle.sexpr_reader.specs.Reader.{same_shape}
use Rattle.sexpr_reader.specs.declared.atoms.Meaning.{Meaning}
use Rattle.sexpr_reader.specs.declared.atoms.Meaning.TheVariants.{Opening, Closing, Int, Bool as Truth, Symbol, Refused}
use Rattle.sexpr_reader.specs.declared.readers.Bracket.{Bracket}

-- why a token with this meaning is refused where these brackets are open, the innermost first
abbrev pub why_refused : List Bracket → Meaning → Option RefusalKind
why_refused opened (Opening shape) = if nat_lt (length opened) depth_limit then None else Some TooDeep
why_refused [] (Closing shape) = Some Unopened
why_refused (innermost ∷ opened) (Closing shape) = if same_shape innermost.shape shape then None else Some Unopened
why_refused opened (Int n) = None
why_refused opened (Truth b) = None
why_refused opened (Symbol name) = None
why_refused opened (Refused kind) = Some kind

-- the brackets that are open behind it
abbrev pub open_behind : List Bracket → Pos → Meaning → List Bracket
open_behind opened p (Opening shape) = record { shape = shape; pos = p } ∷ opened
open_behind opened p (Closing shape) = drop 1 opened
open_behind opened p (Int n) = opened
open_behind opened p (Truth b) = opened
open_behind opened p (Symbol name) = opened
open_behind opened p (Refused kind) = opened

-- the text ends while these are open
abbrev pub unclosed : List Bracket → Option Refusal
unclosed [] = None
unclosed (innermost ∷ opened) = Some (record { kind = Unclosed; pos = innermost.pos })

-- a refusal at this place, or else a later one
abbrev pub refused_here : Pos → Option RefusalKind → Option Refusal → Option Refusal
refused_here p (Some kind) later = Some (record { kind = kind; pos = p })
refused_here p None later = later

-- the refusal of the first token that is refused, and where none is, of the end
abbrev pub first_refusal : List Bracket → List Token → Option Refusal
first_refusal opened [] = unclosed opened
first_refusal opened (t ∷ ts) =
    refused_here t.pos (why_refused opened (meaning t.lexeme))
    (first_refusal (open_behind opened t.pos (meaning t.lexeme)) ts)

abbrev pub refusal_of_tokens : List Token → Option Refusal
refusal_of_tokens [] = Some (record { kind = Empty; pos = first_place })
refusal_of_tokens (t ∷ ts) = first_refusal [] (t ∷ ts)
