-- Which texts are refused, why and where.
use Rattle.std.specs.Prelude.{ℕ, ◌≡◌, ◌≢◌, ◌≤◌, ◌⊎◌, List, [], ◌∷◌, ◌++◌, length}
use Rattle.grift_base.specs.declared.refusals.Refusal.{Refusal}
use Rattle.grift_base.specs.declared.refusals.RefusalKind.{RefusalKind}
use Rattle.grift_base.specs.declared.refusals.RefusalKind.TheVariants.{Unclosed, Unopened, TooDeep, Empty}
use Rattle.sexpr_reader.specs.Places.{first_place}
use Rattle.sexpr_reader.specs.Token.{Token, tokens}
use Rattle.sexpr_reader.specs.Meaning.{meaning}
use Rattle.sexpr_reader.specs.Grammar.{AreForms, depth_limit}
use Rattle.sexpr_reader.specs.declared.scan.Shape.{Shape}
use Rattle.sexpr_reader.specs.declared.atoms.Meaning.{Meaning}
use Rattle.sexpr_reader.specs.declared.atoms.Meaning.TheVariants.{Opening, Closing, Int, Bool as Truth, Symbol, Refused}
use Rattle.sexpr_reader.specs.declared.readers.Bracket.{Bracket}

-- ---- brackets that are open

-- This token closes an opening bracket of this shape that stands before it, with these tokens between the two: they
-- form whole s-expressions, and it is a closing bracket of the same shape.
pub record Closes (shape : Shape) (between : List Token) (last : Token) : Type 0 where
  pub whole : AreForms between
  pub bracket : meaning last.lexeme ≡ Closing shape

-- The token is an opening bracket of this shape, and none of the tokens behind it closes it.
pub record IsOpen (t : Token) (shape : Shape) (behind : List Token) : Type 0 where
  pub bracket : meaning t.lexeme ≡ Opening shape
  pub unclosed : (between : List Token) (last : Token) (rest : List Token) →
      behind ≡ between ++ last ∷ rest → Closes shape between last → ⊥

-- The brackets among these tokens that are open behind the last of them, the innermost first: those among the tokens
-- behind the first one, and then the first one, where it is open itself.
abbrev pub AreOpen : List Token → List Bracket → Type 0
AreOpen [] opened = opened ≡ []
AreOpen (t ∷ ts) opened =
    (inner : List Bracket) × AreOpen ts inner
    × (((shape : Shape) × IsOpen t shape ts × (opened ≡ inner ++ record { shape = shape; pos = t.pos } ∷ []))
    ⊎ (((shape : Shape) → IsOpen t shape ts → ⊥) × (opened ≡ inner)))

-- ---- refused tokens

-- of these open brackets none is there, or the innermost has another shape than this
abbrev pub HasNoPartner : List Bracket → Shape → Type 0
HasNoPartner [] shape = Unit {0}
HasNoPartner (innermost ∷ outer) shape = innermost.shape ≢ shape

-- Why a token with this meaning is refused where these brackets are open: an opening bracket, since as many are open
-- as may be; a closing bracket, since it has no partner; any other token, by its own meaning.
abbrev pub IsReason : List Bracket → Meaning → RefusalKind → Type 0
IsReason opened (Opening shape) kind = (kind ≡ TooDeep) × (depth_limit ≤ length opened)
IsReason opened (Closing shape) kind = (kind ≡ Unopened) × HasNoPartner opened shape
IsReason opened (Refused own) kind = kind ≡ own
IsReason opened (Int n) kind = ⊥
IsReason opened (Truth b) kind = ⊥
IsReason opened (Symbol name) kind = ⊥

-- the token that stands behind these is refused so
pub record IsTokenRefused (before : List Token) (t : Token) (kind : RefusalKind) : Type 0 where
  pub opened : List Bracket
  pub are_open : AreOpen before opened
  pub reason : IsReason opened (meaning t.lexeme) kind

-- none of these tokens is refused
abbrev pub NoneIsRefused : List Token → Type 0
NoneIsRefused ts =
    (before : List Token) (t : Token) (after : List Token) (kind : RefusalKind) →
    ts ≡ before ++ t ∷ after → IsTokenRefused before t kind → ⊥

-- ---- the first refusal

-- it is that of a token, and no token before this one is refused
pub record IsOfToken (ts : List Token) (r : Refusal) : Type 0 where
  pub before : List Token
  pub token : Token
  pub after : List Token
  pub split : ts ≡ before ++ token ∷ after
  pub none_before : NoneIsRefused before
  pub refused : IsTokenRefused before token r.kind
  pub place : r.pos ≡ token.pos

-- no token is refused, brackets are open behind the last one, and the refusal stands at the innermost of them
pub record IsOfOpenBracket (ts : List Token) (r : Refusal) : Type 0 where
  pub none : NoneIsRefused ts
  pub innermost : Bracket
  pub outer : List Bracket
  pub are_open : AreOpen ts (innermost ∷ outer)
  pub refusal : r ≡ record { kind = Unclosed; pos = innermost.pos }

-- there is no token, and the refusal stands at the first place
pub record IsOfNothing (ts : List Token) (r : Refusal) : Type 0 where
  pub none : ts ≡ []
  pub refusal : r ≡ record { kind = Empty; pos = first_place }

-- why and where these tokens are refused
abbrev pub AreRefused : List Token → Refusal → Type 0
AreRefused ts r = IsOfToken ts r ⊎ (IsOfOpenBracket ts r ⊎ IsOfNothing ts r)

-- why and where this text is refused
abbrev pub IsRefused : List ℕ → Refusal → Type 0
IsRefused text r = AreRefused (tokens text) r
