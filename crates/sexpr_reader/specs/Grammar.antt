-- Which tokens form which s-expressions.
use Rattle.std.specs.Prelude.{ℕ, ◌≡◌, ◌≢◌, ◌≤◌, List, [], ◌∷◌, ◌++◌}
use Rattle.sexpr_reader.specs.Datum.{Datum, leaf_datum, list_datum, Datums, no_datums, datum_then, depth_of}
use Rattle.sexpr_reader.specs.Token.{Token, tokens}
use Rattle.sexpr_reader.specs.Meaning.{alone, meaning}
use Rattle.sexpr_reader.specs.declared.scan.Shape.{Shape}
use Rattle.sexpr_reader.specs.declared.atoms.Meaning.TheVariants.{Opening, Closing}

-- the most brackets that may be open at once
abbrev pub depth_limit : ℕ
depth_limit = 200

abbrev mutual
  -- A leaf is one token. A list is an opening bracket, the tokens of its elements and a closing bracket of the same
  -- shape; its place is that of the opening bracket.
  pub Forms : List Token → Datum → Type 0
  Forms ts (leaf_datum p leaf) = (t : Token) × (ts ≡ t ∷ []) × (t.pos ≡ p) × (meaning t.lexeme ≡ alone leaf)
  Forms ts (list_datum p ds) =
      (shape : Shape) × (first : Token) × (inner : List Token) × (last : Token)
      × (ts ≡ first ∷ inner ++ last ∷ []) × (first.pos ≡ p)
      × (meaning first.lexeme ≡ Opening shape) × (meaning last.lexeme ≡ Closing shape) × FormsAll inner ds

  -- no tokens are no s-expressions; else the tokens of the first one stand before those of the others
  pub FormsAll : List Token → Datums → Type 0
  FormsAll ts no_datums = ts ≡ []
  FormsAll ts (datum_then d ds) =
      (front : List Token) × (rest : List Token) × (ts ≡ front ++ rest) × Forms front d × FormsAll rest ds

-- tokens that form s-expressions in a row, or none
abbrev pub AreForms : List Token → Type 0
AreForms ts = (ds : Datums) × FormsAll ts ds

-- what a text reads as: these s-expressions, at least one, with lists not too deep in one another
pub record Reads (text : List ℕ) (ds : Datums) : Type 0 where
  pub forms : FormsAll (tokens text) ds
  pub some : ds ≢ no_datums
  pub shallow : depth_of ds ≤ depth_limit
