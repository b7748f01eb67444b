-- Rows of s-expressions.
use Rattle.std.proofs.Common.{◌≡◌, ℕ, ◌≤◌, List, [], ◌∷◌, ◌++◌, refl, ap, ◌∙◌, sym, arith, append_assoc, append-nil}
use Rattle.sexpr_reader.specs.Datum.{Datum, Datums, no_datums, datum_then, depth, depth_of}
use Rattle.sexpr_reader.specs.Token.{Token}
use Rattle.sexpr_reader.specs.Grammar.{Forms, FormsAll}
use Rattle.sexpr_reader.specs.Reader.{in_row}

-- a row as a list
abbrev pub elements : Datums → List Datum
elements no_datums = []
elements (datum_then d ds) = d ∷ elements ds

pub in_row-elements : (ds : Datums) → in_row (elements ds) ≡ ds
in_row-elements no_datums = refl
in_row-elements (datum_then d ds) = ap (datum_then d) (in_row-elements ds)

-- one more at the end
pub FormsAll-push : (before : List Datum) (d : Datum) (outer front : List Token) → FormsAll outer (in_row before)
    → Forms front d → FormsAll (outer ++ front) (in_row (before ++ d ∷ []))
FormsAll-push [] d outer front none one =
    (front, [], ap (λ ts. ts ++ front) none ∙ sym (append-nil front), one, refl)
FormsAll-push (x ∷ before) d outer front some one = (
  some.0,
  some.1 ++ front,
  ap (λ ts. ts ++ front) some.2 ∙ append_assoc some.0 some.1 front,
  some.3,
  FormsAll-push before d some.1 front some.4 one,
)

pub depth_of-push : (before : List Datum) (d : Datum) (n : ℕ) → depth_of (in_row before) ≤ n → depth d ≤ n
    → depth_of (in_row (before ++ d ∷ [])) ≤ n
depth_of-push [] d n h k = omega arith
depth_of-push (x ∷ before) d n h k =
    let rest : depth_of (in_row (before ++ d ∷ [])) ≤ n = depth_of-push before d n (omega arith) k in
    omega arith

-- a row before another
abbrev pub onto : List Datum → Datums → Datums
onto [] tail = tail
onto (d ∷ ds) tail = datum_then d (onto ds tail)

pub onto-none : (ds : List Datum) → onto ds no_datums ≡ in_row ds
onto-none [] = refl
onto-none (d ∷ ds) = ap (datum_then d) (onto-none ds)

pub onto-push : (ds : List Datum) (d : Datum) (tail : Datums) → onto (ds ++ d ∷ []) tail ≡ onto ds (datum_then d tail)
onto-push [] d tail = refl
onto-push (x ∷ ds) d tail = ap (datum_then x) (onto-push ds d tail)
