-- Rows are equal where their constructors and parts are.
use Rattle.std.proofs.Common.{◌≡◌, ℕ, true, List, [], ◌∷◌, ◌++◌, length, refl, ap, ap₂}
use Rattle.std.proofs.Common.{rules, Decides}
use Rattle.std.specs.Prelude.{nat_eq, ◌&&◌}
use Rattle.std.proofs.lemmas.Bool.{eqb-true, eq-eqb, and_parts}
use Rattle.std.proofs.lemmas.List.{same_from_push}
use Rattle.std.proofs.lemmas.Slice.Eq.{slice_eq-Decides}
use Rattle.grift_base.specs.declared.places.TypeId.{TypeId}
use Rattle.grift_base.specs.Types.{TypeRow, IntRow, BoolRow, UnitRow, DynRow, FunRow, TupleRow, RefRow}
use Rattle.grift_base.specs.Types.{VectRow, same_head}
use Rattle.type_graph.specs.Rows.{places_of, row_of}
use Rattle.type_graph.specs.Forming.{equal_numbers, equal_rows}
use Rattle.type_graph.specs.declared.rows.Row.{Row}
use Rattle.type_graph.specs.declared.rows.Row.TheVariants.{Int, Bool as Truth, Unit as UnitType, Dyn, Fun, Tuple, Ref}
use Rattle.type_graph.specs.declared.rows.Row.TheVariants.{Vect}
use Rattle.std.specs.Cmp.Lexicographic.{pointwise}
use Rattle.type_graph.proofs.Places.{map-injective}
use Rattle.grift_base.specs.contracts.places.TypeIdPartialEq.TheImpl.{ghosts as ids}
use Rattle.type_graph.specs.contracts.rows.RowPartialEq.TheImpl.{ghosts}

-- the comparison of places tells whether they are the same
same_id : (x y : TypeId) → Decides (ids.eq x y) (x ≡ y)
same_id x y = (search rules, search rules)

-- the comparison of rows tells whether they are the same
pub same_row : (x y : Row) → Decides (ghosts.eq x y) (x ≡ y)
same_row x y = search (rules, λ (xs ys : List TypeId). slice_eq-Decides same_id xs ys (pointwise ids.eq xs ys) refl)

pub equal_lists : (xs ys : List ℕ) → equal_numbers xs ys ≡ true → xs ≡ ys
equal_lists [] [] e = refl
equal_lists [] (y ∷ ys) e = cc
equal_lists (x ∷ xs) [] e = cc
equal_lists (x ∷ xs) (y ∷ ys) e =
    let both = and_parts (nat_eq x y) (equal_numbers xs ys) e in
    let head = eqb-true x y both.0 in
    let rest = equal_lists xs ys both.1 in
    cc

-- rows that the test finds equal are one
pub rows_are_equal : (row other : TypeRow) → equal_rows row other ≡ true → row ≡ other
rows_are_equal IntRow IntRow e = refl
rows_are_equal BoolRow BoolRow e = refl
rows_are_equal UnitRow UnitRow e = refl
rows_are_equal DynRow DynRow e = refl
rows_are_equal (FunRow parameters answer) (FunRow others other) e =
    let both = and_parts (same_head (FunRow parameters answer) (FunRow others other))
    (equal_numbers (parameters ++ answer ∷ []) (others ++ other ∷ [])) e in
    let parts = same_from_push parameters others answer other
    (equal_lists (parameters ++ answer ∷ []) (others ++ other ∷ []) both.1) in
    let one = parts.0 in
    let two = parts.1 in
    cc
rows_are_equal (TupleRow parts) (TupleRow others) e =
    let both = and_parts (same_head (TupleRow parts) (TupleRow others)) (equal_numbers parts others) e in
    ap TupleRow (equal_lists parts others both.1)
rows_are_equal (RefRow content) (RefRow other) e =
    let both = and_parts true (equal_numbers (content ∷ []) (other ∷ [])) e in
    let same = equal_lists (content ∷ []) (other ∷ []) both.1 in
    cc
rows_are_equal (VectRow content) (VectRow other) e =
    let both = and_parts true (equal_numbers (content ∷ []) (other ∷ [])) e in
    let same = equal_lists (content ∷ []) (other ∷ []) both.1 in
    cc
rows_are_equal row other e = cc

numbers_same : (xs : List ℕ) → equal_numbers xs xs ≡ true
numbers_same [] = refl
numbers_same (x ∷ xs) = ap₂ ◌&&◌ (eq-eqb x x refl) (numbers_same xs)

pub row_is_itself : (row : TypeRow) → equal_rows row row ≡ true
row_is_itself IntRow = refl
row_is_itself BoolRow = refl
row_is_itself UnitRow = refl
row_is_itself DynRow = refl
row_is_itself (FunRow parameters answer) =
    ap₂ ◌&&◌ (eq-eqb (length parameters) (length parameters) refl) (numbers_same (parameters ++ answer ∷ []))
row_is_itself (TupleRow parts) = ap₂ ◌&&◌ (eq-eqb (length parts) (length parts) refl) (numbers_same parts)
row_is_itself (RefRow content) = numbers_same (content ∷ [])
row_is_itself (VectRow content) = numbers_same (content ∷ [])

-- ---- a row and what contracts see of it

type_is : (x y : TypeId) → x.0 ≡ y.0 → x ≡ y
type_is x y e = λ i. record { 0 = e i }

-- two rows are seen as one only where they are one
pub row_of-injective : (x y : Row) → row_of x ≡ row_of y → x ≡ y
row_of-injective Int Int e = refl
row_of-injective Truth Truth e = refl
row_of-injective UnitType UnitType e = refl
row_of-injective Dyn Dyn e = refl
row_of-injective (Fun xs x) (Fun ys y) e =
    let places : places_of xs ≡ places_of ys = cc in
    let answer : x.0 ≡ y.0 = cc in
    let one = map-injective (λ (id : TypeId). id.0) type_is xs ys places in
    let two = type_is x y answer in
    cc
row_of-injective (Tuple xs) (Tuple ys) e =
    let places : places_of xs ≡ places_of ys = cc in
    ap Tuple (map-injective (λ (id : TypeId). id.0) type_is xs ys places)
row_of-injective (Ref x) (Ref y) e =
    let content : x.0 ≡ y.0 = cc in
    ap Ref (type_is x y content)
row_of-injective (Vect x) (Vect y) e =
    let content : x.0 ≡ y.0 = cc in
    ap Vect (type_is x y content)
row_of-injective x y e = cc
