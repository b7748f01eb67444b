-- The table of types has room for each row that is formed from types that may be parts.
use Rattle.std.proofs.Common.{◌≡◌, ℕ, zero, suc, ◌<◌, ◌≤◌, max, min, List, [], ◌∷◌, ◌++◌, length, Option, Some, None}
use Rattle.std.proofs.Common.{refl, sym, ap, ◌∙◌, subst, arith}
use Rattle.std.specs.Prelude.{All, Result, Ok, Err, IfOk, OnOk}
use Rattle.std.proofs.lemmas.List.Elements.{All-nil, All-cons, All-append, All-head, All-tail, All-weaker}
use Rattle.std.proofs.lemmas.Option.{slice_get_within}
use Rattle.grift_base.specs.Types.{TypeRow, TypeRows, IntRow, BoolRow, UnitRow, DynRow, FunRow, TupleRow, RefRow}
use Rattle.grift_base.specs.Types.{VectRow, row_at, parts_of}
use Rattle.type_graph.specs.Forming.{intern}
use Rattle.type_graph.specs.Trees.{row_parts, height, height_to, above_all, size, size_to, sum_of}
use Rattle.type_graph.specs.TypeTables.{IsOrderedTable, HasMoreRows, MayBePart, FitsTable, HasWidth}
use Rattle.type_graph.proofs.Public.{later_within, height_by_parts, height_grown, intern_adds}
use Rattle.type_graph.proofs.Public.{row_at-intern, parts_within}
use Rattle.surface_trees.specs.Trees.{Expr, Exprs, NoExprs, ExprThen}
use Rattle.cast_rules.specs.Programs.{IsSource, IsSourceBody}
use Rattle.cast_rules.specs.Room.{Grows, AreParts, MayPart, IsWithin, AreWithin, StandsOn}

-- ---- tables that grow

pub grows_same : (types : TypeRows) → Grows types types
grows_same types = record { kept = λ type within. (within, refl) }

pub grows_on : (a b c : TypeRows) → Grows a b → Grows b c → Grows a c
grows_on a b c f g = record {
  kept = λ type within.
      let one = f.kept type within in
      let two = g.kept type one.0 in
      (two.0, two.1 ∙ one.1);
}

-- where the last call has an answer, the table grew until there and on
pub grows_last : {A E : Type 0} (result : Result A E) (a b c : TypeRows) → Grows a b → OnOk result (Grows b c) →
    OnOk result (Grows a c)
grows_last (Ok answer) a b c f g = grows_on a b c f g
grows_last (Err fault) a b c f g = g

-- what holds anyway holds where a call has an answer
pub on_ok : {A E P : Type 0} (result : Result A E) → P → OnOk result P
on_ok (Ok answer) h = h
on_ok (Err fault) h = tt

pub more_grows : (a b : TypeRows) → IsOrderedTable a → HasMoreRows a b → Grows a b
more_grows a b table more = record {
  kept = λ type within. (later_within a b type more within, height_grown a b table.finite more type within);
}

pub interned_grows : (row : TypeRow) (old new : TypeRows) (type : ℕ) → IsOrderedTable old →
    intern row old ≡ (type, new) → Grows old new
interned_grows row old new type table e =
    more_grows old new table (subst (λ rows. HasMoreRows old rows) (ap (λ (d : ℕ × TypeRows). d.1) e)
    (intern_adds row old))

-- ---- parts of types

pub part_later : (a b : TypeRows) (type : ℕ) → Grows a b → MayBePart a type → MayBePart b type
part_later a b type g h =
    let k = g.kept type h.there in
    record { there = k.0; low = (let e = k.1 in let l = h.low in omega arith) }

pub parts_later : (a b : TypeRows) (parts : List ℕ) → Grows a b → AreParts a parts → AreParts b parts
parts_later a b parts g h =
    record { each = All-weaker (MayBePart a) (MayBePart b) (λ part k. part_later a b part g k) parts h.each }

pub may_part_later : (a b : TypeRows) (type : Option ℕ) → Grows a b → MayPart a type → MayPart b type
may_part_later a b (Some type) g h = part_later a b type g h
may_part_later a b None g h = tt

pub no_parts : (types : TypeRows) → AreParts types []
no_parts types = record { each = All-nil (MayBePart types) }

pub parts_then : (types : TypeRows) (part : ℕ) (parts : List ℕ) → MayBePart types part → AreParts types parts →
    AreParts types (part ∷ parts)
parts_then types part parts h k = record { each = All-cons (MayBePart types) part parts h k.each }

one_part : (types : TypeRows) (part : ℕ) → MayBePart types part → All (MayBePart types) (part ∷ [])
one_part types part h = All-cons (MayBePart types) part [] h (All-nil (MayBePart types))

-- ---- rows that fit

pub leaf_fits-int : (types : TypeRows) → FitsTable types IntRow
leaf_fits-int types = record { parts = All-nil (MayBePart types); width = tt }

pub leaf_fits-bool : (types : TypeRows) → FitsTable types BoolRow
leaf_fits-bool types = record { parts = All-nil (MayBePart types); width = tt }

pub leaf_fits-unit : (types : TypeRows) → FitsTable types UnitRow
leaf_fits-unit types = record { parts = All-nil (MayBePart types); width = tt }

pub leaf_fits-dyn : (types : TypeRows) → FitsTable types DynRow
leaf_fits-dyn types = record { parts = All-nil (MayBePart types); width = tt }

pub fun_fits : (types : TypeRows) (parameters : List ℕ) (answer : ℕ) → AreParts types parameters →
    MayBePart types answer → length parameters ≤ 6 → FitsTable types (FunRow parameters answer)
fun_fits types parameters answer h k few = record {
  parts = All-append (MayBePart types) parameters (answer ∷ []) h.each (one_part types answer k);
  width = few;
}

pub tuple_fits : (types : TypeRows) (parts : List ℕ) → AreParts types parts → 1 ≤ length parts → length parts ≤ 8 →
    FitsTable types (TupleRow parts)
tuple_fits types parts h least most = record { parts = h.each; width = (least, most) }

pub ref_fits : (types : TypeRows) (content : ℕ) → MayBePart types content → FitsTable types (RefRow content)
ref_fits types content h = record { parts = one_part types content h; width = tt }

pub vect_fits : (types : TypeRows) (content : ℕ) → MayBePart types content → FitsTable types (VectRow content)
vect_fits types content h = record { parts = one_part types content h; width = tt }

-- ---- heights

-- what is above all parts is below what is above each
above_within : (f : ℕ → ℕ) (most : ℕ) (parts : List ℕ) → All (λ part. f part ≤ most) parts →
    above_all f parts ≤ suc most
above_within f most [] all = omega arith
above_within f most (part ∷ parts) all =
    let one = All-head (λ part. f part ≤ most) part parts all in
    let rest = above_within f most parts (All-tail (λ part. f part ≤ most) part parts all) in
    omega arith

-- each part is below what is above all
below_above : (f : ℕ → ℕ) (parts : List ℕ) → All (λ part. suc (f part) ≤ above_all f parts) parts
below_above f [] = All-nil (λ part. suc (f part) ≤ 0)
below_above f (part ∷ parts) =
    All-cons (λ p. suc (f p) ≤ above_all f (part ∷ parts)) part parts (omega arith)
    (All-weaker (λ p. suc (f p) ≤ above_all f parts) (λ p. suc (f p) ≤ above_all f (part ∷ parts))
    (λ p h. omega arith) parts (below_above f parts))

-- what is above all is at most the sum of what is above each
above_below_sum : (f g : ℕ → ℕ) → ((part : ℕ) → f part < g part) → (parts : List ℕ) →
    above_all f parts < suc (sum_of g parts)
above_below_sum f g below [] = omega arith
above_below_sum f g below (part ∷ parts) =
    let one = below part in
    let rest = above_below_sum f g below parts in
    omega arith

-- a type is less high than it has nodes
height_below_size : (depth : ℕ) (types : TypeRows) (type : ℕ) →
    height_to depth types type < size_to depth types type
height_below_size zero types type = omega arith
height_below_size (suc depth) types type =
    above_below_sum (height_to depth types) (size_to depth types) (λ part. height_below_size depth types part)
    (row_parts (row_at types type))

-- a type of at most 1000 nodes may be a part of another
pub small_part : (types : TypeRows) (type : ℕ) → type < length types → min 1001 (size types type) ≤ 1000 →
    MayBePart types type
small_part types type there small =
    let below = height_below_size (length types) types type in
    record { there = there; low = omega arith }

height_of_row : (types : TypeRows) (type : ℕ) (row : TypeRow) → IsOrderedTable types →
    row_at types type ≡ Some row → height types type ≡ above_all (height types) (parts_of row)
height_of_row types type row table e =
    height_by_parts types table.finite type (slice_get_within types type row e)
    ∙ ap (λ row. above_all (height types) (row_parts row)) e

-- the parts of a type that may be one may be parts too
pub parts_of_part : (types : TypeRows) (type : ℕ) (row : TypeRow) → IsOrderedTable types →
    row_at types type ≡ Some row → MayBePart types type → AreParts types (parts_of row)
parts_of_part types type row table e h = record {
  each = λ k d within.
      let there = parts_within types type row table.finite e k d within in
      let below = below_above (height types) (parts_of row) k d within in
      let high = height_of_row types type row table e in
      let l = h.low in
      record { there = there; low = omega arith };
}

-- a type without parts
pub leaf_part : (types : TypeRows) (type : ℕ) (row : TypeRow) → IsOrderedTable types → row_at types type ≡ Some row →
    parts_of row ≡ [] → MayBePart types type
leaf_part types type row table e none = record {
  there = slice_get_within types type row e;
  low = (let h : height types type ≡ 0 = height_of_row types type row table e ∙ ap (above_all (height types)) none in
      omega arith);
}

pub content_of_ref : (types : TypeRows) (type content : ℕ) → IsOrderedTable types →
    row_at types type ≡ Some (RefRow content) → MayBePart types type → MayBePart types content
content_of_ref types type content table e h =
    All-head (MayBePart types) content [] (parts_of_part types type (RefRow content) table e h).each

pub content_of_vect : (types : TypeRows) (type content : ℕ) → IsOrderedTable types →
    row_at types type ≡ Some (VectRow content) → MayBePart types type → MayBePart types content
content_of_vect types type content table e h =
    All-head (MayBePart types) content [] (parts_of_part types type (VectRow content) table e h).each

-- ---- written types

pub interned_stands : (row : TypeRow) (old new : TypeRows) (type : ℕ) → IsOrderedTable old → IsOrderedTable new →
    FitsTable old row → intern row old ≡ (type, new) → StandsOn old (parts_of row) new type
interned_stands row old new type table later fits e =
    let at : row_at new type ≡ Some row =
    ap (λ (d : ℕ × TypeRows). row_at d.1 d.0) (sym e) ∙ row_at-intern row old in
    let g = interned_grows row old new type table e in
    record {
      there = slice_get_within new type row at;
      height_is = height_of_row new type row later at ∙ same (height new) (height old) (length old) (parts_of row)
          (λ part within. (g.kept part within).1)
          (All-weaker (MayBePart old) (λ part. part < length old) (λ part h. h.there) (parts_of row) fits.parts);
    }
  where
    same : (f g : ℕ → ℕ) (most : ℕ) (parts : List ℕ) → ((part : ℕ) → part < most → f part ≡ g part) →
        All (λ part. part < most) parts → above_all f parts ≡ above_all g parts
    same f g most [] h all = refl
    same f g most (part ∷ parts) h all =
        let one = h part (All-head (λ part. part < most) part parts all) in
        let rest = same f g most parts h (All-tail (λ part. part < most) part parts all) in
        omega arith

pub stands_within : (old new : TypeRows) (most : ℕ) (parts : List ℕ) (type : ℕ) → AreWithin old most parts →
    StandsOn old parts new type → IsWithin new (suc most) type
stands_within old new most parts type h k = record {
  there = k.there;
  low = (let e = k.height_is in
      let w = above_within (height old) most parts (All-weaker (IsWithin old most)
      (λ part. height old part ≤ most) (λ part w. w.low) parts h.each) in omega arith);
}

pub stands_alone : (old new : TypeRows) (parts : List ℕ) (type : ℕ) → parts ≡ [] →
    StandsOn old parts new type → IsWithin new 0 type
stands_alone old new parts type none k = record {
  there = k.there;
  low = (let e : height new type ≡ 0 = k.height_is ∙ ap (above_all (height old)) none in omega arith);
}

pub within_later : (a b : TypeRows) (most type : ℕ) → Grows a b → IsWithin a most type → IsWithin b most type
within_later a b most type g h =
    let k = g.kept type h.there in
    record { there = k.0; low = (let e = k.1 in let l = h.low in omega arith) }

pub all_within_later : (a b : TypeRows) (most : ℕ) (parts : List ℕ) → Grows a b → AreWithin a most parts →
    AreWithin b most parts
all_within_later a b most parts g h = record {
  each = All-weaker (IsWithin a most) (IsWithin b most) (λ part k. within_later a b most part g k) parts h.each;
}

pub within_more : (types : TypeRows) (most more type : ℕ) → most ≤ more → IsWithin types most type →
    IsWithin types more type
within_more types most more type e h = record { there = h.there; low = (let l = h.low in omega arith) }

pub all_within_more : (types : TypeRows) (most more : ℕ) (parts : List ℕ) → most ≤ more →
    AreWithin types most parts → AreWithin types more parts
all_within_more types most more parts e h = record {
  each = All-weaker (IsWithin types most) (IsWithin types more) (λ part k. within_more types most more part e k)
      parts h.each;
}

pub none_within : (types : TypeRows) (most : ℕ) → AreWithin types most []
none_within types most = record { each = All-nil (IsWithin types most) }

pub all_within_push : (types : TypeRows) (most : ℕ) (parts : List ℕ) (part : ℕ) → AreWithin types most parts →
    IsWithin types most part → AreWithin types most (parts ++ part ∷ [])
all_within_push types most parts part h k = record {
  each = All-append (IsWithin types most) parts (part ∷ []) h.each
      (All-cons (IsWithin types most) part [] k (All-nil (IsWithin types most)));
}

pub within_part : (types : TypeRows) (most type : ℕ) → most < 65534 → IsWithin types most type → MayBePart types type
within_part types most type e h = record { there = h.there; low = (let l = h.low in omega arith) }

pub all_within_parts : (types : TypeRows) (most : ℕ) (parts : List ℕ) → most < 65534 → AreWithin types most parts →
    AreParts types parts
all_within_parts types most parts e h = record {
  each = All-weaker (IsWithin types most) (MayBePart types) (λ part k. within_part types most part e k) parts h.each;
}

-- a function is one higher than its parameters and its result
pub function_within : (old new : TypeRows) (one other : ℕ) (parameters : List ℕ) (answer type : ℕ) →
    AreWithin old one parameters → IsWithin old other answer → StandsOn old (parameters ++ answer ∷ []) new type →
    IsWithin new (suc (max one other)) type
function_within old new one other parameters answer type h k stands =
    stands_within old new (max one other) (parameters ++ answer ∷ []) type
    (all_within_push old (max one other) parameters answer
    (all_within_more old one (max one other) parameters (omega arith) h)
    (within_more old other (max one other) answer (omega arith) k)) stands

-- ---- bodies

pub body_first : (e : Expr) (rest : Exprs) → IsSourceBody (ExprThen e rest) → IsSource e
body_first e NoExprs h = h
body_first e (ExprThen second rest) h = h.0

pub body_rest : (e second : Expr) (rest : Exprs) → IsSourceBody (ExprThen e (ExprThen second rest)) →
    IsSourceBody (ExprThen second rest)
body_rest e second rest h = h.1

pub if_ok_more : {A E : Type 0} (P Q : A → Type 0) (result : Result A E) → IfOk result P → ((a : A) → P a → Q a) →
    IfOk result Q
if_ok_more P Q (Ok a) h k = k a h
if_ok_more P Q (Err e) h k = tt

pub base_fits : (types : TypeRows) (row : TypeRow) → parts_of row ≡ [] → HasWidth row → FitsTable types row
base_fits types row none width = record {
  parts = subst (λ parts. All (MayBePart types) parts) (sym none) (All-nil (MayBePart types));
  width = width;
}

pub ruleset room_steps = (
  grows_same,
  grows_on,
  part_later,
  parts_later,
  may_part_later,
  no_parts,
  parts_then,
  leaf_fits-int,
  leaf_fits-bool,
  leaf_fits-unit,
  leaf_fits-dyn,
  fun_fits,
  tuple_fits,
  ref_fits,
  vect_fits,
  content_of_ref,
  content_of_vect,
)

pub ruleset written_steps = (
  grows_same,
  grows_on,
  within_later,
  all_within_later,
  within_more,
  all_within_more,
  none_within,
  all_within_push,
  within_part,
  all_within_parts,
  base_fits,
  fun_fits,
  tuple_fits,
  ref_fits,
  vect_fits,
  stands_within,
  stands_alone,
)
