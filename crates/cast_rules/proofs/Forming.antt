-- Types that are formed have rows, and the table stays one.
use Rattle.std.proofs.Common.{◌≡◌, ℕ, zero, suc, ◌<◌, Bool, true, false, List, [], ◌∷◌, ◌++◌, length, Option, Some}
use Rattle.std.proofs.Common.{None}
use Rattle.std.proofs.Common.{refl, sym, ap, ◌∙◌, subst}
use Rattle.std.specs.Prelude.{◌&&◌, ◌||◌, if◌then◌else◌}
use Rattle.std.proofs.lemmas.Bool.{and_parts, and_from}
use Rattle.std.proofs.lemmas.List.Elements.{All-nil, All-cons, All-append, All-head, All-tail}
use Rattle.std.proofs.lemmas.Option.{slice_get_within}
use Rattle.grift_base.specs.Types.{TypeRow, TypeRows, FunRow, TupleRow, RefRow, VectRow, row_at, parts_of, is_dyn}
use Rattle.grift_base.specs.Types.{same_head}
use Rattle.surface_trees.specs.Trees.{TypeExpr, TypeNode, TypeExprs, TypeAt, BaseType, FunType, TupleType, RefType}
use Rattle.surface_trees.specs.Trees.{VectType, NoTypes, TypeThen}
use Rattle.type_graph.specs.Forming.{Forming, ◌>>=◌, formed, intern}
use Rattle.type_graph.specs.Trees.{related}
use Rattle.type_graph.specs.TypeTables.{HasMoreRows}
use Rattle.type_graph.proofs.Public.{same_rows, more_rows, later_within}
use Rattle.type_graph.proofs.Public.{parts_within as parts_below}
use Rattle.consistency.specs.Consistency.{consistent, consistent_rows}
use Rattle.consistency.specs.Blending.{with_parts, blend_each, blend_rows, blend_to}
use Rattle.consistency.proofs.Public.{consistent_by_rows, consistent_kept, parts_of-with_parts}
use Rattle.cast_rules.specs.WrittenTypes.{form_type, form_node, form_types}
use Rattle.cast_rules.specs.Programs.{HasTypeWidths, NodeHasWidths, HaveTypeWidths}
use Rattle.cast_rules.proofs.Tables.{AreRows, more_parts, intern_keeps, IsFormedTable}

-- from this table this type was formed, and that table
abbrev pub FormedType : TypeRows → ℕ → TypeRows → Type 0
FormedType old type new = IsFormedTable new × HasMoreRows old new × (type < length new)

abbrev pub FormedTypes : TypeRows → List ℕ → TypeRows → Type 0
FormedTypes old types new = IsFormedTable new × HasMoreRows old new × AreRows new types

pub no_rows : (types : TypeRows) → AreRows types []
no_rows types = All-nil (λ part. part < length types)

pub rows_then : (types : TypeRows) (part : ℕ) (parts : List ℕ) → part < length types → AreRows types parts →
    AreRows types (part ∷ parts)
rows_then types part parts below rest = All-cons (λ part. part < length types) part parts below rest

pub rows_joined : (types : TypeRows) (parts others : List ℕ) → AreRows types parts → AreRows types others →
    AreRows types (parts ++ others)
rows_joined types parts others one two = All-append (λ part. part < length types) parts others one two

pub row_within : (types : TypeRows) (type : ℕ) (row : TypeRow) → row_at types type ≡ Some row → type < length types
row_within types type row e = slice_get_within types type row e

-- the parts of a row of a table have rows
pub parts_within : (types : TypeRows) (type : ℕ) (row : TypeRow) → IsFormedTable types →
    row_at types type ≡ Some row → AreRows types (parts_of row)
parts_within types type row table e = parts_below types type row table.finite e

-- a row over types that were formed before
intern_after : (old middle : TypeRows) (row : TypeRow) → IsFormedTable middle → HasMoreRows old middle →
    AreRows middle (parts_of row) → FormedType old (intern row middle).0 (intern row middle).1
intern_after old middle row table more parts =
    let h = intern_keeps middle row table parts in (
      h.0,
      more_rows old middle (intern row middle).1 more h.1,
      row_within (intern row middle).1 (intern row middle).0
          row h.2,
    )

pub one_row : (types : TypeRows) (content : ℕ) → content < length types → AreRows types (content ∷ [])
one_row types content below = rows_then types content [] below (no_rows types)

mutual
  pub type_formed : (expression : TypeExpr) (types : TypeRows) → HasTypeWidths expression → IsFormedTable types →
      FormedType types (form_type expression types).0 (form_type expression types).1
  type_formed (TypeAt place node) types widths table = node_formed node types widths table

  node_formed : (node : TypeNode) (types : TypeRows) → NodeHasWidths node → IsFormedTable types →
      FormedType types (form_node node types).0 (form_node node types).1
  node_formed (BaseType row) types widths table =
      intern_after types types row table (same_rows types)
      (subst (λ parts. AreRows types parts) (sym widths.0) (no_rows types))
  node_formed (FunType parameters answer) types widths table =
      let ps = types_formed parameters types widths.0 table in
      let one = (form_types parameters types) in
      let a = type_formed answer one.1 widths.1 ps.0 in
      let two = form_type answer one.1 in
      intern_after types two.1 (FunRow one.0 two.0) a.0 (more_rows types one.1 two.1 ps.1 a.1)
      (rows_joined two.1 one.0 (two.0 ∷ []) (more_parts one.1 two.1 one.0 a.1 ps.2) (one_row two.1 two.0 a.2))
  node_formed (TupleType parts) types widths table =
      let ps = types_formed parts types widths.0 table in
      let one = form_types parts types in
      intern_after types one.1 (TupleRow one.0) ps.0 ps.1 ps.2
  node_formed (RefType content) types widths table =
      let c = type_formed content types widths table in
      let one = form_type content types in
      intern_after types one.1 (RefRow one.0) c.0 c.1 (one_row one.1 one.0 c.2)
  node_formed (VectType content) types widths table =
      let c = type_formed content types widths table in
      let one = form_type content types in
      intern_after types one.1 (VectRow one.0) c.0 c.1 (one_row one.1 one.0 c.2)

  types_formed : (expressions : TypeExprs) (types : TypeRows) → HaveTypeWidths expressions → IsFormedTable types →
      FormedTypes types (form_types expressions types).0 (form_types expressions types).1
  types_formed NoTypes types widths table = (table, same_rows types, no_rows types)
  types_formed (TypeThen type rest) types widths table =
      let t = type_formed type types widths.0 table in
      let one = form_type type types in
      let r = types_formed rest one.1 widths.1 t.0 in
      let two = form_types rest one.1 in (
        r.0,
        more_rows types one.1 two.1 t.1 r.1,
        rows_then two.1 one.0 two.0 (later_within one.1 two.1 one.0 r.1 t.2) r.2,
      )

-- ---- blends

-- the blend of two consistent types is formed
abbrev FormsTypes : (ℕ → ℕ → Forming ℕ) → Type 0
FormsTypes blended =
    (a b : ℕ) (types : TypeRows) → IsFormedTable types → a < length types → b < length types →
    consistent types a b ≡ true → FormedType types (blended a b types).0 (blended a b types).1

pub head_row : (types : TypeRows) (part : ℕ) (parts : List ℕ) → AreRows types (part ∷ parts) → part < length types
head_row types part parts all = All-head (λ part. part < length types) part parts all

pub tail_rows : (types : TypeRows) (part : ℕ) (parts : List ℕ) → AreRows types (part ∷ parts) → AreRows types parts
tail_rows types part parts all = All-tail (λ part. part < length types) part parts all

pub split_last : (types : TypeRows) (xs : List ℕ) (a : ℕ) → AreRows types (xs ++ a ∷ []) →
    AreRows types xs × (a < length types)
split_last types [] a all = (no_rows types, head_row types a [] all)
split_last types (x ∷ xs) a all =
    let rest = split_last types xs a (tail_rows types x (xs ++ a ∷ []) all) in
    (rows_then types x xs (head_row types x (xs ++ a ∷ []) all) rest.0, rest.1)

-- types that are consistent one by one are so in a larger table
related_later : (types new : TypeRows) (xs ys : List ℕ) → IsFormedTable types → HasMoreRows types new →
    AreRows types xs → AreRows types ys → related (consistent types) xs ys ≡ true →
    related (consistent new) xs ys ≡ true
related_later types new [] [] table more ones others e = refl
related_later types new [] (y ∷ ys) table more ones others e = cc
related_later types new (x ∷ xs) [] table more ones others e = cc
related_later types new (x ∷ xs) (y ∷ ys) table more ones others e =
    let both = and_parts (consistent types x y) (related (consistent types) xs ys) e in
    and_from (consistent new x y) (related (consistent new) xs ys)
    (consistent_kept types new table.finite more x y (head_row types x xs ones)
    (head_row types y ys others) ∙ both.0)
    (related_later types new xs ys table more (tail_rows types x xs ones) (tail_rows types y ys others) both.1)

module _ (blended : ℕ → ℕ → Forming ℕ) (forms : FormsTypes blended) where
  each_formed : (xs ys : List ℕ) (types : TypeRows) → IsFormedTable types → AreRows types xs → AreRows types ys →
      related (consistent types) xs ys ≡ true →
      FormedTypes types (blend_each blended xs ys types).0 (blend_each blended xs ys types).1
      × (length (blend_each blended xs ys types).0 ≡ length xs)
  each_formed [] ys types table ones others e = ((table, same_rows types, no_rows types), refl)
  each_formed (x ∷ xs) [] types table ones others e = absurd (no_parts e)
    where
      no_parts : false ≡ true → ⊥
      no_parts e = cc
  each_formed (x ∷ xs) (y ∷ ys) types table ones others e =
      let both = and_parts (consistent types x y) (related (consistent types) xs ys) e in
      let t = forms x y types table (head_row types x xs ones) (head_row types y ys others) both.0 in
      let one = blended x y types in
      let later = related_later types one.1 xs ys table t.1 (tail_rows types x xs ones)
      (tail_rows types y ys others) both.1 in
      let r = each_formed xs ys one.1 t.0 (more_parts types one.1 xs t.1 (tail_rows types x xs ones))
      (more_parts types one.1 ys t.1 (tail_rows types y ys others)) later in
      let two = blend_each blended xs ys one.1 in (
        (
          r.0.0,
          more_rows types one.1 two.1 t.1 r.0.1,
          rows_then two.1 one.0 two.0 (later_within one.1 two.1 one.0 r.0.1 t.2) r.0.2,
        ),
        ap suc r.1,
      )

  -- a blend by whether the types are Dyn
  abbrev chosen : ℕ → ℕ → TypeRow → TypeRow → Bool → Bool → Forming ℕ
  chosen a b row other p q =
      if p then formed a
      else if q then formed b
      else (◌>>=◌ (blend_each blended (parts_of row) (parts_of other)) (λ parts. intern (with_parts row parts)))

  chosen_formed : (a b : ℕ) (types : TypeRows) (row other : TypeRow) → IsFormedTable types → a < length types →
      b < length types → row_at types a ≡ Some row → row_at types b ≡ Some other → (p q : Bool) →
      (p || q || (same_head row other && related (consistent types) (parts_of row) (parts_of other))) ≡ true →
      FormedType types (chosen a b row other p q types).0 (chosen a b row other p q types).1
  chosen_formed a b types row other table one two at_a at_b true q e = (table, same_rows types, one)
  chosen_formed a b types row other table one two at_a at_b false true e = (table, same_rows types, two)
  chosen_formed a b types row other table one two at_a at_b false false e =
      let parts : Bool = related (consistent types) (parts_of row) (parts_of other) in
      let both = and_parts (same_head row other) parts e in
      let each = each_formed (parts_of row) (parts_of other) types table (parts_within types a row table at_a)
      (parts_within types b other table at_b) both.1 in
      let done = blend_each blended (parts_of row) (parts_of other) types in
      intern_after types done.1 (with_parts row done.0) each.0.0 each.0.1
      (subst (λ parts. AreRows done.1 parts) (sym (parts_of-with_parts row done.0 each.1)) each.0.2)

  rows_formed : (a b : ℕ) (types : TypeRows) (row other : Option TypeRow) → IsFormedTable types → a < length types →
      b < length types → row_at types a ≡ row → row_at types b ≡ other →
      consistent_rows (consistent types) row other ≡ true →
      FormedType types (blend_rows blended a b row other types).0 (blend_rows blended a b row other types).1
  rows_formed a b types (Some row) (Some other) table one two at_a at_b e =
      chosen_formed a b types row other table one two at_a at_b (is_dyn row) (is_dyn other) e
  rows_formed a b types (Some row) None table one two at_a at_b e = (table, same_rows types, one)
  rows_formed a b types None other table one two at_a at_b e = (table, same_rows types, one)

pub blend_formed : (depth a b : ℕ) (types : TypeRows) → IsFormedTable types → a < length types → b < length types →
    consistent types a b ≡ true → FormedType types (blend_to depth a b types).0 (blend_to depth a b types).1
blend_formed zero a b types table one two e = (table, same_rows types, one)
blend_formed (suc depth) a b types table one two e =
    rows_formed (blend_to depth) (λ s t others kept three four f. blend_formed depth s t others kept three four f) a b
    types (row_at types a) (row_at types b) table one two refl refl
    (sym (consistent_by_rows types table.finite a b one) ∙ e)
