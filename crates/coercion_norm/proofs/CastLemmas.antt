-- The coercion of a cast goes by the rows of its types, whatever the depth.
use Rattle.std.proofs.Common.{◌≡◌, ℕ, zero, suc, ◌+◌, ◌<◌, ◌≤◌, max, Bool, true, false, cond, Option, Some, None, refl}
use Rattle.std.proofs.Common.{sym}
use Rattle.std.proofs.Common.{nat_eq, ap₂}
use Rattle.std.proofs.Common.{ap, ◌∙◌, subst, List, [], ◌∷◌, length, All, arith}
use Rattle.std.proofs.lemmas.Option.{get_or_from_slice_get}
use Rattle.grift_base.specs.Types.{TypeRow, TypeRows, IntRow, BoolRow, UnitRow, DynRow, FunRow, TupleRow, RefRow}
use Rattle.grift_base.specs.Types.{VectRow, row_at, is_dyn, same_head, parts_of, head_of}
use Rattle.type_graph.specs.Trees.{height}
use Rattle.type_graph.specs.TypeTables.{HasWidth, IsOrderedTable}
use Rattle.type_graph.proofs.Public.{slice_get_at, parts_within}
use Rattle.coercion_norm.specs.Coercions.{Kind, FunKind, TupKind, RefKind, VecKind, Id, Fail, Inject}
use Rattle.coercion_norm.specs.Coercions.{Project, kind_of, slots_of, slot, slots, rows_of}
use Rattle.coercion_norm.specs.Composition.{middle, coerce_part, coerce_parts, coerce_middle, coerce_solid, coerce_by}
use Rattle.coercion_norm.specs.Composition.{coerce_whole}
use Rattle.coercion_norm.specs.Composition.{coerce_below}
use Rattle.coercion_norm.specs.Heights.{TypeNoHigher, AreHeights, coercion_height}
use Rattle.coercion_norm.specs.declared.nodes.CoercionId.{CoercionId}
use Rattle.coercion_norm.specs.Nodes.{Node, KindHasWidth, coercion_places, tree_of, trees}
use Rattle.coercion_norm.specs.CoercionTables.{IsSound, IsCast, cast_of, part_cast}
use Rattle.coercion_norm.specs.Paths.{Edge, Stop}
use Rattle.coercion_norm.specs.StandsFor.{StandsFor}
use Rattle.grift_base.specs.declared.places.TypeId.{TypeId}
use Rattle.grift_base.specs.declared.places.LabelId.{LabelId}
use Rattle.coercion_norm.proofs.PathLemmas.{heads_exact, same_widths}
use Rattle.coercion_norm.proofs.HeightLemmas.{of_slots, slot_lower}
use Rattle.coercion_norm.proofs.NormalLemmas.{coerce_normal}
use Rattle.coercion_norm.proofs.StandingLemmas.{coerce_stands_for}
use Rattle.coercion_norm.proofs.EnoughDepth.{SameCastsBelow, same_by, coerce_enough}
use Rattle.coercion_norm.proofs.HeightNumbers.{coerce_no_higher}
use Rattle.coercion_norm.proofs.TableHeights.{heights_of_a_table}

-- ---- rows

pub row_is : (types : TypeRows) (type : ℕ) (row : TypeRow) → row_at types type ≡ Some row → rows_of types type ≡ row
row_is types type row e = get_or_from_slice_get types type row DynRow e

-- no middle has more than eight parts
pub narrow : (row : TypeRow) → HasWidth row → length (slots_of row) ≤ 8
narrow IntRow wide = omega arith
narrow BoolRow wide = omega arith
narrow UnitRow wide = omega arith
narrow DynRow wide = omega arith
narrow (FunRow parameters answer) wide = let e = one_more parameters answer in omega (arith, e, wide)
  where
    one_more : (ps : List ℕ) (a : ℕ) → length (slots_of (FunRow ps a)) ≡ suc (length ps)
    one_more [] a = refl
    one_more (p ∷ ps) a = ap suc (one_more ps a)
narrow (TupleRow parts) wide = wide.1
narrow (RefRow content) wide = omega arith
narrow (VectRow content) wide = omega arith

pub kind_width : (row : TypeRow) (kind : Kind) → HasWidth row → kind_of row ≡ Some kind
    → KindHasWidth kind (length (slots_of row))
kind_width IntRow kind wide e = absurd (cc e)
kind_width BoolRow kind wide e = absurd (cc e)
kind_width UnitRow kind wide e = absurd (cc e)
kind_width DynRow kind wide e = absurd (cc e)
kind_width (FunRow parameters answer) FunKind wide e =
    let l = one_more parameters answer in (omega (arith, l), omega (arith, l, wide))
  where
    one_more : (ps : List ℕ) (a : ℕ) → length (slots_of (FunRow ps a)) ≡ suc (length ps)
    one_more [] a = refl
    one_more (p ∷ ps) a = ap suc (one_more ps a)
kind_width (FunRow parameters answer) TupKind wide e = absurd (cc e)
kind_width (FunRow parameters answer) RefKind wide e = absurd (cc e)
kind_width (FunRow parameters answer) VecKind wide e = absurd (cc e)
kind_width (TupleRow parts) TupKind wide e = wide
kind_width (TupleRow parts) FunKind wide e = absurd (cc e)
kind_width (TupleRow parts) RefKind wide e = absurd (cc e)
kind_width (TupleRow parts) VecKind wide e = absurd (cc e)
kind_width (RefRow content) RefKind wide e = refl
kind_width (RefRow content) FunKind wide e = absurd (cc e)
kind_width (RefRow content) TupKind wide e = absurd (cc e)
kind_width (RefRow content) VecKind wide e = absurd (cc e)
kind_width (VectRow content) VecKind wide e = refl
kind_width (VectRow content) _ wide e = absurd (cc e)

no_slots : (row : TypeRow) → kind_of row ≡ None → length (slots_of row) ≡ 0
no_slots IntRow e = refl
no_slots BoolRow e = refl
no_slots UnitRow e = refl
no_slots DynRow e = refl
no_slots _ e = absurd (cc e)

module _ (types : TypeRows) (table : IsOrderedTable types) where
  abbrev heights : AreHeights (rows_of types) (height types)
  heights = heights_of_a_table types table.finite table.widths

  pub row_width : (type : ℕ) (row : TypeRow) → row_at types type ≡ Some row → HasWidth row
  row_width = table.widths

  pub widths_agree : (from to : ℕ) → same_head (rows_of types from) (rows_of types to) ≡ true
      → slots (rows_of types) from ≡ slots (rows_of types) to
  widths_agree from to e =
      same_widths (rows_of types from) (rows_of types to)
      (heads_exact (head_of (rows_of types from)) (head_of (rows_of types to)) e)

  -- a part of a type that is there is there
  pub slot_there : (type j : ℕ) → type < length types → j < slots (rows_of types) type
      → slot (rows_of types) j type < length types
  slot_there type j within below =
      let at = slice_get_at types type within in
      let e = row_is types type at.0 at.1 in
      of_slots (λ part. part < length types) (rows_of types type) j below
      (subst (λ row. All (λ part. part < length types) (parts_of row)) (sym e)
      (parts_within types type at.0 table.finite at.1))

  -- and lower
  pub slot_low : (type j : ℕ) → j < slots (rows_of types) type
      → height types (slot (rows_of types) j type) < height types type
  slot_low type j below = go (height types type) ((heights type (height types type)).1 (omega arith))
    where
      go : (n : ℕ) → TypeNoHigher (rows_of types) n type → height types (slot (rows_of types) j type) < n
      go zero low = let none = no_slots (rows_of types type) low in absurd (omega (arith, none, below))
      go (suc n) low =
          let part = (heights (slot (rows_of types) j type) n).0 (slot_lower (rows_of types) n type j below low) in
          omega (arith, part)

  -- ---- the coercion of a cast

  pub below_is_enough : (n : ℕ) → SameCastsBelow (rows_of types) n (coerce_below (rows_of types) n) (cast_of types)
  below_is_enough zero = tt
  below_is_enough (suc n) = λ s t p hs ht.
      let from_low : height types s ≤ n = (heights s n).0 hs in
      let to_low : height types t ≤ n = (heights t n).0 ht in
      let low : max (height types s) (height types t) ≤ n = omega arith in
      coerce_enough (rows_of types) (max (height types s) (height types t)) n low s t p
      ((heights s (max (height types s) (height types t))).1 (omega arith))
      ((heights t (max (height types s) (height types t))).1 (omega arith))

  pub cast_by_rows : (from to label : ℕ)
      → cast_of types from to label ≡ coerce_whole (rows_of types) (cast_of types) from to label
  cast_by_rows from to label =
      same_by (rows_of types) (coerce_below (rows_of types) (max (height types from) (height types to))) (cast_of types)
      (is_dyn (rows_of types from)) (is_dyn (rows_of types to))
      (max (height types from) (height types to)) from to label
      (below_is_enough (max (height types from) (height types to)))
      ((heights from (max (height types from) (height types to))).1 (omega arith))
      ((heights to (max (height types from) (height types to))).1 (omega arith))

  by_flags : (b1 b2 : Bool) (from to label : ℕ) → is_dyn (rows_of types from) ≡ b1 → is_dyn (rows_of types to) ≡ b2
      → cast_of types from to label ≡ coerce_by (rows_of types) (cast_of types) b1 b2 from to label
  by_flags b1 b2 from to label e1 e2 =
      cast_by_rows from to label
      ∙ ap (λ b. coerce_by (rows_of types) (cast_of types) b (is_dyn (rows_of types to)) from to label) e1
      ∙ ap (λ b. coerce_by (rows_of types) (cast_of types) b1 b from to label) e2

  pub cast_both_dyn : (from to label : ℕ) → is_dyn (rows_of types from) ≡ true → is_dyn (rows_of types to) ≡ true
      → cast_of types from to label ≡ Id
  cast_both_dyn = by_flags true true

  pub cast_from_dyn : (from to label : ℕ) → is_dyn (rows_of types from) ≡ true → is_dyn (rows_of types to) ≡ false
      → cast_of types from to label ≡ Project to label Id
  cast_from_dyn = by_flags true false

  pub cast_to_dyn : (from to label : ℕ) → is_dyn (rows_of types from) ≡ false → is_dyn (rows_of types to) ≡ true
      → cast_of types from to label ≡ Inject Id from
  cast_to_dyn = by_flags false true

  module _ (from to label : ℕ) (from_solid : is_dyn (rows_of types from) ≡ false)
      (to_solid : is_dyn (rows_of types to) ≡ false) where
    pub cast_solid : cast_of types from to label ≡ coerce_solid (rows_of types) (cast_of types) from to label
    cast_solid = by_flags false false from to label from_solid to_solid

    pub cast_same : nat_eq from to ≡ true → cast_of types from to label ≡ Id
    cast_same e =
        cast_solid ∙ ap (λ b. cond b Id (cond (same_head (rows_of types from) (rows_of types to))
        (coerce_middle (rows_of types) (cast_of types) (kind_of (rows_of types from)) from to label) (Fail label))) e

    pub cast_clash : nat_eq from to ≡ false → same_head (rows_of types from) (rows_of types to) ≡ false
        → cast_of types from to label ≡ Fail label
    cast_clash e1 e2 =
        cast_solid ∙ ap (λ b. cond b Id (cond (same_head (rows_of types from) (rows_of types to))
        (coerce_middle (rows_of types) (cast_of types) (kind_of (rows_of types from)) from to label) (Fail label))) e1
        ∙ ap (λ b. cond b (coerce_middle (rows_of types) (cast_of types) (kind_of (rows_of types from)) from to label)
        (Fail label)) e2

    pub cast_middle : (o : Option Kind) → nat_eq from to ≡ false
        → same_head (rows_of types from) (rows_of types to) ≡ true → kind_of (rows_of types from) ≡ o
        → cast_of types from to label ≡ coerce_middle (rows_of types) (cast_of types) o from to label
    cast_middle o e1 e2 e3 =
        cast_solid ∙ ap (λ b. cond b Id (cond (same_head (rows_of types from) (rows_of types to))
        (coerce_middle (rows_of types) (cast_of types) (kind_of (rows_of types from)) from to label) (Fail label))) e1
        ∙ ap (λ b. cond b (coerce_middle (rows_of types) (cast_of types) (kind_of (rows_of types from)) from to label)
        (Fail label)) e2
        ∙ ap (λ k. coerce_middle (rows_of types) (cast_of types) k from to label) e3

  -- the middle of the parts' coercions is the coercion of the cast
  pub cast_is_middle : (from to label : ℕ) (row other : TypeRow) (kind : Kind) (nodes : List Node)
      (items cs : List CoercionId) → is_dyn (rows_of types from) ≡ false → is_dyn (rows_of types to) ≡ false
      → row_at types from ≡ Some row → row_at types to ≡ Some other → nat_eq from to ≡ false
      → same_head row other ≡ true → kind_of row ≡ Some kind
      → trees (tree_of nodes) (coercion_places items)
      ≡ coerce_parts (rows_of types) (cast_of types) kind from to label (slots (rows_of types) from) 0
      → cs ≡ items → cast_of types from to label ≡ middle kind (trees (tree_of nodes) (coercion_places cs))
  cast_is_middle from to label row other kind nodes items cs f t at_f at_t apart heads is made e =
      let from_is : rows_of types from ≡ row = row_is types from row at_f in
      let to_is : rows_of types to ≡ other = row_is types to other at_t in
      cast_middle from to label f t (Some kind) apart (ap₂ same_head from_is to_is ∙ heads) (ap kind_of from_is ∙ is)
      ∙ ap (middle kind) (sym made)
      ∙ ap (λ (xs : List CoercionId). middle kind (trees (tree_of nodes) (coercion_places xs))) (sym e)

  pub cast_low : (from to label : ℕ)
      → coercion_height (height types) (cast_of types from to label) ≤ max (height types from) (height types to)
  cast_low from to label =
      coerce_no_higher (rows_of types) (height types) heights (max (height types from) (height types to)) from to label

  pub cast_sound : (from to label : ℕ) → from < length types → to < length types
      → IsSound types (cast_of types from to label)
  cast_sound from to label f t = record {
    normal = coerce_normal (rows_of types) (max (height types from) (height types to)) from to label;
    low =
        let a = table.low from f in
        let b = table.low to t in
        let c = cast_low from to label in
        omega (arith, a, b, c);
  }

  pub cast_stands : (from to label : ℕ) →
      StandsFor (rows_of types) (cast_of types from to label) from (Edge label to Stop)
  cast_stands from to label =
      coerce_stands_for (rows_of types) (max (height types from) (height types to)) from to label
      ((heights from (max (height types from) (height types to))).1 (omega arith))
      ((heights to (max (height types from) (height types to))).1 (omega arith))

  -- ---- the casts of parts

  module _ (from to j : ℕ) (from_below : j < slots (rows_of types) from) (to_below : j < slots (rows_of types) to)
      (here there : TypeId) (label : LabelId) (here_is : here.0 ≡ slot (rows_of types) j from)
      (there_is : there.0 ≡ slot (rows_of types) j to) where
    pub part_cast_there : (back : Bool) → from < length types → to < length types
        → IsCast types (part_cast back here there label)
    part_cast_there true f t = record {
      from_there = subst (λ n. n < length types) (sym there_is) (slot_there to j t to_below);
      to_there = subst (λ n. n < length types) (sym here_is) (slot_there from j f from_below);
    }
    part_cast_there false f t = record {
      from_there = subst (λ n. n < length types) (sym here_is) (slot_there from j f from_below);
      to_there = subst (λ n. n < length types) (sym there_is) (slot_there to j t to_below);
    }

    pub part_cast_falls : (back : Bool)
        → height types (part_cast back here there label).from.0 + height types (part_cast back here there label).to.0 +
        2
        ≤ height types from + height types to
    part_cast_falls back = go back
      where
        one : height types here.0 < height types from
        one = subst (λ n. height types n < height types from) (sym here_is) (slot_low from j from_below)

        two : height types there.0 < height types to
        two = subst (λ n. height types n < height types to) (sym there_is) (slot_low to j to_below)

        go : (b : Bool)
            → height types (part_cast b here there label).from.0 + height types (part_cast b here there label).to.0 + 2
            ≤ height types from + height types to
        go true = omega (arith, one, two)
        go false = omega (arith, one, two)

-- the coercion of a part's cast
pub part_cast_is : (types : TypeRows) (back : Bool) (here there : TypeId) (label : LabelId)
    → cast_of types (part_cast back here there label).from.0 (part_cast back here there label).to.0
    (part_cast back here there label).label.0
    ≡ coerce_part (rows_of types) (cast_of types) back here.0 there.0 label.0
part_cast_is types true here there label = refl
part_cast_is types false here there label = refl
