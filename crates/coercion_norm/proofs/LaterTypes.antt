-- A table of coercions goes on fitting its types where rows are added to these.
use Rattle.std.proofs.Common.{◌≡◌, ℕ, zero, suc, ◌<◌, ◌≤◌, max, false, Some, refl, sym, ap, ap₂, ◌∙◌, subst}
use Rattle.std.proofs.Common.{List, [], ◌∷◌, length, slice_get, unwrap_or, All, arith}
use Rattle.std.proofs.lemmas.List.Elements.{All-head, All-tail, All-weaker}
use Rattle.std.proofs.lemmas.Option.{unwrap_or-slice_get}
use Rattle.grift_base.specs.Types.{TypeRows, DynRow, is_dyn}
use Rattle.type_graph.specs.Trees.{AreFinite, height}
use Rattle.type_graph.specs.TypeTables.{HasMoreRows, IsOrderedTable}
use Rattle.type_graph.specs.declared.tables.TheConstants.{MOST_HEIGHT}
use Rattle.type_graph.proofs.Public.{slice_get_at, more_length, row_same, height_grown}
use Rattle.coercion_norm.specs.Coercions.{Coercion, Coercions, Id, Fail, Middle, Inject, Project, NoCoercions}
use Rattle.coercion_norm.specs.Coercions.{CoercionThen, rows_of}
use Rattle.coercion_norm.specs.Heights.{coercion_height, highest}
use Rattle.coercion_norm.specs.Normal.{IsNormal, AreNormal}
use Rattle.coercion_norm.specs.Nodes.{Node, IdNode, FailNode, MiddleNode, InjectNode, ProjectNode, node_parts}
use Rattle.coercion_norm.specs.Nodes.{node_types}
use Rattle.coercion_norm.specs.Nodes.{PartsBefore, AreOrdered, trees, grown, tree_of}
use Rattle.coercion_norm.specs.CoercionTables.{NodeTable, FitsTypes}
use Rattle.coercion_norm.proofs.NodeLemmas.{tree_is}

-- ---- the types that a coercion names

abbrev mutual
  NamesBelow : ℕ → Coercion → Type 0
  NamesBelow n Id = Unit {0}
  NamesBelow n (Fail label) = Unit {0}
  NamesBelow n (Middle kind parts) = AllNameBelow n parts
  NamesBelow n (Inject g kept) = NamesBelow n g × (kept < n)
  NamesBelow n (Project wanted label i) = (wanted < n) × NamesBelow n i

  AllNameBelow : ℕ → Coercions → Type 0
  AllNameBelow n NoCoercions = Unit {0}
  AllNameBelow n (CoercionThen c rest) = NamesBelow n c × AllNameBelow n rest

module _ (n : ℕ) (nodes : List Node) (before : PartsBefore nodes)
    (there : (place : ℕ) (node : Node) → slice_get nodes place ≡ Some node → All (λ type. type < n) (node_types node))
  where
    names_of_parts : (parts : List ℕ) → All (λ part. NamesBelow n (tree_of nodes part)) parts
        → AllNameBelow n (trees (tree_of nodes) parts)
    names_of_parts [] all = tt
    names_of_parts (part ∷ parts) all = (
      All-head (λ part. NamesBelow n (tree_of nodes part)) part parts all,
      names_of_parts parts (All-tail (λ part. NamesBelow n (tree_of nodes part)) part parts all),
    )

    names_of_node : (node : Node) → All (λ type. type < n) (node_types node)
        → All (λ part. NamesBelow n (tree_of nodes part)) (node_parts node) →
        NamesBelow n (grown (tree_of nodes) (Some node))
    names_of_node IdNode types parts = tt
    names_of_node (FailNode label) types parts = tt
    names_of_node (MiddleNode kind places) types parts = names_of_parts places parts
    names_of_node (InjectNode g kept) types parts = (
      All-head (λ part. NamesBelow n (tree_of nodes part)) g [] parts,
      All-head (λ type. type < n) kept [] types,
    )
    names_of_node (ProjectNode wanted label i) types parts = (
      All-head (λ type. type < n) wanted [] types,
      All-head (λ part. NamesBelow n (tree_of nodes part)) i [] parts,
    )

    names_to : (bound place : ℕ) → place < bound → place < length nodes → NamesBelow n (tree_of nodes place)
    names_to zero place below within = absurd (omega arith)
    names_to (suc bound) place below within =
        let at = slice_get_at nodes place within in
        subst (NamesBelow n) (sym (tree_is nodes place at.0 before at.1))
        (names_of_node at.0 (there place at.0 at.1)
        (All-weaker (λ part. part < place) (λ part. NamesBelow n (tree_of nodes part))
        (λ part lower. names_to bound part (omega arith) (omega arith)) (node_parts at.0) (before place at.0 at.1)))

module _ (types new : TypeRows) (finite : AreFinite types) (more : HasMoreRows types new) where
  row_kept : (type : ℕ) → type < length types → rows_of new type ≡ rows_of types type
  row_kept type within =
      sym (unwrap_or-slice_get new type DynRow) ∙ ap (λ row. unwrap_or row DynRow) (row_same types new type more within)
      ∙ unwrap_or-slice_get types type DynRow

  mutual
    normal_kept : (c : Coercion) → NamesBelow (length types) c → IsNormal (rows_of types) c → IsNormal (rows_of new) c
    normal_kept Id names h = tt
    normal_kept (Fail label) names h = tt
    normal_kept (Middle kind parts) names h = (h.0, all_normal_kept parts names h.1)
    normal_kept (Inject g kept) names h =
        (h.0, normal_kept g names.0 h.1, subst (λ row. is_dyn row ≡ false) (sym (row_kept kept names.1)) h.2)
    normal_kept (Project wanted label i) names h =
        (subst (λ row. is_dyn row ≡ false) (sym (row_kept wanted names.0)) h.0, h.1, normal_kept i names.1 h.2)

    all_normal_kept : (cs : Coercions) → AllNameBelow (length types) cs → AreNormal (rows_of types) cs
        → AreNormal (rows_of new) cs
    all_normal_kept NoCoercions names h = tt
    all_normal_kept (CoercionThen c cs) names h = (normal_kept c names.0 h.0, all_normal_kept cs names.1 h.1)

  mutual
    height_kept : (c : Coercion) → NamesBelow (length types) c
        → coercion_height (height new) c ≡ coercion_height (height types) c
    height_kept Id names = refl
    height_kept (Fail label) names = refl
    height_kept (Middle kind parts) names = ap suc (highest_kept parts names)
    height_kept (Inject g kept) names =
        ap₂ max (height_kept g names.0) (height_grown types new finite more kept names.1)
    height_kept (Project wanted label i) names =
        ap₂ max (height_grown types new finite more wanted names.0) (height_kept i names.1)

    highest_kept : (cs : Coercions) → AllNameBelow (length types) cs
        → highest (height new) cs ≡ highest (height types) cs
    highest_kept NoCoercions names = refl
    highest_kept (CoercionThen c cs) names = ap₂ max (height_kept c names.0) (highest_kept cs names.1)

-- the table goes on fitting
pub FitsTypes-later : (types new : TypeRows) (table : NodeTable) → IsOrderedTable types → HasMoreRows types new
    → AreOrdered table.nodes → FitsTypes types table → FitsTypes new table
FitsTypes-later types new table ordered more nodes fits = record {
  types_there = λ place node e.
      All-weaker (λ type. type < length types) (λ type. type < length new)
      (λ type below. let longer = more_length types new more in omega (arith, longer, below)) (node_types node)
      (fits.types_there place node e);
  sound = λ place within. record {
    normal = normal_kept types new ordered.finite more (tree_of table.nodes place) (names place within)
        (fits.sound place within).normal;
    low = subst (λ h. h ≤ MOST_HEIGHT)
        (sym (height_kept types new ordered.finite more (tree_of table.nodes place) (names place within)))
        (fits.sound place within).low;
  };
  heights_are = λ place high within e.
      fits.heights_are place high within e
      ∙ sym (height_kept types new ordered.finite more (tree_of table.nodes place) (names place within));
}
  where
    names : (place : ℕ) → place < length table.nodes → NamesBelow (length types) (tree_of table.nodes place)
    names place within =
        names_to (length types) table.nodes nodes.before fits.types_there (suc place) place (omega arith) within
