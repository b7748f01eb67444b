-- A table that fits its types goes on fitting them where a node is added.
use Rattle.std.proofs.Common.{◌≡◌, ◌⊎◌, inl, inr, ℕ, zero, suc, ◌<◌, ◌+◌, List, [], ◌∷◌, ◌++◌, length, Some, refl, sym}
use Rattle.std.proofs.Common.{ap, ◌∙◌, subst, All, slice_get, arith, length-append}
use Rattle.std.specs.Prelude.{Contains}
use Rattle.std.specs.Map.{values_of}
use Rattle.std.proofs.lemmas.Option.{slice_get_within}
use Rattle.indexmap.specs.IndexMap.{insert_entry}
use Rattle.grift_base.specs.Types.{TypeRows}
use Rattle.grift_base.specs.declared.places.TheConstants.{MOST_ENTRIES}
use Rattle.type_graph.specs.Trees.{height}
use Rattle.type_graph.proofs.Public.{get_before_or_last, get_last, seen_keys, length-seen_keys, length-values_of}
use Rattle.type_graph.proofs.Public.{seen_keys-push, values_of-push, insert_entry-absent}
use Rattle.coercion_norm.specs.declared.nodes.CoercionNode.{CoercionNode}
use Rattle.coercion_norm.specs.contracts.nodes.CoercionNodePartialEq.TheImpl.{ghosts}
use Rattle.coercion_norm.specs.Heights.{coercion_height}
use Rattle.coercion_norm.specs.Nodes.{Node, IdNode, AreOrdered, Grows, grown, node_of, node_types, tree_of}
use Rattle.coercion_norm.specs.CoercionTables.{NodeTable, IsKept, IsSound, FitsTypes, MayBeNode}
use Rattle.coercion_norm.proofs.NodeLemmas.{AreOrdered-push, IsTree-node, tree_kept}
use Rattle.coercion_norm.proofs.NodeViews.{same_node, node_of-injective}

abbrev table_from : List Node → List ℕ → NodeTable
table_from nodes heights = record { nodes = nodes; heights = heights }

abbrev pub table_of : List (CoercionNode × ℕ) → NodeTable
table_of es = record { nodes = seen_keys node_of es; heights = values_of es }

-- a table with one node more
abbrev pub with_node : NodeTable → Node → ℕ → NodeTable
with_node table node high = record { nodes = table.nodes ++ node ∷ []; heights = table.heights ++ high ∷ [] }

-- the table of Id alone fits any types
pub id_alone_fits : (types : TypeRows) → FitsTypes types (record { nodes = IdNode ∷ []; heights = 0 ∷ [] })
unfolding tree_of
id_alone_fits types = record {
  types_there = λ place node e. types_by place node e;
  sound = λ place within. sound_by place within;
  heights_are = λ place high within e. high_by place high e;
}
  where
    types_by : (place : ℕ) (node : Node) → slice_get (IdNode ∷ []) place ≡ Some node
        → All (λ type. type < length types) (node_types node)
    types_by zero node e =
        subst (λ o. All (λ type. type < length types) (node_types o)) (first e) (λ k d l. absurd (omega arith))
      where
        first : Some IdNode ≡ Some node → IdNode ≡ node
        first e = cc
    types_by (suc place) node e = absurd (cc e)

    sound_by : (place : ℕ) → place < 1 → IsSound types (tree_of (IdNode ∷ []) place)
    sound_by zero within = record { normal = tt; low = omega arith }
    sound_by (suc place) within = absurd (omega arith)

    high_by : (place high : ℕ) → slice_get (0 ∷ []) place ≡ Some high
        → high ≡ coercion_height (height types) (tree_of (IdNode ∷ []) place)
    high_by zero high e = cc
    high_by (suc place) high e = absurd (cc e)

module _ (types : TypeRows) (table : NodeTable) (node : Node) (high : ℕ) (ordered : AreOrdered table.nodes)
    (lengths : length table.heights ≡ length table.nodes) (may : MayBeNode types table.nodes node)
    (high_is : high ≡ coercion_height (height types) (grown (tree_of table.nodes) (Some node))) where
  abbrev new : List Node
  new = table.nodes ++ node ∷ []

  grows : Grows table.nodes new
  grows = (node ∷ [], refl)

  later : AreOrdered new
  later = AreOrdered-push table.nodes node ordered may.parts may.width

  old_tree : (place : ℕ) → place < length table.nodes → tree_of new place ≡ tree_of table.nodes place
  old_tree = tree_kept table.nodes new ordered.before grows

  new_tree : tree_of new (length table.nodes) ≡ grown (tree_of table.nodes) (Some node)
  new_tree = (IsTree-node table.nodes new (length table.nodes) node ordered.before later.before grows may.parts
      (get_last table.nodes node)).is

  pub FitsTypes-push : FitsTypes types table → FitsTypes types (with_node table node high)
  FitsTypes-push fits = record {
    types_there = λ place other e. types_by place other (get_before_or_last table.nodes node other place e);
    sound = λ place within.
        let len : length new ≡ length table.nodes + 1 = length-append table.nodes (node ∷ []) in
        let cases : (place < length table.nodes) ⊎ (place ≡ length table.nodes) = grind arith in
        elim cases [
          | inl old ↦ subst (IsSound types) (sym (old_tree place old)) (fits.sound place old)
          | inr now ↦ subst (IsSound types) (sym (ap (tree_of new) now ∙ new_tree)) may.sound
        ];
    heights_are = λ place other within e. high_by place other (get_before_or_last table.heights high other place e);
  }
    where
      types_by : (place : ℕ) (other : Node)
          → (slice_get table.nodes place ≡ Some other) ⊎ ((place ≡ length table.nodes) × (node ≡ other))
          → All (λ type. type < length types) (node_types other)
      types_by place other (inl f) = fits.types_there place other f
      types_by place other (inr f) =
          subst (λ x. All (λ type. type < length types) (node_types x)) f.1 may.types_there

      high_by : (place other : ℕ)
          → (slice_get table.heights place ≡ Some other) ⊎ ((place ≡ length table.heights) × (high ≡ other))
          → other ≡ coercion_height (height types) (tree_of new place)
      high_by place other (inl f) =
          let within : place < length table.nodes =
          (let w = slice_get_within table.heights place other f in omega (arith, w, lengths)) in
          fits.heights_are place other within f ∙ sym (ap (coercion_height (height types)) (old_tree place within))
      high_by place other (inr f) =
          sym f.1 ∙ high_is ∙ sym (ap (coercion_height (height types)) (ap (tree_of new) (f.0 ∙ lengths) ∙ new_tree))

pub IsKept-push : (table : NodeTable) (node : Node) (high : ℕ) (types : TypeRows) → IsKept table
    → MayBeNode types table.nodes node → length table.nodes < MOST_ENTRIES → IsKept (with_node table node high)
IsKept-push table node high types kept may room = record {
  ordered = AreOrdered-push table.nodes node kept.ordered may.parts may.width;
  most = let len : length (table.nodes ++ node ∷ []) ≡ length table.nodes + 1 = length-append table.nodes (node ∷ []) in
      omega arith;
}

-- ---- an entry that is put in

pub same_lengths : (es : List (CoercionNode × ℕ)) (table : NodeTable) → table_of es ≡ table
    → length table.heights ≡ length table.nodes
same_lengths es table seen =
    subst (λ t. length t.heights ≡ length t.nodes) seen (length-values_of es ∙ sym (length-seen_keys node_of es))

-- what the entries are then
pub table_then : (es entries : List (CoercionNode × ℕ)) (node : CoercionNode) (high : ℕ) (table : NodeTable)
    → table_of es ≡ table → (¬ Contains table.nodes (node_of node)) → entries ≡ insert_entry ghosts.eq es node high
    → table_of entries ≡ with_node table (node_of node) high
table_then es entries node high table seen absent inserted =
    ap table_of (inserted ∙ insert_entry-absent same_node node_of node_of-injective es node high
    (subst (λ (t : NodeTable). ¬ Contains t.nodes (node_of node)) (sym seen) absent))
    ∙ both (seen_keys-push node_of es node high) (values_of-push es node high)
    ∙ ap (λ t. with_node t (node_of node) high) seen
  where
    both : {xs ys : List Node} {hs ks : List ℕ} → xs ≡ ys → hs ≡ ks
        → table_from xs hs ≡ table_from ys ks
    both e f = λ i. table_from (e i) (f i)
