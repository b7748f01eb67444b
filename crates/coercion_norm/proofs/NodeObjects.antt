-- The words that are placed for coercions are those of their objects, and the words that are told hold the coercions.
use Rattle.std.proofs.Common.{◌≡◌, ◌⊎◌, inl, inr, ℕ, suc, ◌+◌, ◌*◌, ◌<◌, ◌≤◌, cond, refl, sym, ap}
use Rattle.std.proofs.Common.{ap₂, ◌∙◌, subst, arith, List, [], ◌∷◌, ◌++◌, length, map, Option, Some, None, All}
use Rattle.std.proofs.Common.{append-nil, append_assoc, length-append}
use Rattle.std.specs.Prelude.{slice_index, slice_get}
use Rattle.std.proofs.lemmas.List.{length-map}
use Rattle.std.proofs.lemmas.List.Elements.{All-head, All-tail}
use Rattle.grift_base.specs.Types.{TypeRows}
use Rattle.type_graph.specs.Trees.{height}
use Rattle.coercion_norm.specs.Coercions.{is_id}
use Rattle.coercion_norm.specs.CoercionTables.{FitsTypes, NodeTable}
use Rattle.coercion_norm.specs.Heights.{coercion_height}
use Rattle.coercion_norm.specs.Nodes.{Node, IdNode, FailNode, MiddleNode, InjectNode, ProjectNode, AreOrdered}
use Rattle.coercion_norm.specs.Nodes.{KindHasWidth, NodeHasWidth, grown, node_parts, node_types, tree_of, trees}
use Rattle.coercion_norm.specs.Objects.{Object, Fixed, bytes_of_all, object_at, words_of_all}
use Rattle.coercion_norm.specs.ObjectsOfRows.{header, kind_number, objects_of_node, objects_of_place}
use Rattle.coercion_norm.specs.ObjectsOfRows.{coercion_objects, type_objects}
use Rattle.coercion_norm.specs.Held.{Layout, AreHeld, Held, There, height_in}
use Rattle.coercion_norm.specs.Placed.{SayCoercions, SayTypes}
use Rattle.coercion_norm.specs.StaticObjects.{node_object}
use Rattle.coercion_norm.specs.Statics.{layout_over, told_objects}
use Rattle.coercion_norm.proofs.NodeLemmas.{tree_is}
use Rattle.coercion_norm.proofs.NodePlacing.{few_node}
use Rattle.coercion_norm.proofs.ObjectLists.{bytes_of_all_words, last_stands, map_same, up_to_same, words_append}
use Rattle.coercion_norm.proofs.Objects.{told_last, told_old}
use Rattle.coercion_norm.proofs.TypePlacing.{below_or_last}

-- behind the types stands no coercion yet
pub no_coercions_said : (types : TypeRows) (nodes : List Node) (start : ℕ) (words type_at coercion_at : List ℕ)
    → SayTypes types start words type_at → coercion_at ≡ []
    → SayCoercions types nodes start words type_at coercion_at 0
no_coercions_said types nodes start words type_at coercion_at said e = record {
  as_many = ap (λ xs. length xs) e;
  says = said.says
      ∙ sym (ap words_of_all (append-nil (type_objects types (λ type. slice_index type_at type) (length types))));
  held = λ more objects region tallest c l. absurd (omega arith);
}

-- ---- one node

-- its words are those of its object
node_words : (type_at coercion_at : List ℕ) (high : ℕ) (node : Node)
    → node_object type_at coercion_at high node
    ≡ words_of_all (objects_of_node (λ type. slice_index type_at type) (λ c. slice_index coercion_at c) high (Some
    node))
node_words type_at coercion_at high IdNode = refl
node_words type_at coercion_at high (FailNode label) = refl
node_words type_at coercion_at high (MiddleNode kind parts) =
    sym (append-nil (node_object type_at coercion_at high (MiddleNode kind parts)))
node_words type_at coercion_at high (InjectNode g kept) = refl
node_words type_at coercion_at high (ProjectNode wanted label i) = refl

-- its object tells the words of its parts alone
same_objects : (type_at give other : ℕ → ℕ) (high : ℕ) (node : Node)
    → All (λ part. give part ≡ other part) (node_parts node)
    → objects_of_node type_at give high (Some node) ≡ objects_of_node type_at other high (Some node)
same_objects type_at give other high IdNode same = refl
same_objects type_at give other high (FailNode label) same = refl
same_objects type_at give other high (MiddleNode kind parts) same =
    ap (λ ws. Fixed (header (kind_number kind) high (length parts)) ws ∷ []) (map_same give other parts same)
same_objects type_at give other high (InjectNode g kept) same =
    ap (λ w. Fixed (header 13 high 2) (w ∷ type_at kept ∷ []) ∷ []) (same 0 0 (omega arith))
same_objects type_at give other high (ProjectNode wanted label i) same =
    ap (λ w. Fixed (header 14 high 3) (type_at wanted ∷ label ∷ w ∷ []) ∷ []) (same 0 0 (omega arith))

module _ (l : Layout) (objects : List Object) (nodes : List Node) (give : ℕ → ℕ) where
  parts_held : (parts : List ℕ) → All (λ part. Held l objects (tree_of nodes part) (give part)) parts
      → AreHeld l objects (trees (tree_of nodes) parts) (map give parts)
  parts_held [] all = tt
  parts_held (part ∷ parts) all = (
    All-head (λ p. Held l objects (tree_of nodes p) (give p)) part parts all,
    parts_held parts (All-tail (λ p. Held l objects (tree_of nodes p) (give p)) part parts all),
  )

  -- the object of a node holds its coercion, if the words that are told for its parts hold these
  node_held : (at high : ℕ) (node : Node) → NodeHasWidth node → 8 ≤ l.width
      → high ≡ coercion_height (height_in l) (grown (tree_of nodes) (Some node))
      → All (λ part. Held l objects (tree_of nodes part) (give part)) (node_parts node)
      → All (λ type. type < length l.types) (node_types node)
      → ((o : Object) → objects_of_node l.type_at give high (Some node) ≡ o ∷ [] → There l objects at o)
      → Held l objects (grown (tree_of nodes) (Some node)) (cond (is_id (grown (tree_of nodes) (Some node))) 0 at)
  node_held at high IdNode width wide e parts known there = refl
  node_held at high (FailNode label) width wide e parts known there =
      there (Fixed (header 8 0 1) (label ∷ [])) refl
  node_held at high (MiddleNode kind parts) width wide e held known there =
      let many = length-map parts give in
      let few = few_node (MiddleNode kind parts) width in (
        map give parts,
        there _ (ap₂ (λ n count. Fixed (header (kind_number kind) n count) (map give parts) ∷ []) e (sym many)),
        parts_held parts held,
        (subst (KindHasWidth kind) (sym many) width, omega (arith, few, many, wide)),
      )
  node_held at high (InjectNode g kept) width wide e held known there = (
    give g,
    l.type_at kept,
    there _ (ap (λ n. Fixed (header 13 n 2) (give g ∷ l.type_at kept ∷ []) ∷ []) e),
    held 0 0 (omega arith),
    record { known = known 0 0 (omega arith); is = refl },
  )
  node_held at high (ProjectNode wanted label i) width wide e held known there = (
    l.type_at wanted,
    give i,
    there _ (ap (λ n. Fixed (header 14 n 3) (l.type_at wanted ∷ label ∷ give i ∷ []) ∷ []) e),
    record { known = known 0 0 (omega arith); is = refl },
    held 0 0 (omega arith),
  )

-- ---- one coercion more

module _ (types : TypeRows) (table : NodeTable) (ordered : AreOrdered table.nodes) (fits : FitsTypes types table)
    (start j : ℕ) (words object words2 type_at coercion_at coercion_at2 : List ℕ) (within : j < length table.nodes)
    (old : SayCoercions types table.nodes start words type_at coercion_at j) (node : Node)
    (node_is : slice_get table.nodes j ≡ Some node)
    (object_is : object
    ≡ node_object type_at coercion_at (coercion_height (height types) (tree_of table.nodes j)) node)
    (words2_is : words2 ≡ words ++ object)
    (coercion_at2_is : coercion_at2
    ≡ coercion_at ++ cond (is_id (tree_of table.nodes j)) 0 (start + 8 * length words) ∷ []) where
  abbrev at : ℕ
  at = start + 8 * length words

  abbrev nodes : List Node
  nodes = table.nodes

  abbrev high : ℕ
  high = coercion_height (height types) (tree_of nodes j)

  abbrev type_give : ℕ → ℕ
  type_give type = slice_index type_at type

  abbrev give : ℕ → ℕ
  give c = slice_index coercion_at c

  abbrev give2 : ℕ → ℕ
  give2 c = slice_index coercion_at2 c

  tree : tree_of nodes j ≡ grown (tree_of nodes) (Some node)
  tree = tree_is nodes j node ordered.before node_is

  here : give2 j ≡ cond (is_id (tree_of nodes j)) 0 at
  here =
      let many = old.as_many in
      ap (λ (xs : List ℕ). slice_index xs j) coercion_at2_is
      ∙ told_last coercion_at (cond (is_id (tree_of nodes j)) 0 at) j (omega (arith, many))

  before : (c : ℕ) → c < j → give2 c ≡ give c
  before c l =
      let many = old.as_many in
      ap (λ (xs : List ℕ). slice_index xs c) coercion_at2_is
      ∙ told_old coercion_at (cond (is_id (tree_of nodes j)) 0 at) c (omega (arith, many, l))

  same : (c : ℕ) → c ≤ j
      → objects_of_place types type_give nodes give2 c ≡ objects_of_place types type_give nodes give c
  same c l = go (slice_get nodes c) refl
    where
      go : (found : Option Node) → slice_get nodes c ≡ found
          → objects_of_node type_give give2 (coercion_height (height types) (tree_of nodes c)) found
          ≡ objects_of_node type_give give (coercion_height (height types) (tree_of nodes c)) found
      go None e = refl
      go (Some other) e =
          same_objects type_give give2 give (coercion_height (height types) (tree_of nodes c)) other
          (λ k d below. let p = ordered.before c other e k d below in before _ (omega (arith, p, l)))

  -- what stood so far
  abbrev stood : List Object
  stood = told_objects types nodes type_at coercion_at j

  -- what is added
  abbrev added : List Object
  added = objects_of_node type_give give high (Some node)

  new_objects : (next : ℕ) → suc j ≡ next → told_objects types nodes type_at coercion_at2 next ≡ stood ++ added
  new_objects next e =
      let first = type_objects types type_give (length types) in
      let later = coercion_objects types type_give nodes give j in
      subst (λ n. told_objects types nodes type_at coercion_at2 n ≡ stood ++ added) e
      (ap₂ (λ xs ys. first ++ (xs ++ ys))
      (up_to_same (objects_of_place types type_give nodes give2) (objects_of_place types type_give nodes give) j
      (λ c l. same c (omega (arith, l))))
      (same j (omega arith) ∙ ap (objects_of_node type_give give high) node_is)
      ∙ sym (append_assoc first later added))

  end : start + bytes_of_all stood ≡ at
  end =
      let bytes = bytes_of_all_words stood in
      let e = ap (λ (xs : List ℕ). length xs) old.says in
      omega (arith, bytes, e)

  new_says : (next : ℕ) → suc j ≡ next → words2 ≡ words_of_all (told_objects types nodes type_at coercion_at2 next)
  new_says next e =
      words2_is ∙ ap₂ (λ (xs ys : List ℕ). xs ++ ys) old.says (object_is ∙ node_words type_at coercion_at high node)
      ∙ sym (words_append stood added)
      ∙ sym (ap words_of_all (new_objects next e))

  module _ (more objects : List Object) (region tallest : ℕ) where
    abbrev layout : Layout
    layout = layout_over types type_at start (stood ++ (added ++ more)) region tallest 8

    old_held : (c : ℕ) → c < j → Held layout objects (tree_of nodes c) (give c)
    old_held c l = old.held (added ++ more) objects region tallest c l

    stands : (o : Object) → added ≡ o ∷ [] → There layout objects at o
    stands o e =
        inl (ap (λ os. object_at (stood ++ (os ++ more)) start at) e ∙ last_stands stood more o start at (sym end))

    last_held : Held layout objects (tree_of nodes j) (give2 j)
    last_held =
        subst (Held layout objects (tree_of nodes j)) (sym here)
        (subst (λ c. Held layout objects c (cond (is_id c) 0 at)) (sym tree)
        (node_held layout objects nodes give at high node (ordered.widths j node node_is) (omega arith)
        (ap (coercion_height (height types)) tree)
        (λ k d below. old_held _ (ordered.before j node node_is k d below)) (fits.types_there j node node_is) stands))

    all_held : (c : ℕ) → (c < j) ⊎ (c ≡ j) → Held layout objects (tree_of nodes c) (give2 c)
    all_held c (inl less) = subst (Held layout objects (tree_of nodes c)) (sym (before c less)) (old_held c less)
    all_held c (inr same) = subst (λ n. Held layout objects (tree_of nodes n) (give2 n)) (sym same) last_held

    new_held : (next c : ℕ) → suc j ≡ next → c < j + 1
        → Held (layout_over types type_at start (told_objects types nodes type_at coercion_at2 next ++ more) region
        tallest 8) objects (tree_of nodes c) (give2 c)
    new_held next c e l =
        subst (λ os. Held (layout_over types type_at start os region tallest 8) objects (tree_of nodes c) (give2 c))
        (sym (ap (λ os. os ++ more) (new_objects next e) ∙ append_assoc stood added more))
        (all_held c (below_or_last c j l))

  pub one_more_coercion_said : SayCoercions types nodes start words2 type_at coercion_at2 (j + 1)
  one_more_coercion_said = record {
    as_many =
        let many = old.as_many in
        let e = ap (λ (xs : List ℕ). length xs) coercion_at2_is
        ∙ length-append coercion_at (cond (is_id (tree_of nodes j)) 0 at ∷ []) in
        omega (arith, many, e);
    says = new_says (j + 1) (omega arith);
    held = λ more objects region tallest c l. new_held more objects region tallest (j + 1) c (omega arith) l;
  }
