-- The object of a coercion, by its node: it is whole, and holds the coercion.
use Rattle.std.proofs.Common.{◌≡◌, ℕ, suc, ◌+◌, ◌*◌, ◌<◌, ◌≤◌, ◌^◌, true, false, cond, refl, sym, ap}
use Rattle.std.proofs.Common.{◌∙◌, subst, arith, List, [], ◌∷◌, ◌++◌, length, Some, All, append-nil, slice_get}
use Rattle.std.specs.Prelude.{slice_index, ◌==◌}
use Rattle.std.proofs.lemmas.List.{length-map}
use Rattle.grift_base.specs.Types.{TypeRows}
use Rattle.type_graph.specs.Trees.{height}
use Rattle.object_layout.specs.declared.kinds.Kind.TheVariants.{Fail as FailObject, Inject as InjectObject}
use Rattle.object_layout.specs.declared.kinds.Kind.TheVariants.{Project as ProjectObject}
use Rattle.object_layout.specs.declared.wholes.Area.TheVariants.{Statics as InStatics}
use Rattle.object_layout.specs.Kinds.{allows_count, wanted_words}
use Rattle.object_layout.specs.Headers.{packed}
use Rattle.object_layout.specs.declared.kinds.Kind.{Kind as ObjectKind}
use Rattle.object_layout.specs.Wholes.{Telling, AreWanted, HasHeight, IsWhole, header_at, height_behind}
use Rattle.object_layout.specs.Wholes.{coercion_height as height_told, highest as highest_of}
use Rattle.coercion_norm.specs.Coercions.{Kind, FunKind, TupKind, RefKind, VecKind, Coercion, Id, Fail}
use Rattle.coercion_norm.specs.Coercions.{Middle}
use Rattle.coercion_norm.specs.Coercions.{Inject, Project, is_id, rows_of}
use Rattle.coercion_norm.specs.CoercionTables.{FitsTypes, NodeTable}
use Rattle.coercion_norm.specs.Heights.{coercion_height}
use Rattle.coercion_norm.specs.Nodes.{Node, IdNode, FailNode, MiddleNode, InjectNode, ProjectNode, AreOrdered}
use Rattle.coercion_norm.specs.Nodes.{KindHasWidth}
use Rattle.coercion_norm.specs.Nodes.{NodeHasWidth, node_parts, tree_of, trees}
use Rattle.coercion_norm.specs.Normal.{IsNormal}
use Rattle.coercion_norm.specs.StaticObjects.{HoldsCoercion, Tells, coercion_headers, header, middle_kind}
use Rattle.coercion_norm.specs.StaticObjects.{node_object, words_at}
use Rattle.coercion_norm.specs.Placed.{ArePlaced}
use Rattle.coercion_norm.proofs.NodeLemmas.{tree_is}
use Rattle.object_layout.proofs.Public.{number_of_kind}
use Rattle.coercion_norm.proofs.Objects.{within_both}
use Rattle.coercion_norm.proofs.PartWords.{IsPart, coercion_address, coercion_as_high, count_of_trees, middle_wanted}
use Rattle.coercion_norm.proofs.PartWords.{not_at_zero, parts_as_high, parts_stand, parts_wanted, type_address}
use Rattle.coercion_norm.proofs.PartWords.{type_as_high}
use Rattle.coercion_norm.proofs.CoercionPlacing.{IsObject, placed_id, placed_object}

-- ---- middles

middle_count : (kind : Kind) (n : ℕ) → KindHasWidth kind n → allows_count (middle_kind kind) n ≡ true
middle_count FunKind n w = within_both 1 7 n w.0 w.1
middle_count TupKind n w = within_both 1 8 n w.0 w.1
middle_count RefKind n w = ap (λ k. k == 2) w
middle_count VecKind n w = ap (λ k. k == 2) w

few_wide : (kind : Kind) (n : ℕ) → KindHasWidth kind n → n ≤ 8
few_wide FunKind n w = let l = w.1 in omega (arith, l)
few_wide TupKind n w = let l = w.1 in omega (arith, l)
few_wide RefKind n w = omega (arith, w)
few_wide VecKind n w = omega (arith, w)

pub few_node : (node : Node) → NodeHasWidth node → length (node_parts node) ≤ 8
few_node IdNode w = omega arith
few_node (FailNode label) w = omega arith
few_node (MiddleNode kind parts) w = few_wide kind (length parts) w
few_node (InjectNode g kept) w = omega arith
few_node (ProjectNode wanted label i) w = omega arith

middle_high : (kind : Kind) (high parts : ℕ) → high ≡ suc parts → HasHeight (middle_kind kind) high parts
middle_high FunKind high parts e = e
middle_high _ high parts e = e

module _ (types : TypeRows) (table : NodeTable) (ordered : AreOrdered table.nodes) (fits : FitsTypes types table)
    (start j : ℕ) (words type_at coercion_at : List ℕ)
    (old : ArePlaced types table.nodes start words type_at coercion_at j) (within : j < length table.nodes) where
  abbrev at : ℕ
  at = start + 8 * length words

  abbrev high : ℕ
  high = coercion_height (height types) (tree_of table.nodes j)

  high_low : high < 2 ^ 16
  high_low = let l = (fits.sound j within).low in omega (arith, l)

  part_is : (memory : Telling) → Tells memory start words → (place : ℕ) → place < j
      → IsPart memory types table.nodes coercion_at at place
  part_is memory t place below = record {
    holds = old.each memory t place below;
    below = old.below place below;
    low = old.zero_low place below;
  }

  abbrev IsObjectHere : List ℕ → Type 0
  IsObjectHere = IsObject types table.nodes start j words type_at coercion_at old

  -- an object of a kind that may have so many words is whole, where its words and its height are as they have to be
  whole_by : (memory : Telling) (kind : ObjectKind) (tall count : ℕ) → allows_count kind count ≡ true
      → header_at memory at ≡ Some (header kind tall count) → AreWanted memory at (at + 8) (wanted_words kind count)
      → HasHeight kind tall (highest_of memory (at + 8) (wanted_words kind count))
      → IsWhole memory InStatics (at + (8 + 8 * count)) at (header kind tall count)
  whole_by memory kind tall count allowed h words height = record {
    header = h;
    kind = kind;
    kind_is = number_of_kind kind;
    count = allowed;
    fits = omega arith;
    words = words;
    height = height;
    stands = tt;
  }

  -- what is known of the object of a node, by the coercion that the node is
  object_of : (node : Node) (c : Coercion) → tree_of table.nodes j ≡ c → is_id c ≡ false → (kind : ObjectKind)
      (count : ℕ) (rest : List ℕ)
      → node_object type_at coercion_at (coercion_height (height types) c) node
      ≡ packed (header kind (coercion_height (height types) c) count) ∷ rest
      → length rest ≡ count → count ≤ 8
      → coercion_headers types c ≡ header kind (coercion_height (height types) c) count ∷ []
      → (at ≡ 0 → coercion_height (height types) c ≡ 0)
      → ((memory : Telling) → Tells memory start words
      → header_at memory at ≡ Some (header kind (coercion_height (height types) c) count)
      → Tells memory (at + 8) rest → HoldsCoercion memory types c at)
      → ((memory : Telling) → Tells memory start words
      → header_at memory at ≡ Some (header kind (coercion_height (height types) c) count)
      → Tells memory (at + 8) rest
      → IsWhole memory InStatics (at + (8 + 8 * count)) at (header kind (coercion_height (height types) c) count))
      → IsObjectHere (node_object type_at coercion_at high node)
  object_of node c tree other kind count rest object_is long few headers at_zero held whole =
      let high_is : high ≡ coercion_height (height types) c = ap (coercion_height (height types)) tree in
      record {
        kind = kind;
        high = coercion_height (height types) c;
        count = count;
        rest = rest;
        object_is = ap (λ n. node_object type_at coercion_at n node) high_is ∙ object_is;
        long = long;
        few = few;
        low = let l = high_low in omega (arith, l, high_is);
        headers = ap (coercion_headers types) tree ∙ headers;
        no_id = ap is_id tree ∙ other;
        at_zero = λ z. high_is ∙ at_zero z;
        held = λ memory t h w. subst (λ x. HoldsCoercion memory types x at) (sym tree) (held memory t h w);
        whole = whole;
      }

  -- ---- a fail

  fail_object : (label : ℕ) → slice_get table.nodes j ≡ Some (FailNode label)
      → IsObjectHere (node_object type_at coercion_at high (FailNode label))
  fail_object label e =
      object_of (FailNode label) (Fail label) (tree_is table.nodes j (FailNode label) ordered.before e) refl
      FailObject 1
      (label ∷ []) refl refl (omega arith) refl (λ z. refl) (λ memory t h w. (h, w.0))
      (λ memory t h w. whole_by memory FailObject 0 1 refl h tt refl)

  -- ---- an injection

  module _ (g kept : ℕ) (e : slice_get table.nodes j ≡ Some (InjectNode g kept)) where
    inject_tree : tree_of table.nodes j ≡ Inject (tree_of table.nodes g) kept
    inject_tree = tree_is table.nodes j (InjectNode g kept) ordered.before e

    before_it : g < j
    before_it = ordered.before j (InjectNode g kept) e 0 0 (omega arith)

    kept_there : kept < length types
    kept_there = fits.types_there j (InjectNode g kept) e 0 0 (omega arith)

    abbrev inject_high : ℕ
    inject_high = coercion_height (height types) (Inject (tree_of table.nodes g) kept)

    inject_whole : (memory : Telling) → Tells memory start words
        → header_at memory at ≡ Some (header InjectObject inject_high 2)
        → Tells memory (at + 8) (slice_index coercion_at g ∷ slice_index type_at kept ∷ [])
        → IsWhole memory InStatics (at + (8 + 8 * 2)) at (header InjectObject inject_high 2)
    inject_whole memory t h w =
        let part = part_is memory t g before_it in
        let holds = old.each_type memory t kept kept_there in
        let a : height_told memory (memory (at + 8)) ≡ coercion_height (height types) (tree_of table.nodes g) =
        ap (height_told memory) w.0
        ∙ coercion_as_high memory types (slice_index coercion_at g) (tree_of table.nodes g) part.holds part.low in
        let b : height_behind memory (memory (at + 8 + 8)) ≡ height types kept =
        ap (height_behind memory) w.1.0 ∙ type_as_high memory types (slice_index type_at kept) kept holds in
        whole_by memory InjectObject inject_high 2 refl h (
          (
            slice_index coercion_at g,
            w.0,
            coercion_address memory types at (slice_index coercion_at g) (tree_of table.nodes g) part.holds
                part.below,
          ),
          (
            (
              slice_index type_at kept,
              w.1.0,
              type_address memory types at (slice_index type_at kept) kept holds (old.types_below kept kept_there),
            ),
            tt,
          ),
        )
        (omega (arith, a, b))

    inject_object : IsObjectHere (node_object type_at coercion_at high (InjectNode g kept))
    inject_object =
        object_of (InjectNode g kept) (Inject (tree_of table.nodes g) kept) inject_tree refl InjectObject 2
        (slice_index coercion_at g ∷ slice_index type_at kept ∷ []) refl refl (omega arith) refl
        (λ z. let b = old.types_below kept kept_there in absurd (omega (arith, z, b)))
        (λ memory t h w. (
          h,
          (slice_index coercion_at g, w.0, (part_is memory t g before_it).holds),
          (slice_index type_at kept, w.1.0, old.each_type memory t kept kept_there),
        )) inject_whole

  -- ---- a projection

  module _ (wanted label i : ℕ) (e : slice_get table.nodes j ≡ Some (ProjectNode wanted label i)) where
    project_tree : tree_of table.nodes j ≡ Project wanted label (tree_of table.nodes i)
    project_tree = tree_is table.nodes j (ProjectNode wanted label i) ordered.before e

    behind_it : i < j
    behind_it = ordered.before j (ProjectNode wanted label i) e 0 0 (omega arith)

    wanted_there : wanted < length types
    wanted_there = fits.types_there j (ProjectNode wanted label i) e 0 0 (omega arith)

    abbrev project_high : ℕ
    project_high = coercion_height (height types) (Project wanted label (tree_of table.nodes i))

    project_whole : (memory : Telling) → Tells memory start words
        → header_at memory at ≡ Some (header ProjectObject project_high 3)
        → Tells memory (at + 8) (slice_index type_at wanted ∷ label ∷ slice_index coercion_at i ∷ [])
        → IsWhole memory InStatics (at + (8 + 8 * 3)) at (header ProjectObject project_high 3)
    project_whole memory t h w =
        let part = part_is memory t i behind_it in
        let holds = old.each_type memory t wanted wanted_there in
        let a : height_behind memory (memory (at + 8)) ≡ height types wanted =
        ap (height_behind memory) w.0 ∙ type_as_high memory types (slice_index type_at wanted) wanted holds in
        let b : height_told memory (memory (at + 8 + 8 + 8))
        ≡ coercion_height (height types) (tree_of table.nodes i) =
        ap (height_told memory) w.1.1.0
        ∙ coercion_as_high memory types (slice_index coercion_at i) (tree_of table.nodes i) part.holds part.low in
        whole_by memory ProjectObject project_high 3 refl h (
          (
            slice_index type_at wanted,
            w.0,
            type_address memory types at (slice_index type_at wanted) wanted holds
                (old.types_below wanted wanted_there),
          ),
          (
            (label, w.1.0, tt),
            (
              (
                slice_index coercion_at i,
                w.1.1.0,
                coercion_address memory types at (slice_index coercion_at i) (tree_of table.nodes i) part.holds
                    part.below,
              ),
              tt,
            ),
          ),
        )
        (omega (arith, a, b))

    project_object : IsObjectHere (node_object type_at coercion_at high (ProjectNode wanted label i))
    project_object =
        object_of (ProjectNode wanted label i) (Project wanted label (tree_of table.nodes i)) project_tree refl
        ProjectObject 3 (slice_index type_at wanted ∷ label ∷ slice_index coercion_at i ∷ []) refl refl
        (omega arith) refl (λ z. let b = old.types_below wanted wanted_there in absurd (omega (arith, z, b)))
        (λ memory t h w. (
          h,
          (slice_index type_at wanted, w.0, old.each_type memory t wanted wanted_there),
          w.1.0,
          (slice_index coercion_at i, w.1.1.0, (part_is memory t i behind_it).holds),
        )) project_whole

  -- ---- a middle

  module _ (kind : Kind) (parts : List ℕ) (e : slice_get table.nodes j ≡ Some (MiddleNode kind parts)) where
    middle_tree : tree_of table.nodes j ≡ Middle kind (trees (tree_of table.nodes) parts)
    middle_tree = tree_is table.nodes j (MiddleNode kind parts) ordered.before e

    parts_before : All (λ part. part < j) parts
    parts_before = ordered.before j (MiddleNode kind parts) e

    wide : KindHasWidth kind (length parts)
    wide = ordered.widths j (MiddleNode kind parts) e

    normal : IsNormal (rows_of types) (Middle kind (trees (tree_of table.nodes) parts))
    normal = subst (IsNormal (rows_of types)) middle_tree (fits.sound j within).normal

    abbrev whole_high : ℕ
    whole_high = coercion_height (height types) (Middle kind (trees (tree_of table.nodes) parts))

    parts_are : (memory : Telling) → Tells memory start words
        → All (IsPart memory types table.nodes coercion_at at) parts
    parts_are memory t = λ k d l. part_is memory t _ (parts_before k d l)

    middle_whole : (memory : Telling) → Tells memory start words
        → header_at memory at ≡ Some (header (middle_kind kind) whole_high (length parts))
        → Tells memory (at + 8) (words_at coercion_at parts)
        → IsWhole memory InStatics (at + (8 + 8 * length parts)) at (header (middle_kind kind) whole_high (length
        parts))
    middle_whole memory t h w =
        whole_by memory (middle_kind kind) whole_high (length parts) (middle_count kind (length parts) wide) h
        (subst (AreWanted memory at (at + 8)) (sym (middle_wanted kind (length parts)))
        (parts_wanted memory types table.nodes coercion_at at (at + 8) parts w (parts_are memory t)))
        (middle_high kind whole_high (highest_of memory (at + 8) (wanted_words (middle_kind kind) (length parts)))
        (ap suc (sym (ap (highest_of memory (at + 8)) (middle_wanted kind (length parts))
        ∙ parts_as_high memory types table.nodes coercion_at at (at + 8) parts w (parts_are memory t)))))

    middle_object : IsObjectHere (node_object type_at coercion_at high (MiddleNode kind parts))
    middle_object =
        object_of (MiddleNode kind parts) (Middle kind (trees (tree_of table.nodes) parts)) middle_tree refl
        (middle_kind kind) (length parts) (words_at coercion_at parts) refl
        (length-map parts (λ place. slice_index coercion_at place)) (few_wide kind (length parts) wide)
        (ap (λ n. header (middle_kind kind) whole_high n ∷ []) (count_of_trees (tree_of table.nodes) parts))
        (λ z. absurd (not_at_zero table.nodes coercion_at at parts (λ k d l. old.below _ (parts_before k d l)) normal.0
        z))
        (λ memory t h w. (
          h ∙ ap (λ n. Some (header (middle_kind kind) whole_high n))
              (sym (count_of_trees (tree_of table.nodes) parts)),
          parts_stand memory types table.nodes coercion_at at (at + 8) parts w (parts_are memory t),
        )) middle_whole

  -- ---- any node

  module _ (object words2 coercion_at2 : List ℕ) (words2_is : words2 ≡ words ++ object)
      (coercion_at2_is : coercion_at2 ≡ coercion_at ++ cond (is_id (tree_of table.nodes j)) 0 at ∷ []) where
    behind_types : IsObjectHere object → ArePlaced types table.nodes start words2 type_at coercion_at2 (j + 1)
    behind_types is =
        placed_object types table.nodes start j words type_at coercion_at old object words2 coercion_at2 is words2_is
        (coercion_at2_is ∙ ap (λ b. coercion_at ++ cond b 0 at ∷ []) is.no_id)

    pub node_placed : (node : Node) → slice_get table.nodes j ≡ Some node
        → object ≡ node_object type_at coercion_at high node
        → ArePlaced types table.nodes start words2 type_at coercion_at2 (j + 1)
    node_placed IdNode e is =
        let tree : tree_of table.nodes j ≡ Id = tree_is table.nodes j IdNode ordered.before e in
        let same : words2 ≡ words = words2_is ∙ ap (λ (xs : List ℕ). words ++ xs) is ∙ append-nil words in
        subst (λ ws. ArePlaced types table.nodes start ws type_at coercion_at2 (j + 1)) (sym same)
        (placed_id types table.nodes start j words type_at coercion_at old coercion_at2
        (coercion_at2_is ∙ ap (λ b. coercion_at ++ cond b 0 at ∷ []) (ap is_id tree)) tree)
    node_placed (FailNode label) e is = behind_types (subst IsObjectHere (sym is) (fail_object label e))
    node_placed (MiddleNode kind parts) e is = behind_types (subst IsObjectHere (sym is) (middle_object kind parts e))
    node_placed (InjectNode g kept) e is = behind_types (subst IsObjectHere (sym is) (inject_object g kept e))
    node_placed (ProjectNode wanted label i) e is =
        behind_types (subst IsObjectHere (sym is) (project_object wanted label i e))
