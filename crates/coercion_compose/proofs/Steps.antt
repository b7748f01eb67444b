-- The steps of a composition over a table: what each node is, what falls, and what the answer is.
use Rattle.std.proofs.Common.{◌≡◌, ℕ, suc, ◌+◌, ◌*◌, ◌<◌, ◌≤◌, max, min, true, false, Some, sym, ap, ap₂}
use Rattle.std.proofs.Common.{◌∙◌, subst}
use Rattle.std.proofs.Common.{List, length, slice_get, All, arith}
use Rattle.std.proofs.lemmas.List.Elements.{All-weaker}
use Rattle.std.proofs.lemmas.Option.{slice_get_within}
use Rattle.grift_base.specs.Types.{TypeRows}
use Rattle.type_graph.specs.Trees.{height}
use Rattle.type_graph.specs.TypeTables.{IsOrderedTable}
use Rattle.coercion_norm.specs.declared.nodes.CoercionId.{CoercionId}
use Rattle.coercion_norm.specs.declared.middles.MiddleKind.{MiddleKind as Kind}
use Rattle.coercion_norm.specs.declared.middles.MiddleKind.TheVariants.{Fun as FunKind, Tup as TupKind}
use Rattle.coercion_norm.specs.declared.middles.MiddleKind.TheVariants.{Ref as RefKind, Vec as VecKind}
use Rattle.coercion_norm.specs.Coercions.{Id, Middle}
use Rattle.coercion_norm.specs.Coercions.{Inject, Project, rows_of, same_kind}
use Rattle.coercion_norm.specs.Composition.{coerce_solid, final, follow_parts, middle}
use Rattle.coercion_norm.specs.CoercionTables.{FitsTypes, IsSound, NodeTable, cast_of, composition_of}
use Rattle.coercion_norm.specs.Heights.{coercion_height, highest}
use Rattle.coercion_norm.specs.Nodes.{Node, IdNode, FailNode, MiddleNode, InjectNode, ProjectNode, AreOrdered, Grows}
use Rattle.coercion_norm.specs.Nodes.{IsTree, KindHasWidth, coercion_places, tree_of, trees}
use Rattle.coercion_norm.specs.Normal.{IsNormal}
use Rattle.coercion_norm.proofs.Public.{cast_low, cast_solid, composition_low, composition_sound}
use Rattle.coercion_norm.proofs.Public.{more_places, solid_is_inner, tree_is, tree_kept}
use Rattle.coercion_compose.proofs.Equations.{fail_then, id_then, inject_then_fail, inject_then_id, inject_then_inject}
use Rattle.coercion_compose.proofs.Equations.{inject_then_middle, inject_then_project, middle_then_fail}
use Rattle.coercion_compose.proofs.Equations.{middle_then_id, middle_then_inject, middle_then_middle, middle_then_other}
use Rattle.coercion_compose.proofs.Equations.{middle_then_project, project_then}
use Rattle.coercion_compose.proofs.Measures.{high, pair_high, parts_high, rank, rank_behind, rank_flat, rank_inner}

-- a coercion as high as its heights say
module _ (types : TypeRows) (rows : IsOrderedTable types) (old : NodeTable) (ordered : AreOrdered old.nodes)
    (fits : FitsTypes types old) where
  -- ---- a projection first

  module _ (c i wanted label : ℕ) (c_is : slice_get old.nodes c ≡ Some (ProjectNode wanted label i)) where
    project_tree : tree_of old.nodes c ≡ Project wanted label (tree_of old.nodes i)
    project_tree = tree_is old.nodes c (ProjectNode wanted label i) ordered.before c_is

    project_within : c < length old.nodes
    project_within = slice_get_within old.nodes c (ProjectNode wanted label i) c_is

    project_normal : IsNormal (rows_of types) (Project wanted label (tree_of old.nodes i))
    project_normal = subst (IsNormal (rows_of types)) project_tree (fits.sound c project_within).normal

    pub behind_below : i < c
    behind_below = ordered.before c (ProjectNode wanted label i) c_is 0 0 (omega arith)

    pub behind_there : i < length old.nodes
    behind_there = let a = behind_below in let b = project_within in omega (arith, a, b)

    pub wanted_there : wanted < length types
    wanted_there = fits.types_there c (ProjectNode wanted label i) c_is 0 0 (omega arith)

    project_high : high types old.nodes c ≡ max (height types wanted) (high types old.nodes i)
    project_high = ap (coercion_height (height types)) project_tree

    -- the pair of what is behind the projection is less
    pub behind_falls : (d : ℕ)
        → 137438953472 * pair_high types old.nodes i d + 17179869184 * rank (tree_of old.nodes i) + 8589934592
        < 137438953472 * pair_high types old.nodes c d + 17179869184 * rank (tree_of old.nodes c) + 8589934592
    behind_falls d =
        let h = project_high in
        let r : rank (tree_of old.nodes c) ≡ 2 = ap rank project_tree in
        let s = rank_behind (tree_of old.nodes i) project_normal.1 in
        omega (arith, h, r, s)

    -- what stands behind the projection, in front of which it goes again
    pub projected : (now : List Node) (d rest last : ℕ)
        → IsTree now rest (composition_of types (tree_of old.nodes i) (tree_of old.nodes d))
        → IsTree now last (final (tree_of now rest))
        → Project wanted label (tree_of now last)
        ≡ composition_of types (tree_of old.nodes c) (tree_of old.nodes d)
    projected now d rest last is_rest is_last =
        ap (Project wanted label) (is_last.is ∙ ap final is_rest.is)
        ∙ sym (project_then types rows (tree_of old.nodes c) (tree_of old.nodes d) (tree_of old.nodes i) wanted label
        project_tree)

  -- ---- an injection first

  module _ (c g kept : ℕ) (c_is : slice_get old.nodes c ≡ Some (InjectNode g kept)) where
    inject_tree : tree_of old.nodes c ≡ Inject (tree_of old.nodes g) kept
    inject_tree = tree_is old.nodes c (InjectNode g kept) ordered.before c_is

    inject_within : c < length old.nodes
    inject_within = slice_get_within old.nodes c (InjectNode g kept) c_is

    inject_normal : IsNormal (rows_of types) (Inject (tree_of old.nodes g) kept)
    inject_normal = subst (IsNormal (rows_of types)) inject_tree (fits.sound c inject_within).normal

    pub before_below : g < c
    before_below = ordered.before c (InjectNode g kept) c_is 0 0 (omega arith)

    pub before_there : g < length old.nodes
    before_there = let a = before_below in let b = inject_within in omega (arith, a, b)

    pub kept_there : kept < length types
    kept_there = fits.types_there c (InjectNode g kept) c_is 0 0 (omega arith)

    inject_high : high types old.nodes c ≡ max (high types old.nodes g) (height types kept)
    inject_high = ap (coercion_height (height types)) inject_tree

    pub inject_rank : rank (tree_of old.nodes c) ≡ 1
    inject_rank = ap rank inject_tree

    pub injected_id : (d : ℕ) → slice_get old.nodes d ≡ Some IdNode
        → tree_of old.nodes c ≡ composition_of types (tree_of old.nodes c) (tree_of old.nodes d)
    injected_id d e =
        sym (inject_then_id types rows (tree_of old.nodes c) (tree_of old.nodes d) (tree_of old.nodes g) kept
        inject_tree (tree_is old.nodes d IdNode ordered.before e))

    pub injected_fail : (d label : ℕ) → slice_get old.nodes d ≡ Some (FailNode label)
        → tree_of old.nodes d ≡ composition_of types (tree_of old.nodes c) (tree_of old.nodes d)
    injected_fail d label e =
        sym (inject_then_fail types rows (tree_of old.nodes c) (tree_of old.nodes d) (tree_of old.nodes g) kept
        inject_tree label (tree_is old.nodes d (FailNode label) ordered.before e))

    pub injected_middle : (d : ℕ) (kind : Kind) (parts : List ℕ) → slice_get old.nodes d ≡ Some (MiddleNode kind parts)
        → Id ≡ composition_of types (tree_of old.nodes c) (tree_of old.nodes d)
    injected_middle d kind parts e =
        sym (inject_then_middle types rows (tree_of old.nodes c) (tree_of old.nodes d) (tree_of old.nodes g) kept
        inject_tree kind (trees (tree_of old.nodes) parts)
        (tree_is old.nodes d (MiddleNode kind parts) ordered.before e))

    pub injected_inject : (d h other : ℕ) → slice_get old.nodes d ≡ Some (InjectNode h other)
        → Id ≡ composition_of types (tree_of old.nodes c) (tree_of old.nodes d)
    injected_inject d h other e =
        sym (inject_then_inject types rows (tree_of old.nodes c) (tree_of old.nodes d) (tree_of old.nodes g) kept
        inject_tree (tree_of old.nodes h) other (tree_is old.nodes d (InjectNode h other) ordered.before e))

    -- a composition is measured less than that of this injection with what stands behind it
    abbrev pub Falls : ℕ → List Node → ℕ → ℕ → Type 0
    Falls d now first second =
        137438953472 * pair_high types now first second + 17179869184 * rank (tree_of now first) + 8589934592
        < 137438953472 * pair_high types old.nodes c d + 17179869184 + 1

    -- ---- a projection behind it: the cast of the kept type to the wanted one goes between

    module _ (d i wanted label : ℕ) (d_is : slice_get old.nodes d ≡ Some (ProjectNode wanted label i))
        (one : List Node) (between : ℕ) (grows : Grows old.nodes one)
        (is_cast : IsTree one between (cast_of types kept wanted label)) where
      i_kept : tree_of one i ≡ tree_of old.nodes i
      i_kept = tree_kept old.nodes one ordered.before grows i (behind_there d i wanted label d_is)

      pub behind_there_now : i < length one
      behind_there_now =
          let a = behind_there d i wanted label d_is in
          let b = more_places old.nodes one grows in
          omega (arith, a, b)

      between_low : high types one between ≤ max (height types kept) (height types wanted)
      between_low =
          subst (λ x. coercion_height (height types) x ≤ max (height types kept) (height types wanted)) (sym is_cast.is)
          (cast_low types rows kept wanted label)

      between_rank : rank (tree_of one between) ≡ 0
      between_rank =
          ap rank (is_cast.is
          ∙ cast_solid types rows kept wanted label inject_normal.2 (project_normal d i wanted label d_is).0)
          ∙ rank_inner (coerce_solid (rows_of types) (cast_of types) kept wanted label)
          (solid_is_inner (rows_of types) (cast_of types) kept wanted label)

      pub between_falls : Falls d one between i
      between_falls =
          let hc = inject_high in
          let hd = project_high d i wanted label d_is in
          let b = between_low in
          let r = between_rank in
          let k : high types one i ≡ high types old.nodes i = ap (coercion_height (height types)) i_kept in
          omega (arith, hc, hd, b, r, k)

      module _ (two : List Node) (rest : ℕ) (later : Grows old.nodes two)
          (is_rest : IsTree two rest (composition_of types (tree_of one between) (tree_of one i))) where
        g_kept : tree_of two g ≡ tree_of old.nodes g
        g_kept = tree_kept old.nodes two ordered.before later g before_there

        pub before_there_now : g < length two
        before_there_now =
            let a = before_there in
            let b = more_places old.nodes two later in
            omega (arith, a, b)

        pub before_falls : Falls d two g rest
        before_falls =
            let hc = inject_high in
            let hd = project_high d i wanted label d_is in
            let b = between_low in
            let k : high types one i ≡ high types old.nodes i = ap (coercion_height (height types)) i_kept in
            let l : high types two g ≡ high types old.nodes g = ap (coercion_height (height types)) g_kept in
            let m : high types two rest ≤ max (high types one between) (high types one i) =
            subst (λ x. coercion_height (height types) x ≤ max (high types one between) (high types one i))
            (sym is_rest.is) (composition_low types rows (tree_of one between) (tree_of one i)) in
            let r : rank (tree_of two g) ≡ 0 = ap rank g_kept ∙ rank_flat (tree_of old.nodes g) inject_normal.0 in
            omega (arith, hc, hd, b, k, l, m, r)

        pub through_dyn : (three : List Node) (e : ℕ)
            → IsTree three e (composition_of types (tree_of two g) (tree_of two rest))
            → IsTree three e (composition_of types (tree_of old.nodes c) (tree_of old.nodes d))
        through_dyn three e is =
            subst (IsTree three e)
            (ap₂ (composition_of types) g_kept
            (is_rest.is ∙ ap₂ (composition_of types) is_cast.is i_kept)
            ∙ sym (inject_then_project types rows (tree_of old.nodes c) (tree_of old.nodes d) (tree_of old.nodes g)
            kept inject_tree wanted label (tree_of old.nodes i) inject_normal.0 inject_normal.2
            (project_normal d i wanted label d_is).0 (project_tree d i wanted label d_is))) is

  -- ---- a middle first

  module _ (c : ℕ) (kind : Kind) (parts : List ℕ) (c_is : slice_get old.nodes c ≡ Some (MiddleNode kind parts)) where
    middle_tree : tree_of old.nodes c ≡ Middle kind (trees (tree_of old.nodes) parts)
    middle_tree = tree_is old.nodes c (MiddleNode kind parts) ordered.before c_is

    middle_within : c < length old.nodes
    middle_within = slice_get_within old.nodes c (MiddleNode kind parts) c_is

    pub middle_parts_there : All (λ part. part < length old.nodes) parts
    middle_parts_there =
        let l = middle_within in
        All-weaker (λ part. part < c) (λ part. part < length old.nodes) (λ part below. omega (arith, l, below)) parts
        (ordered.before c (MiddleNode kind parts) c_is)

    middle_high : high types old.nodes c ≡ suc (highest (height types) (trees (tree_of old.nodes) parts))
    middle_high = ap (coercion_height (height types)) middle_tree

    pub middled_id : (d : ℕ) → slice_get old.nodes d ≡ Some IdNode
        → tree_of old.nodes c ≡ composition_of types (tree_of old.nodes c) (tree_of old.nodes d)
    middled_id d e =
        sym (middle_then_id types rows (tree_of old.nodes c) (tree_of old.nodes d) kind
        (trees (tree_of old.nodes) parts) middle_tree (tree_is old.nodes d IdNode ordered.before e))

    pub middled_fail : (d label : ℕ) → slice_get old.nodes d ≡ Some (FailNode label)
        → tree_of old.nodes d ≡ composition_of types (tree_of old.nodes c) (tree_of old.nodes d)
    middled_fail d label e =
        sym (middle_then_fail types rows (tree_of old.nodes c) (tree_of old.nodes d) kind
        (trees (tree_of old.nodes) parts) middle_tree label (tree_is old.nodes d (FailNode label) ordered.before e))

    pub middled_project : (d wanted label i : ℕ) → slice_get old.nodes d ≡ Some (ProjectNode wanted label i)
        → Id ≡ composition_of types (tree_of old.nodes c) (tree_of old.nodes d)
    middled_project d wanted label i e =
        sym (middle_then_project types rows (tree_of old.nodes c) (tree_of old.nodes d) kind
        (trees (tree_of old.nodes) parts) middle_tree wanted label (tree_of old.nodes i)
        (tree_is old.nodes d (ProjectNode wanted label i) ordered.before e))

    -- an injection behind it

    module _ (d g kept : ℕ) (d_is : slice_get old.nodes d ≡ Some (InjectNode g kept)) where
      pub inject_falls : 137438953472 * pair_high types old.nodes c g + g + 2
          < 137438953472 * pair_high types old.nodes c d + d + 2
      inject_falls =
          let h = inject_high d g kept d_is in
          let b = before_below d g kept d_is in
          omega (arith, h, b)

      pub middled_inject : (now : List Node) (before : ℕ)
          → IsTree now before (composition_of types (tree_of old.nodes c) (tree_of old.nodes g))
          → Inject (tree_of now before) kept
          ≡ composition_of types (tree_of old.nodes c) (tree_of old.nodes d)
      middled_inject now before is =
          ap (λ x. Inject x kept) is.is
          ∙ sym (middle_then_inject types rows (tree_of old.nodes c) (tree_of old.nodes d) kind
          (trees (tree_of old.nodes) parts) middle_tree (tree_of old.nodes g) kept (inject_tree d g kept d_is))

    -- a middle behind it

    module _ (d : ℕ) (other : Kind) (others : List ℕ)
        (d_is : slice_get old.nodes d ≡ Some (MiddleNode other others)) where
      d_tree : tree_of old.nodes d ≡ Middle other (trees (tree_of old.nodes) others)
      d_tree = tree_is old.nodes d (MiddleNode other others) ordered.before d_is

      pub middled_other : same_kind kind other ≡ false
          → Id ≡ composition_of types (tree_of old.nodes c) (tree_of old.nodes d)
      middled_other apart =
          sym (middle_then_other types rows (tree_of old.nodes c) (tree_of old.nodes d) kind
          (trees (tree_of old.nodes) parts) middle_tree other (trees (tree_of old.nodes) others) d_tree apart)

      pub parts_fall : 137438953472 * parts_high types old.nodes parts others + 1
          < 137438953472 * pair_high types old.nodes c d + d + 2
      parts_fall =
          let hc = middle_high in
          let hd : high types old.nodes d ≡ suc (highest (height types) (trees (tree_of old.nodes) others)) =
          ap (coercion_height (height types)) d_tree in
          omega (arith, hc, hd)

      pub middled_middle : same_kind kind other ≡ true → (now : List Node) (es : List CoercionId)
          → trees (tree_of now) (coercion_places es)
          ≡ follow_parts (composition_of types) kind (trees (tree_of old.nodes) parts)
          (trees (tree_of old.nodes) others)
          → middle kind (trees (tree_of now) (coercion_places es))
          ≡ composition_of types (tree_of old.nodes c) (tree_of old.nodes d)
      middled_middle same now es made =
          ap (middle kind) made
          ∙ sym (middle_then_middle types rows (tree_of old.nodes c) (tree_of old.nodes d) kind
          (trees (tree_of old.nodes) parts) middle_tree other (trees (tree_of old.nodes) others) d_tree same)

      -- middles of one constructor have widths that it may have, and so has the less of both
      pub both_width : same_kind kind other ≡ true → (width : ℕ) → width ≡ min (length parts) (length others)
          → KindHasWidth kind width
      both_width same width e =
          widths kind other same (length parts) (length others) width e
          (ordered.widths c (MiddleNode kind parts) c_is) (ordered.widths d (MiddleNode other others) d_is)
        where
          widths : (k o : Kind) → same_kind k o ≡ true → (a b w : ℕ) → w ≡ min a b → KindHasWidth k a
              → KindHasWidth o b → KindHasWidth k w
          widths FunKind FunKind s a b w f ha hb =
              let a0 = ha.0 in let a1 = ha.1 in let b0 = hb.0 in let b1 = hb.1 in
              (omega (arith, a0, a1, b0, b1, f), omega (arith, a0, a1, b0, b1, f))
          widths TupKind TupKind s a b w f ha hb =
              let a0 = ha.0 in let a1 = ha.1 in let b0 = hb.0 in let b1 = hb.1 in
              (omega (arith, a0, a1, b0, b1, f), omega (arith, a0, a1, b0, b1, f))
          widths RefKind RefKind s a b w f ha hb = omega (arith, ha, hb, f)
          widths VecKind VecKind s a b w f ha hb = omega (arith, ha, hb, f)
          widths FunKind TupKind s a b w f ha hb = absurd (cc s)
          widths FunKind RefKind s a b w f ha hb = absurd (cc s)
          widths FunKind VecKind s a b w f ha hb = absurd (cc s)
          widths TupKind FunKind s a b w f ha hb = absurd (cc s)
          widths TupKind RefKind s a b w f ha hb = absurd (cc s)
          widths TupKind VecKind s a b w f ha hb = absurd (cc s)
          widths RefKind FunKind s a b w f ha hb = absurd (cc s)
          widths RefKind TupKind s a b w f ha hb = absurd (cc s)
          widths RefKind VecKind s a b w f ha hb = absurd (cc s)
          widths VecKind FunKind s a b w f ha hb = absurd (cc s)
          widths VecKind TupKind s a b w f ha hb = absurd (cc s)
          widths VecKind RefKind s a b w f ha hb = absurd (cc s)

  -- ---- Id or a fail first

  pub first_id : (c d : ℕ) → slice_get old.nodes c ≡ Some IdNode
      → tree_of old.nodes d ≡ composition_of types (tree_of old.nodes c) (tree_of old.nodes d)
  first_id c d e =
      sym (id_then types rows (tree_of old.nodes c) (tree_of old.nodes d) (tree_is old.nodes c IdNode ordered.before e))

  pub first_fail : (c d label : ℕ) → slice_get old.nodes c ≡ Some (FailNode label)
      → tree_of old.nodes c ≡ composition_of types (tree_of old.nodes c) (tree_of old.nodes d)
  first_fail c d label e =
      sym (fail_then types rows (tree_of old.nodes c) (tree_of old.nodes d) label
      (tree_is old.nodes c (FailNode label) ordered.before e))

  -- the composition of two coercions of the table is sound
  pub both_sound : (c d : ℕ) → c < length old.nodes → d < length old.nodes
      → IsSound types (composition_of types (tree_of old.nodes c) (tree_of old.nodes d))
  both_sound c d lc ld =
      composition_sound types rows (tree_of old.nodes c) (tree_of old.nodes d) (fits.sound c lc) (fits.sound d ld)
