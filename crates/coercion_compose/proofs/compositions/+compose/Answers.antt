use Rattle.std.proofs.Common.{◌≡◌, ◌⊎◌, inl, inr, ℕ, zero, suc, ◌+◌, ◌*◌, ◌<◌, min, Result, Ok, Err, List, []}
use Rattle.std.proofs.Common.{◌∷◌}
use Rattle.std.proofs.Common.{length, sym, ap, ap₂, ◌∙◌, subst, arith, slice_get, Some, true, refl}
use Rattle.std.specs.Prelude.{All, IfOk, OnOk}
use Rattle.std.proofs.lemmas.List.{length-map}
use Rattle.grift_base.specs.Types.{TypeRows}
use Rattle.grift_base.specs.declared.places.TypeId.{TypeId}
use Rattle.type_graph.specs.TypeTables.{IsOrderedTable}
use Rattle.coercion_norm.specs.declared.middles.MiddleKind.{MiddleKind}
use Rattle.coercion_norm.specs.declared.nodes.CoercionId.{CoercionId}
use Rattle.coercion_norm.specs.Coercions.{Id, same_kind}
use Rattle.coercion_norm.specs.Composition.{follow_parts, middle}
use Rattle.coercion_norm.specs.CoercionTables.{FitsTypes, IsSound, NodeTable, composition_of}
use Rattle.coercion_norm.specs.Nodes.{Node, MiddleNode, AreOrdered, IsTree, coercion_places, tree_of}
use Rattle.coercion_norm.specs.Nodes.{trees}
use Rattle.coercion_norm.proofs.Public.{made_more, made_there, more_nodes, more_places}
use Rattle.coercion_compose.specs.declared.heads.Head.{Head}
use Rattle.coercion_compose.specs.declared.heads.Head.TheVariants.{Middle, Inject}
use Rattle.coercion_compose.specs.Heads.{HasHead}
use Rattle.coercion_compose.proofs.BothParts.{both_made, part_of_both}
use Rattle.coercion_compose.proofs.KnownPairs.{ArePairs-insert, IsKnown-kept, composed_now}
use Rattle.coercion_compose.proofs.Measures.{pair_high, parts_high}
use Rattle.coercion_compose.proofs.PairSteps.{pair_falls, pair_made, pair_there}
use Rattle.coercion_compose.proofs.Steps.{before_falls, before_there, before_there_now, behind_falls}
use Rattle.coercion_compose.proofs.Steps.{behind_there, behind_there_now, between_falls, both_sound, both_width}
use Rattle.coercion_compose.proofs.Steps.{first_fail, first_id, inject_falls, inject_rank, injected_fail, injected_id}
use Rattle.coercion_compose.proofs.Steps.{injected_inject, injected_middle, kept_there, middle_parts_there}
use Rattle.coercion_compose.proofs.Steps.{middled_fail}
use Rattle.coercion_compose.proofs.Steps.{middled_id, middled_inject, middled_middle, middled_other, middled_project}
use Rattle.coercion_compose.proofs.Steps.{parts_fall, projected, through_dyn, wanted_there}
use Rattle.coercion_compose.proofs.compositions.+compose.Goals.{after_middle-After-as_slice-in-Middle-2}
use Rattle.coercion_compose.proofs.compositions.+compose.Goals as goal

-- what holds in any case holds where there is an answer
in_any_case : {A E P : Type 0} (r : Result A E) → P → OnOk r P
in_any_case (Ok a) h = h
in_any_case (Err e) h = tt

in_ok : {E : Type 0} (r : Result CoercionId E) (from to : ℕ → Type 0) → ((e : ℕ) → from e → to e)
    → IfOk r (λ e. from e.0) → IfOk r (λ e. to e.0)
in_ok (Ok e) from to f h = f e.0 h
in_ok (Err e) from to f h = tt

-- what holds of one holds of all of one
all_one : (P : ℕ → Type 0) (x : ℕ) → P x → All P (x ∷ [])
all_one P x h zero d l = h
all_one P x h (suc k) d l = absurd (omega arith)

-- ---- pairs that are known

pub compose_known-returns-in-Some-clause-made : goal.compose_known-returns-in-Some-clause-made
compose_known-returns-in-Some-clause-made t c =
    (c.requires.known.pairs c.args.pair c.in-Some.e
    (sym c.get.ensures.value ∙ sym c.copied.ensures ∙ c.in-Some.is)).made

pub compose_known-returns-clause-known : goal.compose_known-returns-clause-known
compose_known-returns-clause-known t c = record {
  casts = c.in_ok-e.ensures.known.casts;
  pairs = ArePairs-insert c.args.types.now c.compose_pair.new.table.nodes c.compose_pair.new.known.pairs
      c.insert.new.self c.args.pair c.in_ok-e.e c.in_ok-e.ensures.known.pairs
      (record {
        there =
            let more = more_places c.args.table.now.nodes c.compose_pair.new.table.nodes c.in_ok-e.ensures.grows in
            let first = c.requires.pair.first_there in
            let second = c.requires.pair.second_there in
            record { first_there = omega (arith, more, first); second_there = omega (arith, more, second) };
        made = composed_now c.args.types.now c.args.table.now.nodes c.compose_pair.new.table.nodes
            c.args.pair.first.0 c.args.pair.second.0 c.in_ok-e.e.0 c.len.ensures.nodes.ordered.before
            c.in_ok-e.ensures.grows c.requires.pair.first_there c.requires.pair.second_there c.in_ok-e.ensures.made;
      })
      c.in_ok-insert.ensures.updates.0;
}

-- ---- by the first of two

pub compose_pair-after_inject-requires : goal.compose_pair-after_inject-requires
compose_pair-after_inject-requires t c =
    let r = inject_rank c.args.types.now c.len.ensures.table c.args.table.now c.len-2.ensures.nodes.ordered
    c.requires.fits c.args.c.0 c.in-Inject.g.0 c.in-Inject.kept.0 c.in-Inject.ensures in (
      omega (arith, c.decreases, r),
      (c.requires.c, (c.requires.d, (c.in-Inject.ensures, (c.requires.fits, c.requires.known)))),
    )

pub compose_pair-compose_pair-requires : goal.compose_pair-compose_pair-requires
compose_pair-compose_pair-requires t c =
    let falls = behind_falls c.args.types.now c.len.ensures.table c.args.table.now c.len-2.ensures.nodes.ordered
    c.requires.fits c.args.c.0 c.in-Project.i.0 c.in-Project.wanted.0 c.in-Project.label.0 c.in-Project.ensures
    c.args.d.0 in (
      omega (arith, c.decreases, falls),
      (
        behind_there c.args.types.now c.len.ensures.table c.args.table.now c.len-2.ensures.nodes.ordered
            c.requires.fits c.args.c.0 c.in-Project.i.0 c.in-Project.wanted.0 c.in-Project.label.0
            c.in-Project.ensures,
        (c.requires.d, (c.requires.fits, c.requires.known)),
      ),
    )

pub compose_pair-intern_node-requires-clause-node : goal.compose_pair-intern_node-requires-clause-node
compose_pair-intern_node-requires-clause-node t c = record {
  parts = all_one (λ part. part < length c.compose_pair.new.table.nodes) c.final_part-last.result.0
      c.final_part-last.ensures.within;
  types_there = all_one (λ type. type < length c.args.types.now) c.in-Project.wanted.0
      (wanted_there c.args.types.now c.len.ensures.table c.args.table.now c.len-2.ensures.nodes.ordered
      c.requires.fits c.args.c.0 c.in-Project.i.0 c.in-Project.wanted.0 c.in-Project.label.0 c.in-Project.ensures);
  width = tt;
  sound = subst (IsSound c.args.types.now)
      (sym (projected c.args.types.now c.len.ensures.table c.args.table.now c.len-2.ensures.nodes.ordered
      c.requires.fits c.args.c.0 c.in-Project.i.0 c.in-Project.wanted.0 c.in-Project.label.0 c.in-Project.ensures
      c.compose_pair.new.table.nodes c.args.d.0 c.in_ok-rest-in-Project.rest.0 c.final_part-last.result.0
      c.in_ok-rest-in-Project.ensures.made c.final_part-last.ensures))
      (both_sound c.args.types.now c.len.ensures.table c.args.table.now c.len-2.ensures.nodes.ordered
      c.requires.fits c.args.c.0 c.args.d.0 c.requires.c c.requires.d);
}

pub compose_pair-returns-in-Id-clause-made : goal.compose_pair-returns-in-Id-clause-made
compose_pair-returns-in-Id-clause-made t c = record {
  within = c.requires.d;
  is = first_id c.args.types.now c.len.ensures.table c.args.table.now c.len-2.ensures.nodes.ordered c.requires.fits
      c.args.c.0 c.args.d.0 c.in-Id.ensures;
}

pub compose_pair-returns-in-Fail-clause-made : goal.compose_pair-returns-in-Fail-clause-made
compose_pair-returns-in-Fail-clause-made t c = record {
  within = c.requires.c;
  is = first_fail c.args.types.now c.len.ensures.table c.args.table.now c.len-2.ensures.nodes.ordered
      c.requires.fits c.args.c.0 c.args.d.0 c.in-Fail.field-0.0 c.in-Fail.ensures;
}

pub compose_pair-returns-in_ok-rest-in-Project-clause-made :
    goal.compose_pair-returns-in_ok-rest-in-Project-clause-made
compose_pair-returns-in_ok-rest-in-Project-clause-made t c =
    subst (λ x. IfOk c.intern_node.result (λ (r : CoercionId). IsTree c.intern_node.new.self.nodes r.0 x))
    (projected c.args.types.now c.len.ensures.table c.args.table.now c.len-2.ensures.nodes.ordered
    c.requires.fits c.args.c.0 c.in-Project.i.0 c.in-Project.wanted.0 c.in-Project.label.0 c.in-Project.ensures
    c.compose_pair.new.table.nodes c.args.d.0 c.in_ok-rest-in-Project.rest.0 c.final_part-last.result.0
    c.in_ok-rest-in-Project.ensures.made c.final_part-last.ensures) c.intern_node.ensures.tree

pub compose_pair-returns-in_ok-rest-in-Project-clause-known :
    goal.compose_pair-returns-in_ok-rest-in-Project-clause-known
compose_pair-returns-in_ok-rest-in-Project-clause-known t c =
    in_any_case c.intern_node.result
    (IsKnown-kept c.args.types.now c.compose_pair.new.table.nodes c.intern_node.new.self.nodes
    c.compose_pair.new.known c.len-in-Project.ensures.nodes.ordered.before c.intern_node.ensures.grows
    c.in_ok-rest-in-Project.ensures.known)

-- ---- an injection first

pub after_inject-coerce_known-requires-clause-cast : goal.after_inject-coerce_known-requires-clause-cast
after_inject-coerce_known-requires-clause-cast t c = record {
  from_there = kept_there c.args.types.now c.len.ensures.table c.args.table.now c.len-2.ensures.nodes.ordered
      c.requires.fits c.args.c.0 c.args.g.0 c.args.kept.0 c.requires.inject;
  to_there = wanted_there c.args.types.now c.len.ensures.table c.args.table.now c.len-2.ensures.nodes.ordered
      c.requires.fits c.args.d.0 c.in-Project.i.0 c.in-Project.wanted.0 c.in-Project.label.0 c.in-Project.ensures;
}

pub after_inject-compose_pair-requires : goal.after_inject-compose_pair-requires
after_inject-compose_pair-requires t c =
    let falls = between_falls c.args.types.now c.len.ensures.table c.args.table.now c.len-2.ensures.nodes.ordered
    c.requires.fits c.args.c.0 c.args.g.0 c.args.kept.0 c.requires.inject c.args.d.0 c.in-Project.i.0
    c.in-Project.wanted.0 c.in-Project.label.0 c.in-Project.ensures c.coerce_known.new.table.nodes
    c.in_ok-between-in-Project.between.0 c.in_ok-between-in-Project.ensures.grows
    c.in_ok-between-in-Project.ensures.made in (
      omega (arith, c.decreases, falls),
      (
        c.in_ok-between-in-Project.ensures.made.within,
        (
          behind_there_now c.args.types.now c.len.ensures.table c.args.table.now c.len-2.ensures.nodes.ordered
              c.requires.fits c.args.c.0 c.args.g.0 c.args.kept.0 c.requires.inject c.args.d.0 c.in-Project.i.0
              c.in-Project.wanted.0 c.in-Project.label.0 c.in-Project.ensures c.coerce_known.new.table.nodes
              c.in_ok-between-in-Project.between.0 c.in_ok-between-in-Project.ensures.grows
              c.in_ok-between-in-Project.ensures.made,
          (
            c.in_ok-between-in-Project.ensures.fits,
            record {
              casts = c.in_ok-between-in-Project.ensures.known;
              pairs = (IsKnown-kept c.args.types.now c.args.table.now.nodes c.coerce_known.new.table.nodes
                  c.args.known.now c.len-2.ensures.nodes.ordered.before c.in_ok-between-in-Project.ensures.grows
                  c.requires.known).pairs;
            },
          ),
        ),
      ),
    )

pub after_inject-compose_pair-requires-in-Project : goal.after_inject-compose_pair-requires-in-Project
after_inject-compose_pair-requires-in-Project t c =
    let later = more_nodes c.args.table.now.nodes c.coerce_known.new.table.nodes c.compose_pair.new.table.nodes
    c.in_ok-between-in-Project.ensures.grows c.in_ok-rest-in-Project.ensures.grows in
    let falls = before_falls c.args.types.now c.len.ensures.table c.args.table.now c.len-2.ensures.nodes.ordered
    c.requires.fits c.args.c.0 c.args.g.0 c.args.kept.0 c.requires.inject c.args.d.0 c.in-Project.i.0
    c.in-Project.wanted.0 c.in-Project.label.0 c.in-Project.ensures c.coerce_known.new.table.nodes
    c.in_ok-between-in-Project.between.0 c.in_ok-between-in-Project.ensures.grows
    c.in_ok-between-in-Project.ensures.made c.compose_pair.new.table.nodes c.in_ok-rest-in-Project.rest.0 later
    c.in_ok-rest-in-Project.ensures.made in (
      omega (arith, c.decreases, falls),
      (
        before_there_now c.args.types.now c.len.ensures.table c.args.table.now c.len-2.ensures.nodes.ordered
            c.requires.fits c.args.c.0 c.args.g.0 c.args.kept.0 c.requires.inject c.args.d.0 c.in-Project.i.0
            c.in-Project.wanted.0 c.in-Project.label.0 c.in-Project.ensures c.coerce_known.new.table.nodes
            c.in_ok-between-in-Project.between.0 c.in_ok-between-in-Project.ensures.grows
            c.in_ok-between-in-Project.ensures.made c.compose_pair.new.table.nodes c.in_ok-rest-in-Project.rest.0
            later c.in_ok-rest-in-Project.ensures.made,
        (
          c.in_ok-rest-in-Project.ensures.made.within,
          (c.in_ok-rest-in-Project.ensures.fits, c.in_ok-rest-in-Project.ensures.known),
        ),
      ),
    )

pub after_inject-returns-in-Id-clause-made : goal.after_inject-returns-in-Id-clause-made
after_inject-returns-in-Id-clause-made t c = record {
  within = c.requires.c;
  is = injected_id c.args.types.now c.len.ensures.table c.args.table.now c.len-2.ensures.nodes.ordered
      c.requires.fits c.args.c.0 c.args.g.0 c.args.kept.0 c.requires.inject c.args.d.0 c.in-Id.ensures;
}

pub after_inject-returns-in-Fail-clause-made : goal.after_inject-returns-in-Fail-clause-made
after_inject-returns-in-Fail-clause-made t c = record {
  within = c.requires.d;
  is = injected_fail c.args.types.now c.len.ensures.table c.args.table.now c.len-2.ensures.nodes.ordered
      c.requires.fits c.args.c.0 c.args.g.0 c.args.kept.0 c.requires.inject c.args.d.0 c.in-Fail.field-0.0
      c.in-Fail.ensures;
}

-- a middle or an injection behind an injection
never_met : (types : TypeRows) (rows : IsOrderedTable types) (old : NodeTable) (ordered : AreOrdered old.nodes)
    (fits : FitsTypes types old) (c g kept : ℕ) → HasHead old.nodes c (Inject (record { 0 = g }) (record { 0 = kept }))
    → (d : ℕ) (h : Head) → HasHead old.nodes d h
    → ((kind : MiddleKind) × (h ≡ Middle kind)) ⊎ ((x : CoercionId) × (y : TypeId) × (h ≡ Inject x y))
    → Id ≡ composition_of types (tree_of old.nodes c) (tree_of old.nodes d)
never_met types rows old ordered fits c g kept c_is d h d_is (inl is) =
    let e = subst (HasHead old.nodes d) is.1 d_is in
    injected_middle types rows old ordered fits c g kept c_is d is.0 e.0 e.1
never_met types rows old ordered fits c g kept c_is d h d_is (inr is) =
    injected_inject types rows old ordered fits c g kept c_is d is.0.0 is.1.0
    (subst (HasHead old.nodes d) is.2 d_is)

pub after_inject-returns-in-Middle-clause-made : goal.after_inject-returns-in-Middle-clause-made
after_inject-returns-in-Middle-clause-made t c =
    subst (IsTree c.args.table.now.nodes c.id.result.0)
    (never_met c.args.types.now c.len.ensures.table c.args.table.now c.len-2.ensures.nodes.ordered
    c.requires.fits c.args.c.0 c.args.g.0 c.args.kept.0 c.requires.inject c.args.d.0 c.head_of.result
    c.head_of.ensures c.in-Middle.is) c.id.ensures

pub after_inject-returns-in_ok-rest-in-Project-clause-made :
    goal.after_inject-returns-in_ok-rest-in-Project-clause-made
after_inject-returns-in_ok-rest-in-Project-clause-made t c =
    let later = more_nodes c.args.table.now.nodes c.coerce_known.new.table.nodes c.compose_pair.new.table.nodes
    c.in_ok-between-in-Project.ensures.grows c.in_ok-rest-in-Project.ensures.grows in
    in_ok c.compose_pair-in-Project.result
    (λ e. IsTree c.compose_pair-in-Project.new.table.nodes e (composition_of c.args.types.now
    (tree_of c.compose_pair.new.table.nodes c.args.g.0)
    (tree_of c.compose_pair.new.table.nodes c.in_ok-rest-in-Project.rest.0)))
    (λ e. IsTree c.compose_pair-in-Project.new.table.nodes e (composition_of c.args.types.now
    (tree_of c.args.table.now.nodes c.args.c.0) (tree_of c.args.table.now.nodes c.args.d.0)))
    (λ e is. through_dyn c.args.types.now c.len.ensures.table c.args.table.now c.len-2.ensures.nodes.ordered
    c.requires.fits c.args.c.0 c.args.g.0 c.args.kept.0 c.requires.inject c.args.d.0 c.in-Project.i.0
    c.in-Project.wanted.0 c.in-Project.label.0 c.in-Project.ensures c.coerce_known.new.table.nodes
    c.in_ok-between-in-Project.between.0 c.in_ok-between-in-Project.ensures.grows
    c.in_ok-between-in-Project.ensures.made c.compose_pair.new.table.nodes c.in_ok-rest-in-Project.rest.0 later
    c.in_ok-rest-in-Project.ensures.made c.compose_pair-in-Project.new.table.nodes e is)
    c.compose_pair-in-Project.ensures.made

-- ---- a middle first

pub after_middle-after_middle-requires : goal.after_middle-after_middle-requires
after_middle-after_middle-requires t c =
    let falls = inject_falls c.args.types.now c.len.ensures.table c.args.table.now c.len-2.ensures.nodes.ordered
    c.requires.fits c.args.c.0 c.args.kind c.requires.middle.0 c.requires.middle.1 c.args.d.0 c.in-Inject.g.0
    c.in-Inject.kept.0 c.in-Inject.ensures in (
      omega (arith, c.decreases, falls),
      (
        c.requires.c,
        (
          before_there c.args.types.now c.len.ensures.table c.args.table.now c.len-2.ensures.nodes.ordered
              c.requires.fits c.args.d.0 c.in-Inject.g.0 c.in-Inject.kept.0 c.in-Inject.ensures,
          (c.requires.middle, (c.requires.fits, c.requires.known)),
        ),
      ),
    )

pub after_middle-intern_node-requires-clause-node : goal.after_middle-intern_node-requires-clause-node
after_middle-intern_node-requires-clause-node t c = record {
  parts = all_one (λ part. part < length c.after_middle.new.table.nodes) c.in_ok-before-in-Inject.before.0
      c.in_ok-before-in-Inject.ensures.made.within;
  types_there = all_one (λ type. type < length c.args.types.now) c.in-Inject.kept.0
      (kept_there c.args.types.now c.len.ensures.table c.args.table.now c.len-2.ensures.nodes.ordered
      c.requires.fits c.args.d.0 c.in-Inject.g.0 c.in-Inject.kept.0 c.in-Inject.ensures);
  width = tt;
  sound = subst (IsSound c.args.types.now)
      (sym (middled_inject c.args.types.now c.len.ensures.table c.args.table.now c.len-2.ensures.nodes.ordered
      c.requires.fits c.args.c.0 c.args.kind c.requires.middle.0 c.requires.middle.1 c.args.d.0 c.in-Inject.g.0
      c.in-Inject.kept.0 c.in-Inject.ensures c.after_middle.new.table.nodes c.in_ok-before-in-Inject.before.0
      c.in_ok-before-in-Inject.ensures.made))
      (both_sound c.args.types.now c.len.ensures.table c.args.table.now c.len-2.ensures.nodes.ordered
      c.requires.fits c.args.c.0 c.args.d.0 c.requires.c c.requires.d);
}

pub after_middle-returns-in_ok-before-in-Inject-clause-made :
    goal.after_middle-returns-in_ok-before-in-Inject-clause-made
after_middle-returns-in_ok-before-in-Inject-clause-made t c =
    subst (λ x. IfOk c.intern_node.result (λ (r : CoercionId). IsTree c.intern_node.new.self.nodes r.0 x))
    (middled_inject c.args.types.now c.len.ensures.table c.args.table.now c.len-2.ensures.nodes.ordered
    c.requires.fits c.args.c.0 c.args.kind c.requires.middle.0 c.requires.middle.1 c.args.d.0 c.in-Inject.g.0
    c.in-Inject.kept.0 c.in-Inject.ensures c.after_middle.new.table.nodes c.in_ok-before-in-Inject.before.0
    c.in_ok-before-in-Inject.ensures.made) c.intern_node.ensures.tree

pub after_middle-returns-in_ok-before-in-Inject-clause-known :
    goal.after_middle-returns-in_ok-before-in-Inject-clause-known
after_middle-returns-in_ok-before-in-Inject-clause-known t c =
    in_any_case c.intern_node.result
    (IsKnown-kept c.args.types.now c.after_middle.new.table.nodes c.intern_node.new.self.nodes
    c.after_middle.new.known c.len-in-Inject.ensures.nodes.ordered.before c.intern_node.ensures.grows
    c.in_ok-before-in-Inject.ensures.known)

pub after_middle-returns-in-Id-clause-made : goal.after_middle-returns-in-Id-clause-made
after_middle-returns-in-Id-clause-made t c = record {
  within = c.requires.c;
  is = middled_id c.args.types.now c.len.ensures.table c.args.table.now c.len-2.ensures.nodes.ordered
      c.requires.fits c.args.c.0 c.args.kind c.requires.middle.0 c.requires.middle.1 c.args.d.0 c.in-Id.ensures;
}

pub after_middle-returns-in-Fail-clause-made : goal.after_middle-returns-in-Fail-clause-made
after_middle-returns-in-Fail-clause-made t c = record {
  within = c.requires.d;
  is = middled_fail c.args.types.now c.len.ensures.table c.args.table.now c.len-2.ensures.nodes.ordered
      c.requires.fits c.args.c.0 c.args.kind c.requires.middle.0 c.requires.middle.1 c.args.d.0
      c.in-Fail.field-0.0 c.in-Fail.ensures;
}

pub after_middle-returns-in-Project-clause-made : goal.after_middle-returns-in-Project-clause-made
after_middle-returns-in-Project-clause-made t c =
    subst (IsTree c.args.table.now.nodes c.id.result.0)
    (middled_project c.args.types.now c.len.ensures.table c.args.table.now c.len-2.ensures.nodes.ordered
    c.requires.fits c.args.c.0 c.args.kind c.requires.middle.0 c.requires.middle.1 c.args.d.0
    c.in-Project.field-0.0 c.in-Project.field-1.0 c.in-Project.field-2.0 c.in-Project.ensures) c.id.ensures

pub after_middle-returns-then-not-same_kind-clause-made : goal.after_middle-returns-then-not-same_kind-clause-made
after_middle-returns-then-not-same_kind-clause-made t c =
    subst (IsTree c.args.table.now.nodes c.id-then-not-same_kind.result.0)
    (middled_other c.args.types.now c.len.ensures.table c.args.table.now c.len-2.ensures.nodes.ordered
    c.requires.fits c.args.c.0 c.args.kind c.requires.middle.0 c.requires.middle.1 c.args.d.0 c.in-Middle.other
    (c.in-Middle.ensures).0 (c.in-Middle.ensures).1 (sym c.same_kind.ensures ∙ c.if-not-same_kind.true))
    c.id-then-not-same_kind.ensures

pub after_middle-compose_parts-requires : goal.after_middle-compose_parts-requires
after_middle-compose_parts-requires t c =
    let first : coercion_places c.as_slice.result.now ≡ c.requires.middle.0 =
    ap coercion_places c.as_slice.ensures.value
    ∙ c.in_ok-firsts-in-Middle.ensures c.args.kind c.requires.middle.0 c.requires.middle.1 in
    let second : coercion_places c.as_slice-in-Middle.result.now ≡ c.in-Middle.ensures.0 =
    ap coercion_places c.as_slice-in-Middle.ensures.value
    ∙ c.in_ok-seconds-in-Middle.ensures c.in-Middle.other c.in-Middle.ensures.0 c.in-Middle.ensures.1 in
    let falls = subst (λ xs. 137438953472 * parts_high c.args.types.now c.args.table.now.nodes
    (coercion_places c.as_slice.result.now) xs + 1
    < 137438953472 * pair_high c.args.types.now c.args.table.now.nodes c.args.c.0 c.args.d.0 + c.args.d.0 + 2)
    (sym second)
    (subst (λ xs. 137438953472 * parts_high c.args.types.now c.args.table.now.nodes xs c.in-Middle.ensures.0 + 1
    < 137438953472 * pair_high c.args.types.now c.args.table.now.nodes c.args.c.0 c.args.d.0 + c.args.d.0 + 2)
    (sym first)
    (parts_fall c.args.types.now c.len.ensures.table c.args.table.now c.len-2.ensures.nodes.ordered
    c.requires.fits c.args.c.0 c.args.kind c.requires.middle.0 c.requires.middle.1 c.args.d.0 c.in-Middle.other
    c.in-Middle.ensures.0 c.in-Middle.ensures.1)) in (
      omega (arith, c.decreases, falls),
      (
        subst (All (λ part. part < length c.args.table.now.nodes)) (sym first)
            (middle_parts_there c.args.types.now c.len.ensures.table c.args.table.now
            c.len-2.ensures.nodes.ordered c.requires.fits c.args.c.0 c.args.kind c.requires.middle.0
            c.requires.middle.1),
        (
          subst (All (λ part. part < length c.args.table.now.nodes)) (sym second)
              (middle_parts_there c.args.types.now c.len.ensures.table c.args.table.now
              c.len-2.ensures.nodes.ordered c.requires.fits c.args.d.0 c.in-Middle.other c.in-Middle.ensures.0
              c.in-Middle.ensures.1),
          (c.requires.fits, c.requires.known),
        ),
      ),
    )

pub after_middle-intern_middle-requires-clause-width : goal.after_middle-intern_middle-requires-clause-width
after_middle-intern_middle-requires-clause-width t c =
    let first : coercion_places c.as_slice.result.now ≡ c.requires.middle.0 =
    ap coercion_places c.as_slice.ensures.value
    ∙ c.in_ok-firsts-in-Middle.ensures c.args.kind c.requires.middle.0 c.requires.middle.1 in
    let second : coercion_places c.as_slice-in-Middle.result.now ≡ c.in-Middle.ensures.0 =
    ap coercion_places c.as_slice-in-Middle.ensures.value
    ∙ c.in_ok-seconds-in-Middle.ensures c.in-Middle.other c.in-Middle.ensures.0 c.in-Middle.ensures.1 in
    let long : length c.as_slice-in-Middle-2.result.now
    ≡ min (length c.as_slice.result.now) (length c.as_slice-in-Middle.result.now) =
    ap (λ (cs : List CoercionId). length cs) c.as_slice-in-Middle-2.ensures.value
    ∙ c.in_ok-parts-in-Middle.ensures.width in
    let firsts_long = sym (length-map c.as_slice.result.now (λ (x : CoercionId). x.0))
    ∙ ap (λ (xs : List ℕ). length xs) first in
    let seconds_long = sym (length-map c.as_slice-in-Middle.result.now (λ (x : CoercionId). x.0))
    ∙ ap (λ (xs : List ℕ). length xs) second in
    both_width c.args.types.now c.len.ensures.table c.args.table.now c.len-2.ensures.nodes.ordered
    c.requires.fits c.args.c.0 c.args.kind c.requires.middle.0 c.requires.middle.1 c.args.d.0 c.in-Middle.other
    c.in-Middle.ensures.0 c.in-Middle.ensures.1 (sym c.same_kind.ensures ∙ c.if-not-same_kind.false)
    (length c.as_slice-in-Middle-2.result.now) (long ∙ ap₂ min firsts_long seconds_long)

-- the middle of the parts is the composition
middle_is : (types : TypeRows) (rows : IsOrderedTable types) (old : NodeTable) (ordered : AreOrdered old.nodes)
    (fits : FitsTypes types old) (c d : ℕ) (kind other : MiddleKind) (parts others : List ℕ)
    (c_is : slice_get old.nodes c ≡ Some (MiddleNode kind parts))
    (d_is : slice_get old.nodes d ≡ Some (MiddleNode other others)) (same : same_kind kind other ≡ true)
    (now : List Node) (firsts seconds items es : List CoercionId) (first : coercion_places firsts ≡ parts)
    (second : coercion_places seconds ≡ others) (made : trees (tree_of now) (coercion_places items)
    ≡ follow_parts (composition_of types) kind (trees (tree_of old.nodes) (coercion_places firsts))
    (trees (tree_of old.nodes) (coercion_places seconds))) (value : es ≡ items)
    → middle kind (trees (tree_of now) (coercion_places es))
    ≡ composition_of types (tree_of old.nodes c) (tree_of old.nodes d)
middle_is types rows old ordered fits c d kind other parts others c_is d_is same now firsts seconds items es first
    second made value =
    middled_middle types rows old ordered fits c kind parts c_is d other others d_is same now es
    (ap (λ (xs : List CoercionId). trees (tree_of now) (coercion_places xs)) value ∙ made
    ∙ ap₂ (λ xs ys. follow_parts (composition_of types) kind (trees (tree_of old.nodes) xs)
    (trees (tree_of old.nodes) ys)) first second)

middle_made : (t : ℕ) (c : after_middle-After-as_slice-in-Middle-2 t)
    → middle c.args.kind (trees (tree_of c.compose_parts.new.table.nodes) (coercion_places
    c.as_slice-in-Middle-2.result.now))
    ≡ composition_of c.args.types.now (tree_of c.args.table.now.nodes c.args.c.0)
    (tree_of c.args.table.now.nodes c.args.d.0)
middle_made t c =
    middle_is c.args.types.now c.len.ensures.table c.args.table.now c.len-2.ensures.nodes.ordered
    c.requires.fits c.args.c.0 c.args.d.0 c.args.kind c.in-Middle.other c.requires.middle.0 c.in-Middle.ensures.0
    c.requires.middle.1 c.in-Middle.ensures.1 (sym c.same_kind.ensures ∙ c.if-not-same_kind.false)
    c.compose_parts.new.table.nodes c.as_slice.result.now c.as_slice-in-Middle.result.now
    c.in_ok-parts-in-Middle.parts.items c.as_slice-in-Middle-2.result.now
    (ap coercion_places c.as_slice.ensures.value
    ∙ c.in_ok-firsts-in-Middle.ensures c.args.kind c.requires.middle.0 c.requires.middle.1)
    (ap coercion_places c.as_slice-in-Middle.ensures.value
    ∙ c.in_ok-seconds-in-Middle.ensures c.in-Middle.other c.in-Middle.ensures.0 c.in-Middle.ensures.1)
    c.in_ok-parts-in-Middle.ensures.made c.as_slice-in-Middle-2.ensures.value

pub after_middle-intern_middle-requires-clause-sound : goal.after_middle-intern_middle-requires-clause-sound
after_middle-intern_middle-requires-clause-sound t c =
    subst (IsSound c.args.types.now)
    (sym (middle_made t
    (goal.at.after_middle-intern_middle-requires-clause-sound t c).After-as_slice-in-Middle-2))
    (both_sound c.args.types.now c.len.ensures.table c.args.table.now c.len-2.ensures.nodes.ordered
    c.requires.fits c.args.c.0 c.args.d.0 c.requires.c c.requires.d)

pub after_middle-returns-in_ok-parts-in-Middle-clause-made :
    goal.after_middle-returns-in_ok-parts-in-Middle-clause-made
after_middle-returns-in_ok-parts-in-Middle-clause-made t c =
    subst (λ x. IfOk c.intern_middle.result (λ (r : CoercionId). IsTree c.intern_middle.new.self.nodes r.0 x))
    (middle_made t
    (goal.at.after_middle-returns-in_ok-parts-in-Middle-clause-made t c).After-as_slice-in-Middle-2)
    c.intern_middle.ensures.made

pub after_middle-returns-in_ok-parts-in-Middle-clause-known :
    goal.after_middle-returns-in_ok-parts-in-Middle-clause-known
after_middle-returns-in_ok-parts-in-Middle-clause-known t c =
    in_any_case c.intern_middle.result
    (IsKnown-kept c.args.types.now c.compose_parts.new.table.nodes c.intern_middle.new.self.nodes
    c.compose_parts.new.known c.len-in-Middle.ensures.nodes.ordered.before c.intern_middle.ensures.grows
    c.in_ok-parts-in-Middle.ensures.known)

-- ---- parts

pub compose_parts-compose_known-requires : goal.compose_parts-compose_known-requires
compose_parts-compose_known-requires t c =
    let below = c.loop-j-test.true in
    let count = c.min-count.ensures in
    let first_in : c.loop-j.j < length c.args.firsts.now = omega (arith, below, count) in
    let second_in : c.loop-j.j < length c.args.seconds.now = omega (arith, below, count) in
    let falls = pair_falls c.args.types.now c.args.table.now.nodes c.loop-j.table.nodes
    c.len.ensures.nodes.ordered.before c.loop-j.invariant.grows c.args.firsts.now c.args.seconds.now c.loop-j.j
    first_in second_in c.requires.firsts c.requires.seconds _ _ c.runs_back-back.result c.part_pair-pair.result
    c.part_pair-pair.ensures in (
      omega (arith, c.decreases, falls),
      (
        pair_there c.args.types.now c.args.table.now.nodes c.loop-j.table.nodes
            c.len.ensures.nodes.ordered.before c.loop-j.invariant.grows c.args.firsts.now c.args.seconds.now
            c.loop-j.j first_in second_in c.requires.firsts c.requires.seconds _ _ c.runs_back-back.result
            c.part_pair-pair.result c.part_pair-pair.ensures,
        (c.loop-j.invariant.fits, c.loop-j.invariant.known),
      ),
    )

pub compose_parts-returns-in_err-push-clause-grows : goal.compose_parts-returns-in_err-push-clause-grows
compose_parts-returns-in_err-push-clause-grows t c =
    more_nodes c.args.table.now.nodes c.loop-j.table.nodes c.compose_known.new.table.nodes c.loop-j.invariant.grows
    c.in_ok-e.ensures.grows

pub compose_parts-loop-j-preserved : goal.compose_parts-loop-j-preserved
compose_parts-loop-j-preserved t c =
    let below = c.loop-j-test.true in
    let count = c.min-count.ensures in
    let first_in : c.loop-j.j < length c.args.firsts.now = omega (arith, below, count) in
    let second_in : c.loop-j.j < length c.args.seconds.now = omega (arith, below, count) in
    record {
      width_is = c.loop-j.invariant.width_is;
      count_is = c.loop-j.invariant.count_is;
      grows = more_nodes c.args.table.now.nodes c.loop-j.table.nodes c.compose_known.new.table.nodes
          c.loop-j.invariant.grows c.in_ok-e.ensures.grows;
      fits = c.in_ok-e.ensures.fits;
      known = c.in_ok-e.ensures.known;
      made = made_more c.loop-j.table.nodes c.compose_known.new.table.nodes c.loop-j.parts.items c.push.new.parts.items
          c.in_ok-e.e c.loop-j.j
          (part_of_both (composition_of c.args.types.now) c.args.kind (tree_of c.args.table.now.nodes)
          (coercion_places c.args.firsts.now) (coercion_places c.args.seconds.now) (length c.args.firsts.now))
          c.len-in-loop-j.ensures.nodes.ordered.before c.in_ok-e.ensures.grows c.in_ok-push.ensures
          c.loop-j.invariant.made
          (pair_made c.args.types.now c.args.table.now.nodes c.loop-j.table.nodes
          c.len.ensures.nodes.ordered.before c.loop-j.invariant.grows c.args.firsts.now c.args.seconds.now
          c.loop-j.j first_in second_in c.requires.firsts c.requires.seconds _ _ c.args.kind
          (length c.args.firsts.now) c.runs_back-back.result c.part_pair-pair.result
          c.compose_known.new.table.nodes c.in_ok-e.e.0 c.runs_back-back.ensures c.part_pair-pair.ensures
          c.in_ok-e.ensures.made);
    }

pub compose_parts-returns-clause-there : goal.compose_parts-returns-clause-there
compose_parts-returns-clause-there t c =
    made_there c.loop-j.table.nodes c.loop-j.parts.items c.loop-j.j
    (part_of_both (composition_of c.args.types.now) c.args.kind (tree_of c.args.table.now.nodes)
    (coercion_places c.args.firsts.now) (coercion_places c.args.seconds.now) (length c.args.firsts.now))
    c.loop-j.invariant.made

pub compose_parts-returns-clause-made : goal.compose_parts-returns-clause-made
compose_parts-returns-clause-made t c =
    let past = c.loop-j-test.false in
    let most = c.loop-j.auto.j-end in
    let count = c.min-count.ensures in
    let end : c.loop-j.j ≡ min (length c.args.firsts.now) (length c.args.seconds.now) =
    omega (arith, past, most, count) in
    both_made (composition_of c.args.types.now) c.args.kind c.loop-j.table.nodes (tree_of c.args.table.now.nodes)
    c.args.firsts.now c.args.seconds.now c.loop-j.parts.items (length c.args.firsts.now) c.loop-j.j refl end
    c.loop-j.invariant.made

-- ---- the table grows

pub compose_parts-returns-in_err-e-clause-grows : goal.compose_parts-returns-in_err-e-clause-grows
compose_parts-returns-in_err-e-clause-grows t c =
    more_nodes c.args.table.now.nodes c.loop-j.table.nodes c.compose_known.new.table.nodes c.loop-j.invariant.grows
    c.compose_known.ensures.grows

pub after_inject-returns-in_err-rest-in-Project-clause-grows :
    goal.after_inject-returns-in_err-rest-in-Project-clause-grows
after_inject-returns-in_err-rest-in-Project-clause-grows t c =
    more_nodes c.args.table.now.nodes c.coerce_known.new.table.nodes c.compose_pair.new.table.nodes
    c.in_ok-between-in-Project.ensures.grows c.compose_pair.ensures.grows

pub after_inject-returns-in_ok-rest-in-Project-clause-grows :
    goal.after_inject-returns-in_ok-rest-in-Project-clause-grows
after_inject-returns-in_ok-rest-in-Project-clause-grows t c =
    more_nodes c.args.table.now.nodes c.compose_pair.new.table.nodes c.compose_pair-in-Project.new.table.nodes
    (more_nodes c.args.table.now.nodes c.coerce_known.new.table.nodes c.compose_pair.new.table.nodes
    c.in_ok-between-in-Project.ensures.grows c.in_ok-rest-in-Project.ensures.grows)
    c.compose_pair-in-Project.ensures.grows

pub compose_pair-returns-in_ok-rest-in-Project-clause-grows :
    goal.compose_pair-returns-in_ok-rest-in-Project-clause-grows
compose_pair-returns-in_ok-rest-in-Project-clause-grows t c =
    more_nodes c.args.table.now.nodes c.compose_pair.new.table.nodes c.intern_node.new.self.nodes
    c.in_ok-rest-in-Project.ensures.grows c.intern_node.ensures.grows

pub after_middle-returns-in_ok-before-in-Inject-clause-grows :
    goal.after_middle-returns-in_ok-before-in-Inject-clause-grows
after_middle-returns-in_ok-before-in-Inject-clause-grows t c =
    more_nodes c.args.table.now.nodes c.after_middle.new.table.nodes c.intern_node.new.self.nodes
    c.in_ok-before-in-Inject.ensures.grows c.intern_node.ensures.grows

pub after_middle-returns-in_ok-parts-in-Middle-clause-grows :
    goal.after_middle-returns-in_ok-parts-in-Middle-clause-grows
after_middle-returns-in_ok-parts-in-Middle-clause-grows t c =
    more_nodes c.args.table.now.nodes c.compose_parts.new.table.nodes c.intern_middle.new.self.nodes
    c.in_ok-parts-in-Middle.ensures.grows c.intern_middle.ensures.grows
