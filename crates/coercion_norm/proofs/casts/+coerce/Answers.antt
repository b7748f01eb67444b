use Rattle.std.proofs.Common.{◌≡◌, ℕ, zero, suc, ◌+◌, ◌<◌, ◌≤◌, Bool, Result, Ok, Err, List, length}
use Rattle.std.proofs.Common.{None, Some, sym, ap, ap₂, ◌∙◌, subst, arith}
use Rattle.std.specs.Prelude.{All, IfOk, OnOk, slice_index, [], ◌∷◌}
use Rattle.grift_base.specs.Types.{TypeRow, TypeRows, row_at, is_dyn, same_head}
use Rattle.type_graph.specs.Rows.{row_of}
use Rattle.type_graph.specs.Trees.{height}
use Rattle.type_graph.specs.TypeTables.{IsOrderedTable}
use Rattle.coercion_norm.specs.declared.nodes.CoercionId.{CoercionId}
use Rattle.coercion_norm.specs.declared.casts.Cast.{Cast}
use Rattle.coercion_norm.specs.Coercions.{Coercion, Inject, Project, slots, slots_of, slot, rows_of, kind_of}
use Rattle.coercion_norm.specs.Nodes.{KindHasWidth, IsTree, Node, NodeHasWidth, grown, node_parts, node_types, tree_of}
use Rattle.coercion_norm.specs.CoercionTables.{IsCast, IsSound, MayBeNode, cast_of}
use Rattle.coercion_norm.proofs.NodeLemmas.{same_nodes, more_nodes}
use Rattle.coercion_norm.proofs.MadeParts.{part_tree, made_none, made_more, made_there, made_all, part_made}
use Rattle.coercion_norm.proofs.CastLemmas.{row_is, narrow, kind_width, widths_agree, cast_is_middle, cast_sound}
use Rattle.coercion_norm.proofs.CastLemmas.{cast_both_dyn, cast_from_dyn, cast_to_dyn, cast_same, cast_clash}
use Rattle.coercion_norm.proofs.CastLemmas.{cast_middle}
use Rattle.coercion_norm.proofs.CastLemmas.{part_cast_there, part_cast_falls, part_cast_is}
use Rattle.coercion_norm.proofs.KnownCasts.{AreCasts-kept, AreCasts-insert}
use Rattle.coercion_norm.proofs.casts.+coerce.Goals as goal

-- what holds in any case holds where there is an answer
in_any_case : {A E P : Type 0} (r : Result A E) → P → OnOk r P
in_any_case (Ok a) h = h
in_any_case (Err e) h = tt

-- anything holds of all of none, and all of one are below what it is below
all_none : (P : ℕ → Type 0) → All P []
all_none P k d l = absurd (omega arith)

one_below : {n x : ℕ} → x < n → All (λ k. k < n) (x ∷ [])
one_below h zero d l = h
one_below h (suc k) d l = absurd (omega arith)

-- whether a type is Dyn, as it was found by its row
dyn_told : (types : TypeRows) (type : ℕ) (row : TypeRow) {told known : Bool} → row_at types type ≡ Some row
    → told ≡ is_dyn row → told ≡ known → is_dyn (rows_of types type) ≡ known
dyn_told types type row at test is = ap is_dyn (row_is types type row at) ∙ (sym test ∙ is)

-- the node whose coercion is that of a cast may go into the table
node_of_cast : (types : TypeRows) (nodes : List Node) (node : Node) → IsOrderedTable types → (cast : Cast)
    → IsCast types cast → All (λ part. part < length nodes) (node_parts node)
    → All (λ type. type < length types) (node_types node) → NodeHasWidth node
    → cast_of types cast.from.0 cast.to.0 cast.label.0 ≡ grown (tree_of nodes) (Some node)
    → MayBeNode types nodes node
node_of_cast types nodes node table cast there parts types_there wide is = record {
  parts = parts;
  types_there = types_there;
  width = wide;
  sound = subst (IsSound types) is
      (cast_sound types table cast.from.0 cast.to.0 cast.label.0 there.from_there there.to_there);
}

pub coerce_known-returns-in-Some-clause-made : goal.coerce_known-returns-in-Some-clause-made
coerce_known-returns-in-Some-clause-made t c =
    c.requires.known c.args.cast c.in-Some.c (sym c.get.ensures.value ∙ sym c.copied.ensures ∙ c.in-Some.is)

pub coerce_known-returns-clause-known : goal.coerce_known-returns-clause-known
coerce_known-returns-clause-known t c =
    AreCasts-insert c.args.types.now c.coerce_rows.new.table.nodes c.coerce_rows.new.known c.insert.new.self c.args.cast
    c.in_ok-c.c c.in_ok-c.ensures.known c.in_ok-c.ensures.made c.in_ok-insert.ensures.updates.0

pub coerce_parts-slots-width-requires : goal.coerce_parts-slots-width-requires
coerce_parts-slots-width-requires t c =
    narrow (row_of c.row.result.now)
    (c.len.ensures.table.widths c.args.cast.from.0 (row_of c.row.result.now) c.row.ensures)

pub coerce_parts-loop-j-init : goal.coerce_parts-loop-j-init
coerce_parts-loop-j-init t c = record {
  width_is =
      c.slots-width.ensures
      ∙ sym (ap (λ (row : TypeRow). length (slots_of row))
      (row_is c.args.types.now c.args.cast.from.0 (row_of c.row.result.now) c.row.ensures));
  grows = same_nodes c.args.table.now.nodes;
  fits = c.requires.fits;
  known = c.requires.known;
  made = made_none c.args.table.now.nodes c.new-parts.result.items _ c.new-parts.ensures.items;
}

pub coerce_parts-slot-there-requires : goal.coerce_parts-slot-there-requires
coerce_parts-slot-there-requires t c =
    let below = c.loop-j-test.true in
    let width = c.loop-j.invariant.width_is in
    let same = c.requires.one_width in
    let there : c.loop-j.j < slots (rows_of c.args.types.now) c.args.cast.to.0 = omega (arith, below, width, same) in
    subst (λ (row : TypeRow). c.loop-j.j < length (slots_of row))
    (row_is c.args.types.now c.args.cast.to.0 (row_of c.row-in-loop-j-2.result.now) c.row-in-loop-j-2.ensures) there

pub coerce_parts-coerce_known-requires : goal.coerce_parts-coerce_known-requires
coerce_parts-coerce_known-requires t c =
    let types = c.args.types.now in
    let table = c.len.ensures.table in
    let from : ℕ = c.args.cast.from.0 in
    let to : ℕ = c.args.cast.to.0 in
    let below = c.loop-j-test.true in
    let width = c.loop-j.invariant.width_is in
    let same = c.requires.one_width in
    let from_below : c.loop-j.j < slots (rows_of c.args.types.now) c.args.cast.from.0 = omega (arith, below, width) in
    let to_below : c.loop-j.j < slots (rows_of c.args.types.now) c.args.cast.to.0 = omega (arith, below, width, same) in
    let here_is : c.slot-here.result.0 ≡ slot (rows_of c.args.types.now) c.loop-j.j c.args.cast.from.0 =
    c.slot-here.ensures ∙ sym (ap (λ (row : TypeRow). slice_index (slots_of row) c.loop-j.j)
    (row_is c.args.types.now c.args.cast.from.0 (row_of c.row-in-loop-j.result.now) c.row-in-loop-j.ensures)) in
    let there_is : c.slot-there.result.0 ≡ slot (rows_of c.args.types.now) c.loop-j.j c.args.cast.to.0 =
    c.slot-there.ensures ∙ sym (ap (λ (row : TypeRow). slice_index (slots_of row) c.loop-j.j)
    (row_is c.args.types.now c.args.cast.to.0 (row_of c.row-in-loop-j-2.result.now) c.row-in-loop-j-2.ensures)) in
    let falls : height c.args.types.now c.part_cast-part.result.from.0 +
    height c.args.types.now c.part_cast-part.result.to.0
    + 2 ≤ height c.args.types.now c.args.cast.from.0 + height c.args.types.now c.args.cast.to.0 =
    subst (λ (p : Cast). height c.args.types.now p.from.0 + height c.args.types.now p.to.0 + 2
    ≤ height c.args.types.now c.args.cast.from.0 + height c.args.types.now c.args.cast.to.0)
    (sym c.part_cast-part.ensures)
    (part_cast_falls types table from to c.loop-j.j from_below to_below c.slot-here.result c.slot-there.result
    c.args.cast.label here_is there_is c.runs_back.result) in (
      omega (arith, c.decreases, falls),
      (
        subst (λ (p : Cast). IsCast c.args.types.now p) (sym c.part_cast-part.ensures)
            (part_cast_there types table from to c.loop-j.j from_below to_below c.slot-here.result c.slot-there.result
            c.args.cast.label here_is there_is c.runs_back.result c.requires.cast.from_there c.requires.cast.to_there),
        (c.loop-j.invariant.fits, c.loop-j.invariant.known),
      ),
    )

pub coerce_parts-returns-in_err-push-clause-grows : goal.coerce_parts-returns-in_err-push-clause-grows
coerce_parts-returns-in_err-push-clause-grows t c =
    more_nodes c.args.table.now.nodes c.loop-j.table.nodes c.coerce_known.new.table.nodes c.loop-j.invariant.grows
    c.in_ok-c.ensures.grows

pub coerce_parts-loop-j-preserved : goal.coerce_parts-loop-j-preserved
coerce_parts-loop-j-preserved t c =
    let types = c.args.types.now in
    let here_is : c.slot-here.result.0 ≡ slot (rows_of c.args.types.now) c.loop-j.j c.args.cast.from.0 =
    c.slot-here.ensures ∙ sym (ap (λ (row : TypeRow). slice_index (slots_of row) c.loop-j.j)
    (row_is c.args.types.now c.args.cast.from.0 (row_of c.row-in-loop-j.result.now) c.row-in-loop-j.ensures)) in
    let there_is : c.slot-there.result.0 ≡ slot (rows_of c.args.types.now) c.loop-j.j c.args.cast.to.0 =
    c.slot-there.ensures ∙ sym (ap (λ (row : TypeRow). slice_index (slots_of row) c.loop-j.j)
    (row_is c.args.types.now c.args.cast.to.0 (row_of c.row-in-loop-j-2.result.now) c.row-in-loop-j-2.ensures)) in
    let is = subst (IsTree c.coerce_known.new.table.nodes c.in_ok-c.c.0)
    (ap (λ (p : Cast). cast_of c.args.types.now p.from.0 p.to.0 p.label.0) c.part_cast-part.ensures
    ∙ part_cast_is types c.runs_back.result c.slot-here.result c.slot-there.result c.args.cast.label)
    c.in_ok-c.ensures.made in
    record {
      width_is = c.loop-j.invariant.width_is;
      grows = more_nodes c.args.table.now.nodes c.loop-j.table.nodes c.coerce_known.new.table.nodes
          c.loop-j.invariant.grows c.in_ok-c.ensures.grows;
      fits = c.in_ok-c.ensures.fits;
      known = c.in_ok-c.ensures.known;
      made = made_more c.loop-j.table.nodes c.coerce_known.new.table.nodes c.loop-j.parts.items c.push.new.parts.items
          c.in_ok-c.c c.loop-j.j
          (part_tree (rows_of c.args.types.now) (cast_of c.args.types.now) c.args.kind c.args.cast.from.0
          c.args.cast.to.0 c.args.cast.label.0 c.slots-width.result)
          c.len-in-loop-j.ensures.nodes.ordered.before c.in_ok-c.ensures.grows c.in_ok-push.ensures
          c.loop-j.invariant.made
          (part_made (rows_of c.args.types.now) (cast_of c.args.types.now) c.args.kind c.args.cast.from.0
          c.args.cast.to.0 c.args.cast.label.0 c.slots-width.result c.loop-j.j c.coerce_known.new.table.nodes
          c.in_ok-c.c.0 c.runs_back.result c.slot-here.result.0 c.slot-there.result.0 c.runs_back.ensures here_is
          there_is is);
    }

pub coerce_parts-returns-clause-there : goal.coerce_parts-returns-clause-there
coerce_parts-returns-clause-there t c =
    made_there c.loop-j.table.nodes c.loop-j.parts.items c.loop-j.j
    (part_tree (rows_of c.args.types.now) (cast_of c.args.types.now) c.args.kind c.args.cast.from.0 c.args.cast.to.0
    c.args.cast.label.0 c.slots-width.result) c.loop-j.invariant.made

pub coerce_parts-returns-clause-made : goal.coerce_parts-returns-clause-made
coerce_parts-returns-clause-made t c =
    let past = c.loop-j-test.false in
    let most = c.loop-j.auto.j-end in
    let end : c.loop-j.j ≡ c.slots-width.result = omega arith in
    made_all (rows_of c.args.types.now) (cast_of c.args.types.now) c.args.kind c.args.cast.from.0 c.args.cast.to.0
    c.args.cast.label.0 c.slots-width.result (slots (rows_of c.args.types.now) c.args.cast.from.0) c.loop-j.j
    c.loop-j.table.nodes c.loop-j.parts.items c.loop-j.invariant.width_is end c.loop-j.invariant.made

pub coerce_solid-returns-then-not-same_head-clause-known : goal.coerce_solid-returns-then-not-same_head-clause-known
coerce_solid-returns-then-not-same_head-clause-known t c =
    in_any_case c.intern_node.result
    (AreCasts-kept c.args.types.now c.args.table.now.nodes c.intern_node.new.self.nodes c.args.known.now
    c.len-2.ensures.nodes.ordered.before c.intern_node.ensures.grows c.requires.known)

pub coerce_solid-coerce_parts-requires : goal.coerce_solid-coerce_parts-requires
coerce_solid-coerce_parts-requires t c = (
  omega (arith, c.decreases),
  (
    c.requires.cast,
    (
      widths_agree c.args.types.now c.len.ensures.table c.args.cast.from.0 c.args.cast.to.0
          (ap₂ same_head (row_is c.args.types.now c.args.cast.from.0 (row_of c.row-from.result.now) c.row-from.ensures)
          (row_is c.args.types.now c.args.cast.to.0 (row_of c.row.result.now) c.row.ensures)
          ∙ sym c.same_head.ensures ∙ c.if-not-same_head.false),
      (c.requires.fits, c.requires.known),
    ),
  ),
)

pub coerce_solid-intern_middle-requires-clause-width : goal.coerce_solid-intern_middle-requires-clause-width
coerce_solid-intern_middle-requires-clause-width t c =
    subst (KindHasWidth c.in-Some.kind)
    (sym (ap (λ (cs : List CoercionId). length cs) c.as_slice.ensures.value ∙ c.in_ok-parts-in-Some.ensures.width
    ∙ ap (λ (row : TypeRow). length (slots_of row))
    (row_is c.args.types.now c.args.cast.from.0 (row_of c.row-from.result.now) c.row-from.ensures)))
    (kind_width (row_of c.row-from.result.now) c.in-Some.kind
    (c.len.ensures.table.widths c.args.cast.from.0 (row_of c.row-from.result.now) c.row-from.ensures)
    (sym c.kind_of.ensures ∙ c.in-Some.is))

pub coerce_solid-intern_middle-requires-clause-sound : goal.coerce_solid-intern_middle-requires-clause-sound
coerce_solid-intern_middle-requires-clause-sound t c =
    subst (IsSound c.args.types.now) (cast_is_middle c.args.types.now c.len.ensures.table c.args.cast.from.0
    c.args.cast.to.0 c.args.cast.label.0
    (row_of c.row-from.result.now) (row_of c.row.result.now) c.in-Some.kind c.coerce_parts.new.table.nodes
    c.in_ok-parts-in-Some.parts.items c.as_slice.result.now c.requires.from_solid c.requires.to_solid
    c.row-from.ensures c.row.ensures (sym c.eq.ensures ∙ c.if-eq.false)
    (sym c.same_head.ensures ∙ c.if-not-same_head.false) (sym c.kind_of.ensures ∙ c.in-Some.is)
    c.in_ok-parts-in-Some.ensures.made c.as_slice.ensures.value)
    (cast_sound c.args.types.now c.len.ensures.table c.args.cast.from.0 c.args.cast.to.0 c.args.cast.label.0
    c.requires.cast.from_there c.requires.cast.to_there)

pub coerce_solid-returns-in_ok-parts-in-Some-clause-made : goal.coerce_solid-returns-in_ok-parts-in-Some-clause-made
coerce_solid-returns-in_ok-parts-in-Some-clause-made t c =
    subst (λ x. IfOk c.intern_middle.result (λ (r : CoercionId). IsTree c.intern_middle.new.self.nodes r.0 x))
    (sym (cast_is_middle c.args.types.now c.len.ensures.table c.args.cast.from.0 c.args.cast.to.0 c.args.cast.label.0
    (row_of c.row-from.result.now) (row_of c.row.result.now) c.in-Some.kind c.coerce_parts.new.table.nodes
    c.in_ok-parts-in-Some.parts.items c.as_slice.result.now c.requires.from_solid c.requires.to_solid
    c.row-from.ensures c.row.ensures (sym c.eq.ensures ∙ c.if-eq.false)
    (sym c.same_head.ensures ∙ c.if-not-same_head.false) (sym c.kind_of.ensures ∙ c.in-Some.is)
    c.in_ok-parts-in-Some.ensures.made c.as_slice.ensures.value)) c.intern_middle.ensures.made

pub coerce_solid-returns-in_ok-parts-in-Some-clause-known : goal.coerce_solid-returns-in_ok-parts-in-Some-clause-known
coerce_solid-returns-in_ok-parts-in-Some-clause-known t c =
    in_any_case c.intern_middle.result
    (AreCasts-kept c.args.types.now c.coerce_parts.new.table.nodes c.intern_middle.new.self.nodes
    c.coerce_parts.new.known c.len-in-Some.ensures.nodes.ordered.before c.intern_middle.ensures.grows
    c.in_ok-parts-in-Some.ensures.known)

pub coerce_known-returns-in-Some-clause-grows : goal.coerce_known-returns-in-Some-clause-grows
coerce_known-returns-in-Some-clause-grows t c = same_nodes c.args.table.now.nodes

pub coerce_parts-returns-in_err-c-clause-grows : goal.coerce_parts-returns-in_err-c-clause-grows
coerce_parts-returns-in_err-c-clause-grows t c =
    more_nodes c.args.table.now.nodes c.loop-j.table.nodes c.coerce_known.new.table.nodes c.loop-j.invariant.grows
    c.coerce_known.ensures.grows

pub coerce_solid-returns-then-eq-clause-made : goal.coerce_solid-returns-then-eq-clause-made
coerce_solid-returns-then-eq-clause-made t c =
    subst (IsTree c.args.table.now.nodes c.id.result.0)
    (sym (cast_same c.args.types.now c.len.ensures.table c.args.cast.from.0 c.args.cast.to.0 c.args.cast.label.0
    c.requires.from_solid c.requires.to_solid (sym c.eq.ensures ∙ c.if-eq.true))) c.id.ensures

pub coerce_solid-returns-then-eq-clause-grows : goal.coerce_solid-returns-then-eq-clause-grows
coerce_solid-returns-then-eq-clause-grows t c = same_nodes c.args.table.now.nodes

pub coerce_solid-intern_node-requires-clause-node : goal.coerce_solid-intern_node-requires-clause-node
coerce_solid-intern_node-requires-clause-node t c =
    node_of_cast c.args.types.now c.args.table.now.nodes _ c.len.ensures.table c.args.cast c.requires.cast
    (all_none _) (all_none _) tt
    (cast_clash c.args.types.now c.len.ensures.table c.args.cast.from.0 c.args.cast.to.0 c.args.cast.label.0
    c.requires.from_solid c.requires.to_solid (sym c.eq.ensures ∙ c.if-eq.false)
    (ap₂ same_head (row_is c.args.types.now c.args.cast.from.0 (row_of c.row-from.result.now) c.row-from.ensures)
    (row_is c.args.types.now c.args.cast.to.0 (row_of c.row.result.now) c.row.ensures)
    ∙ sym c.same_head.ensures ∙ c.if-not-same_head.true))

pub coerce_solid-returns-then-not-same_head-clause-made : goal.coerce_solid-returns-then-not-same_head-clause-made
coerce_solid-returns-then-not-same_head-clause-made t c =
    subst (λ (x : Coercion). IfOk c.intern_node.result
    (λ (r : CoercionId). IsTree c.intern_node.new.self.nodes r.0 x))
    (sym (cast_clash c.args.types.now c.len.ensures.table c.args.cast.from.0 c.args.cast.to.0 c.args.cast.label.0
    c.requires.from_solid c.requires.to_solid (sym c.eq.ensures ∙ c.if-eq.false)
    (ap₂ same_head (row_is c.args.types.now c.args.cast.from.0 (row_of c.row-from.result.now) c.row-from.ensures)
    (row_is c.args.types.now c.args.cast.to.0 (row_of c.row.result.now) c.row.ensures)
    ∙ sym c.same_head.ensures ∙ c.if-not-same_head.true))) c.intern_node.ensures.tree

pub coerce_solid-returns-in-None-clause-made : goal.coerce_solid-returns-in-None-clause-made
coerce_solid-returns-in-None-clause-made t c =
    subst (IsTree c.args.table.now.nodes c.id-in-None.result.0)
    (sym (cast_middle c.args.types.now c.len.ensures.table c.args.cast.from.0 c.args.cast.to.0 c.args.cast.label.0
    c.requires.from_solid c.requires.to_solid None (sym c.eq.ensures ∙ c.if-eq.false)
    (ap₂ same_head (row_is c.args.types.now c.args.cast.from.0 (row_of c.row-from.result.now) c.row-from.ensures)
    (row_is c.args.types.now c.args.cast.to.0 (row_of c.row.result.now) c.row.ensures)
    ∙ sym c.same_head.ensures ∙ c.if-not-same_head.false)
    (ap kind_of (row_is c.args.types.now c.args.cast.from.0 (row_of c.row-from.result.now) c.row-from.ensures)
    ∙ sym c.kind_of.ensures ∙ c.in-None.is))) c.id-in-None.ensures

pub coerce_solid-returns-in-None-clause-grows : goal.coerce_solid-returns-in-None-clause-grows
coerce_solid-returns-in-None-clause-grows t c = same_nodes c.args.table.now.nodes

pub coerce_solid-returns-in_ok-parts-in-Some-clause-grows : goal.coerce_solid-returns-in_ok-parts-in-Some-clause-grows
coerce_solid-returns-in_ok-parts-in-Some-clause-grows t c =
    more_nodes c.args.table.now.nodes c.coerce_parts.new.table.nodes c.intern_middle.new.self.nodes
    c.in_ok-parts-in-Some.ensures.grows c.intern_middle.ensures.grows

pub coerce_rows-returns-then-to_dyn-clause-made : goal.coerce_rows-returns-then-to_dyn-clause-made
coerce_rows-returns-then-to_dyn-clause-made t c =
    subst (IsTree c.args.table.now.nodes c.id-id.result.0)
    (sym (cast_both_dyn c.args.types.now c.len.ensures.table c.args.cast.from.0 c.args.cast.to.0 c.args.cast.label.0
    (dyn_told c.args.types.now c.args.cast.from.0 _ c.row.ensures c.is_dyn-from_dyn.ensures c.if-from_dyn.true)
    (dyn_told c.args.types.now c.args.cast.to.0 _ c.row-2.ensures c.is_dyn-to_dyn.ensures c.if-to_dyn.true)))
    c.id-id.ensures

pub coerce_rows-returns-then-to_dyn-clause-grows : goal.coerce_rows-returns-then-to_dyn-clause-grows
coerce_rows-returns-then-to_dyn-clause-grows t c = same_nodes c.args.table.now.nodes

pub coerce_rows-intern_node-requires-clause-node : goal.coerce_rows-intern_node-requires-clause-node
coerce_rows-intern_node-requires-clause-node t c =
    node_of_cast c.args.types.now c.args.table.now.nodes _ c.len.ensures.table c.args.cast c.requires.cast
    (one_below c.id-id.ensures.within) (one_below c.requires.cast.to_there) tt
    (cast_from_dyn c.args.types.now c.len.ensures.table c.args.cast.from.0 c.args.cast.to.0 c.args.cast.label.0
    (dyn_told c.args.types.now c.args.cast.from.0 _ c.row.ensures c.is_dyn-from_dyn.ensures c.if-from_dyn.true)
    (dyn_told c.args.types.now c.args.cast.to.0 _ c.row-2.ensures c.is_dyn-to_dyn.ensures c.if-to_dyn.false)
    ∙ ap (λ x. Project c.args.cast.to.0 c.args.cast.label.0 x) (sym c.id-id.ensures.is))

pub coerce_rows-returns-then-from_dyn-clause-made : goal.coerce_rows-returns-then-from_dyn-clause-made
coerce_rows-returns-then-from_dyn-clause-made t c =
    subst (λ x. IfOk c.intern_node.result
    (λ (r : CoercionId). IsTree c.intern_node.new.self.nodes r.0 x))
    (sym (cast_from_dyn c.args.types.now c.len.ensures.table c.args.cast.from.0 c.args.cast.to.0 c.args.cast.label.0
    (dyn_told c.args.types.now c.args.cast.from.0 _ c.row.ensures c.is_dyn-from_dyn.ensures c.if-from_dyn.true)
    (dyn_told c.args.types.now c.args.cast.to.0 _ c.row-2.ensures c.is_dyn-to_dyn.ensures c.if-to_dyn.false)
    ∙ ap (λ x. Project c.args.cast.to.0 c.args.cast.label.0 x) (sym c.id-id.ensures.is)))
    c.intern_node.ensures.tree

pub coerce_rows-returns-then-from_dyn-clause-known : goal.coerce_rows-returns-then-from_dyn-clause-known
coerce_rows-returns-then-from_dyn-clause-known t c =
    in_any_case c.intern_node.result
    (AreCasts-kept c.args.types.now c.args.table.now.nodes c.intern_node.new.self.nodes c.args.known.now
    c.len-2.ensures.nodes.ordered.before c.intern_node.ensures.grows c.requires.known)

pub coerce_rows-intern_node-requires-then-to_dyn-2-clause-node :
    goal.coerce_rows-intern_node-requires-then-to_dyn-2-clause-node
coerce_rows-intern_node-requires-then-to_dyn-2-clause-node t c =
    node_of_cast c.args.types.now c.args.table.now.nodes _ c.len.ensures.table c.args.cast c.requires.cast
    (one_below c.id-id.ensures.within) (one_below c.requires.cast.from_there) tt
    (cast_to_dyn c.args.types.now c.len.ensures.table c.args.cast.from.0 c.args.cast.to.0 c.args.cast.label.0
    (dyn_told c.args.types.now c.args.cast.from.0 _ c.row.ensures c.is_dyn-from_dyn.ensures c.if-from_dyn.false)
    (dyn_told c.args.types.now c.args.cast.to.0 _ c.row-2.ensures c.is_dyn-to_dyn.ensures c.if-to_dyn-2.true)
    ∙ ap (λ x. Inject x c.args.cast.from.0) (sym c.id-id.ensures.is))

pub coerce_rows-returns-then-to_dyn-2-clause-made : goal.coerce_rows-returns-then-to_dyn-2-clause-made
coerce_rows-returns-then-to_dyn-2-clause-made t c =
    subst (λ x. IfOk c.intern_node-then-to_dyn-2.result
    (λ (r : CoercionId). IsTree c.intern_node-then-to_dyn-2.new.self.nodes r.0 x))
    (sym (cast_to_dyn c.args.types.now c.len.ensures.table c.args.cast.from.0 c.args.cast.to.0 c.args.cast.label.0
    (dyn_told c.args.types.now c.args.cast.from.0 _ c.row.ensures c.is_dyn-from_dyn.ensures c.if-from_dyn.false)
    (dyn_told c.args.types.now c.args.cast.to.0 _ c.row-2.ensures c.is_dyn-to_dyn.ensures c.if-to_dyn-2.true)
    ∙ ap (λ x. Inject x c.args.cast.from.0) (sym c.id-id.ensures.is)))
    c.intern_node-then-to_dyn-2.ensures.tree

pub coerce_rows-returns-then-to_dyn-2-clause-known : goal.coerce_rows-returns-then-to_dyn-2-clause-known
coerce_rows-returns-then-to_dyn-2-clause-known t c =
    in_any_case c.intern_node-then-to_dyn-2.result
    (AreCasts-kept c.args.types.now c.args.table.now.nodes c.intern_node-then-to_dyn-2.new.self.nodes c.args.known.now
    c.len-2.ensures.nodes.ordered.before c.intern_node-then-to_dyn-2.ensures.grows c.requires.known)

pub coerce_rows-coerce_solid-requires : goal.coerce_rows-coerce_solid-requires
coerce_rows-coerce_solid-requires t c = (
  omega (arith, c.decreases),
  (
    c.requires.cast,
    (
      ap is_dyn (row_is c.args.types.now c.args.cast.from.0 (row_of c.row.result.now) c.row.ensures)
          ∙ sym c.is_dyn-from_dyn.ensures ∙ c.if-from_dyn.false,
      (
        ap is_dyn (row_is c.args.types.now c.args.cast.to.0 (row_of c.row-2.result.now) c.row-2.ensures)
            ∙ sym c.is_dyn-to_dyn.ensures ∙ c.if-to_dyn-2.false,
        (c.requires.fits, c.requires.known),
      ),
    ),
  ),
)
