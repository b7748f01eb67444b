use Rattle.std.proofs.Common.{◌≡◌, ◌+◌, ◌*◌, suc, [], ◌∷◌, ◌++◌, length, ap, ◌∙◌, sym, subst, arith}
use Rattle.grift_base.specs.Types.{parts_of}
use Rattle.type_graph.specs.Rows.{row_of}
use Rattle.coercion_norm.specs.Coercions.{rows_of}
use Rattle.coercion_norm.specs.Placed.{AreTypeAddresses, words_before}
use Rattle.coercion_norm.proofs.CastLemmas.{row_is}
use Rattle.coercion_norm.proofs.Objects.{few_parts}
use Rattle.coercion_norm.proofs.TypePlacing.{address_more}
use Rattle.coercion_norm.proofs.placing.addresses_of_types.Goals as goal

pub number_of_parts-requires : goal.number_of_parts-requires
number_of_parts-requires c =
    few_parts (row_of c.row.result.now)
    (c.len-t-end.ensures.table.widths c.loop-t.t (row_of c.row.result.now) c.row.ensures)

pub overflow_add-before : goal.overflow_add-before
overflow_add-before c =
    let few =
    few_parts (row_of c.row.result.now)
    (c.len-t-end.ensures.table.widths c.loop-t.t (row_of c.row.result.now) c.row.ensures) in
    let parts = c.number_of_parts.ensures in
    omega (arith, few, parts)

pub overflow_add-before-in-loop-t : goal.overflow_add-before-in-loop-t
overflow_add-before-in-loop-t c =
    let few =
    few_parts (row_of c.row.result.now)
    (c.len-t-end.ensures.table.widths c.loop-t.t (row_of c.row.result.now) c.row.ensures) in
    let parts = c.number_of_parts.ensures in
    let bound = c.loop-t.invariant.2 in
    let below = c.loop-t-test.true in
    omega (arith, few, parts, bound, below)

pub loop-t-preserved : goal.loop-t-preserved
loop-t-preserved c =
    let types = c.args.types.now in
    let few =
    few_parts (row_of c.row.result.now)
    (c.len-t-end.ensures.table.widths c.loop-t.t (row_of c.row.result.now) c.row.ensures) in
    let same : length (parts_of (rows_of types c.loop-t.t)) ≡ c.number_of_parts.result =
    ap (λ row. length (parts_of row)) (row_is types c.loop-t.t (row_of c.row.result.now) c.row.ensures)
    ∙ sym c.number_of_parts.ensures in
    let parts = c.number_of_parts.ensures in
    let before = c.loop-t.invariant.1 in
    let bound = c.loop-t.invariant.2 in
    let next : suc c.loop-t.t ≡ c.loop-t.t + 1 = omega arith in (
      address_more types c.args.start c.loop-t.t c.loop-t.type_at c.push.new.self c.loop-t.invariant.0
          (c.in_ok-push.ensures.ok ∙ ap (λ n. c.loop-t.type_at ++ (c.args.start + 8 * n) ∷ []) before),
      subst (λ n. c.loop-t.before + (1 + c.number_of_parts.result) ≡ words_before types n) next
          (omega (arith, same, before)),
      omega (arith, bound, few, parts),
    )

pub returns : goal.returns
returns c =
    let all : c.loop-t.t ≡ length c.args.types.now =
    omega (arith, c.loop-t-test.false, c.loop-t.auto.t-end, c.len-t-end.ensures.len) in
    subst (λ n. AreTypeAddresses c.args.types.now c.args.start n c.loop-t.type_at) all c.loop-t.invariant.0
