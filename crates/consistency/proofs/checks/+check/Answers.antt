use Rattle.std.proofs.Common.{◌≡◌, sym, ap₂, ◌∙◌, arith, rules}
use Rattle.type_graph.specs.Rows.{row_of}
use Rattle.type_graph.specs.Trees.{height, related}
use Rattle.consistency.specs.Consistency.{consistent}
use Rattle.consistency.proofs.ConsistentLemmas.{dyn_consistent, consistent_dyn, heads_differ, heads_agree}
use Rattle.consistency.proofs.ConsistentLemmas.{pairs_fail, pairs_more}
use Rattle.consistency.proofs.BlendLemmas.{nowhere, first_below_all, pairs_of_parts_fit}
use Rattle.consistency.proofs.checks.+check.Goals as goal

pub check_each-check-requires : goal.check_each-check-requires
check_each-check-requires t c =
    let below = first_below_all (height c.args.types.now) c.args.pairs.now c.loop-pair.pair-index nowhere
    c.loop-pair-test.true in (
      omega (arith, c.decreases, below),
      (c.requires.pairs c.loop-pair.pair-index nowhere c.loop-pair-test.true, c.loop-pair.invariant.known),
    )

pub check_each-returns-then-not-branch-clause-answer : goal.check_each-returns-then-not-branch-clause-answer
check_each-returns-then-not-branch-clause-answer t c =
    sym (pairs_fail (consistent c.args.types.now) c.args.pairs.now c.loop-pair.pair-index nowhere
    c.loop-pair-test.true (sym c.in_ok-check.ensures.answer ∙ c.if-not-branch.true))

pub check_each-loop-pair-preserved : goal.check_each-loop-pair-preserved
check_each-loop-pair-preserved t c = record {
  related = pairs_more (consistent c.args.types.now) c.args.pairs.now c.loop-pair.pair-index nowhere
      c.loop-pair-test.true c.loop-pair.invariant.related
      (sym c.in_ok-check.ensures.answer ∙ c.if-not-branch.false);
  known = c.in_ok-check.ensures.known;
}

pub check-returns-then-is_dyn-clause-answer : goal.check-returns-then-is_dyn-clause-answer
check-returns-then-is_dyn-clause-answer t c =
    sym (dyn_consistent c.args.types.now c.len.ensures.table.finite c.args.pair.first.0 c.args.pair.second.0
    c.requires.pair.first (row_of c.row-row.result.now) (row_of c.row-other.result.now) c.row-row.ensures
    c.row-other.ensures (sym c.is_dyn.ensures ∙ c.if-is_dyn.true))

pub check-returns-then-is_dyn-2-clause-answer : goal.check-returns-then-is_dyn-2-clause-answer
check-returns-then-is_dyn-2-clause-answer t c =
    sym (consistent_dyn c.args.types.now c.len.ensures.table.finite c.args.pair.first.0 c.args.pair.second.0
    c.requires.pair.first (row_of c.row-row.result.now) (row_of c.row-other.result.now) c.row-row.ensures
    c.row-other.ensures (sym c.is_dyn.ensures ∙ c.if-is_dyn.false) (sym c.is_dyn-2.ensures ∙ c.if-is_dyn-2.true))

pub check-returns-then-not-same_head-clause-answer : goal.check-returns-then-not-same_head-clause-answer
check-returns-then-not-same_head-clause-answer t c =
    sym (heads_differ c.args.types.now c.len.ensures.table.finite c.args.pair.first.0 c.args.pair.second.0
    c.requires.pair.first (row_of c.row-row.result.now) (row_of c.row-other.result.now) c.row-row.ensures
    c.row-other.ensures (sym c.is_dyn.ensures ∙ c.if-is_dyn.false) (sym c.is_dyn-2.ensures ∙ c.if-is_dyn-2.false)
    (sym (c.same_head.ensures _ _ c.row-row.ensures c.row-other.ensures) ∙ c.if-not-same_head.true))

pub check-pairs_of_parts-requires : goal.check-pairs_of_parts-requires
check-pairs_of_parts-requires t c =
    sym (c.same_head.ensures _ _ c.row-row.ensures c.row-other.ensures) ∙ c.if-not-same_head.false

pub check-check_each-requires : goal.check-check_each-requires
check-check_each-requires t c =
    let fit = pairs_of_parts_fit c.args.types.now c.len.ensures.table.finite c.args.pair.first.0 c.args.pair.second.0
    (row_of c.row-row.result.now) (row_of c.row-other.result.now) c.in_ok-pairs.pairs.items c.row-row.ensures
    c.row-other.ensures c.in_ok-pairs.ensures.firsts c.in_ok-pairs.ensures.seconds in
    rw c.as_slice.ensures.value (omega (arith, c.decreases, fit.0), (fit.1, c.requires.known))

pub check-returns-clause-answer : goal.check-returns-clause-answer
check-returns-clause-answer t c =
    (rw c.as_slice.ensures.value at c.in_ok-answer.ensures.answer)
    ∙ ap₂ (λ xs ys. related (consistent c.args.types.now) xs ys) c.in_ok-pairs.ensures.firsts
    c.in_ok-pairs.ensures.seconds
    ∙ sym (heads_agree c.args.types.now c.len.ensures.table.finite c.args.pair.first.0 c.args.pair.second.0
    c.requires.pair.first (row_of c.row-row.result.now) (row_of c.row-other.result.now) c.row-row.ensures
    c.row-other.ensures (sym c.is_dyn.ensures ∙ c.if-is_dyn.false) (sym c.is_dyn-2.ensures ∙ c.if-is_dyn-2.false)
    (sym (c.same_head.ensures _ _ c.row-row.ensures c.row-other.ensures) ∙ c.if-not-same_head.false))

pub check-returns-clause-known : goal.check-returns-clause-known
check-returns-clause-known t c =
    let answer : c.in_ok-answer.answer ≡ consistent c.args.types.now c.args.pair.first.0 c.args.pair.second.0 =
    check-returns-clause-answer t c in
    search (rules, answer)
