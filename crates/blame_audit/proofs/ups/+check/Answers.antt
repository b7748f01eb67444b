use Rattle.std.proofs.Common.{◌≡◌, sym, ◌∙◌, arith, rules}
use Rattle.type_graph.proofs.Public.{pair_among, row_parts_are, related_more, related_fails, related_lengths}
use Rattle.blame_audit.specs.Up.{up}
use Rattle.blame_audit.proofs.UpAnswers.{function_fits, up_of_rows}
use Rattle.blame_audit.proofs.ups.+check.Goals as goal

pub check_each-returns-then-parts-others-clause-answer : goal.check_each-returns-then-parts-others-clause-answer
check_each-returns-then-parts-others-clause-answer t c =
    sym (related_lengths (up c.args.types.now) c.args.parts.now c.args.others.now c.if-parts-others.true)

pub check_each-check-requires : goal.check_each-check-requires
check_each-check-requires t c =
    let pair = pair_among c.args.types.now c.args.parts.now c.args.others.now c.if-parts-others.false
    c.loop-i.i c.loop-i-test.true c.requires.parts c.requires.others in (
      omega (arith, c.decreases, pair.0.lower, pair.1.lower),
      (pair.0.within, (pair.1.within, c.loop-i.invariant.known)),
    )

pub check_each-returns-then-not-branch-clause-answer : goal.check_each-returns-then-not-branch-clause-answer
check_each-returns-then-not-branch-clause-answer t c =
    sym (related_fails (up c.args.types.now) c.args.parts.now c.args.others.now c.if-parts-others.false
    c.loop-i.i c.loop-i-test.true (sym c.in_ok-check.ensures.answer ∙ c.if-not-branch.true))

pub check_each-loop-i-preserved : goal.check_each-loop-i-preserved
check_each-loop-i-preserved t c = record {
  known = c.in_ok-check.ensures.known;
  related = related_more (up c.args.types.now) c.args.parts.now c.args.others.now c.if-parts-others.false
      c.loop-i.i c.loop-i-test.true c.loop-i.invariant.related
      (sym c.in_ok-check.ensures.answer ∙ c.if-not-branch.false);
}

pub check-check_rows-requires : goal.check-check_rows-requires
check-check_rows-requires t c =
    let first = row_parts_are c.args.types.now c.len.ensures.table.finite c.args.a.0 _ c.row.ensures in
    let second = row_parts_are c.args.types.now c.len.ensures.table.finite c.args.b.0 _ c.row-2.ensures in
    (omega (arith, c.decreases, first.lower, second.lower), (first.within, (second.within, c.requires.known)))

pub check-returns-in_ok-insert-clause-answer : goal.check-returns-in_ok-insert-clause-answer
check-returns-in_ok-insert-clause-answer t c =
    c.in_ok-answer.ensures.answer
    ∙ sym (up_of_rows c.args.types.now c.len.ensures.table.finite c.args.a.0 c.args.b.0 c.requires.a c.requires.b
    c.row.ensures c.row-2.ensures)

pub check-returns-in_ok-insert-clause-known : goal.check-returns-in_ok-insert-clause-known
check-returns-in_ok-insert-clause-known t c =
    let answer : c.in_ok-answer.answer ≡ up c.args.types.now c.args.a.0 c.args.b.0 =
    check-returns-in_ok-insert-clause-answer t c in
    search (rules, answer)

pub check-returns-else-answer-clause-answer : goal.check-returns-else-answer-clause-answer
check-returns-else-answer-clause-answer t c =
    c.in_ok-answer.ensures.answer
    ∙ sym (up_of_rows c.args.types.now c.len.ensures.table.finite c.args.a.0 c.args.b.0 c.requires.a c.requires.b
    c.row.ensures c.row-2.ensures)

pub check_rows-check_each-requires : goal.check_rows-check_each-requires
check_rows-check_each-requires t c =
    let first = function_fits c.args.types.now c.in-Fun-Fun.is-0 c.requires.row in
    let second = function_fits c.args.types.now c.in-Fun-Fun.is-1 c.requires.other in
    rw (c.as_slice.ensures, c.as_slice-in-Fun-Fun.ensures) (
      omega (arith, c.decreases, first.0.1, second.0.1),
      (second.0.0, (first.0.0, c.requires.known)),
    )

pub check_rows-check-requires : goal.check_rows-check-requires
check_rows-check-requires t c =
    let first = function_fits c.args.types.now c.in-Fun-Fun.is-0 c.requires.row in
    let second = function_fits c.args.types.now c.in-Fun-Fun.is-1 c.requires.other in (
      omega (arith, c.decreases, first.1.1, second.1.1),
      (first.1.0, (second.1.0, c.in_ok-check_each-in-Fun-Fun.ensures.known)),
    )
