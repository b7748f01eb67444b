use Rattle.std.proofs.Common.{refl, rules, arith, ◌∙◌}
use Rattle.low_ir.specs.declared.code.LowCode.{the_lemmas}
use Rattle.low_ir.specs.Views.{code_of}
use Rattle.rv_select.proofs.Emitting.{behind, goes_on, if_more, marks_more}
use Rattle.rv_select.proofs.selection.+put_code.Goals as goal

pub loop-left-preserved-in-If : goal.loop-left-preserved-in-If
loop-left-preserved-in-If t c =
    let one_mark = c.in_ok-at_one-in-If.ensures in
    let end_mark = c.in_ok-at_end-in-If.ensures in
    let other = rw c.deref.ensures at c.in_ok-put_code-in-If.ensures in
    let one = rw c.deref-in-If.ensures at c.in_ok-put_code-in-If-2.ensures in
    let items = if_more c.args.first c.args.out c.loop-left.marks _ _ _ _ _ _ c.in-If.cond c.in-If.a c.in-If.b
    (code_of c.in-If.one.value) (code_of c.in-If.other.value) (code_of c.in-If.rest.value) _ _ _ _ _ _ _
    one_mark.value one_mark.marks end_mark.value end_mark.marks other.marks one.marks
    c.in_ok-put_branch-in-If.ensures other.items c.in_ok-push-in-If.ensures.ok c.in_ok-push-in-If-2.ensures.ok
    one.items c.in_ok-push-in-If-3.ensures.ok in
    let marks = marks_more c.loop-left.marks _ _ _ _ c.in-If.cond c.in-If.a c.in-If.b (code_of c.in-If.one.value)
    (code_of c.in-If.other.value) (code_of c.in-If.rest.value) one_mark.marks end_mark.marks other.marks
    one.marks in
    let small = rw c.in-If.is at c.loop-left.invariant.2 in (
      rw c.deref-left-in-If.ensures (items ∙ (rw c.in-If.is at c.loop-left.invariant.0)),
      rw c.deref-left-in-If.ensures (marks ∙ (rw c.in-If.is at c.loop-left.invariant.1)),
      rw c.deref-left-in-If.ensures small.2,
      search (rules, the_lemmas),
    )

pub loop-left-preserved : goal.loop-left-preserved
loop-left-preserved t c =
    let r = goes_on c.args.first c.args.out c.loop-left.marks c.loop-left.items c.put_step.new.items _
    c.loop-left.left.now c.in-Some.rest.now _ c.in_default.not-If c.in_default.not-CodeOf c.in-Some.ensures.later
    c.in_ok-put_step-in_default.ensures c.loop-left.invariant.0 c.loop-left.invariant.1 c.loop-left.invariant.2 in
    let less = c.in-Some.ensures.smaller in (r.0, r.1, r.2, omega (arith, less, c.loop-left.invariant.3))

pub loop-left-preserved-in-CodeOf : goal.loop-left-preserved-in-CodeOf
loop-left-preserved-in-CodeOf t c =
    let put = rw c.in_ok-local-in-CodeOf.ensures at c.in_ok-push-in-CodeOf.ensures.ok in
    let whole = rw c.in-CodeOf.is at c.loop-left.invariant.0 in (
      rw c.deref-left.ensures (behind _ _ _ _ _ put refl ∙ whole),
      rw c.deref-left.ensures (rw c.in-CodeOf.is at c.loop-left.invariant.1),
      rw c.deref-left.ensures (rw c.in-CodeOf.is at c.loop-left.invariant.2),
      search (rules, the_lemmas),
    )
