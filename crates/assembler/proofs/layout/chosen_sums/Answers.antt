use Rattle.std.proofs.Common.{arith}
use Rattle.assembler.proofs.Insts.{sums_upto}
use Rattle.assembler.proofs.layout.chosen_sums.Goals as goal

pub loop-place-preserved : goal.loop-place-preserved
loop-place-preserved c =
    sums_upto c.args.items.now c.args.reach.now.start c.loop-place.place c.index-items-place.result
    c.push-in-loop-place.new.self c.loop-place.sums c.loop-place.before c.width-before.result
    (omega arith) c.index-items-place.is (rw c.is_near.ensures at c.width-before.ensures.value)
    c.loop-place.invariant.0 c.loop-place.invariant.1 c.loop-place.invariant.2 c.width-before.ensures.small
    c.in_ok-push-2.ensures.ok
