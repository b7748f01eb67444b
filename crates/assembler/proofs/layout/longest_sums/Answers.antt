use Rattle.std.proofs.Common.{arith}
use Rattle.assembler.proofs.Insts.{longest_upto}
use Rattle.assembler.proofs.layout.longest_sums.Goals as goal

pub loop-item-preserved : goal.loop-item-preserved
loop-item-preserved c =
    longest_upto c.args.items.now c.loop-item.item-index c.item-item.result c.push-in-loop-item.new.self
    c.loop-item.sums c.loop-item.before c.width-before.result (omega arith) c.item-item.is c.width-before.ensures.value
    c.loop-item.invariant.0 c.loop-item.invariant.1 c.loop-item.invariant.2 c.width-before.ensures.small
    c.in_ok-push-2.ensures.ok
