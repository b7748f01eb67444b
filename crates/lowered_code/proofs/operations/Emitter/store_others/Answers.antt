use Rattle.std.proofs.Common.{arith, ◌-◌}
use Rattle.lowered_code.specs.Emit.{store_others}
use Rattle.lowered_code.proofs.GroupTurns.{store_more}
use Rattle.lowered_code.proofs.operations.Emitter.store_others.Goals as goal

pub loop-left-preserved : goal.loop-left-preserved
loop-left-preserved c =
    store_more c.args.self.now.shape c.args.d c.args.captured c.args.group.first c.loop-left.place c.loop-left.left
    (c.loop-left.left - 1) _ _ _ _ _ _ c.loop-left.steps.steps.items c.store_far.new.steps.steps.items
    c.push.new.self.steps.items c.store_far-in-loop-left.new.steps.steps.items c.args.steps.now.steps.items
    (λ k. store_others c.args.self.now.shape c.args.d c.args.captured c.args.group.first 1 c.args.group.others k)
    c.loop-left.invariant c.in_ok-store_far.ensures c.in_ok-push.ensures c.in_ok-store_far-2.ensures
    c.in_ok-test.ensures c.in_ok-address.ensures c.in_ok-header.ensures c.function_offset-offset.ensures
    c.in_ok-narrow.ensures c.in_ok-place.ensures (omega arith)
