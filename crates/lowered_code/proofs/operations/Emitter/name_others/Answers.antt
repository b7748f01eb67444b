use Rattle.std.proofs.Common.{arith, ◌-◌}
use Rattle.lowered_code.specs.Emit.{name_others}
use Rattle.lowered_code.proofs.GroupTurns.{name_more}
use Rattle.lowered_code.proofs.operations.Emitter.name_others.Goals as goal

pub loop-left-preserved : goal.loop-left-preserved
loop-left-preserved c =
    name_more c.args.self.now.shape c.args.group.slot c.args.captured c.loop-left.place c.loop-left.left
    (c.loop-left.left - 1) _ _ _ _ _ c.loop-left.steps.steps.items c.push.new.self.steps.items
    c.args.steps.now.steps.items
    (λ k. name_others c.args.self.now.shape c.args.group.slot c.args.captured 1 c.args.group.others k)
    c.loop-left.invariant c.in_ok-push.ensures c.in_ok-level.ensures c.in_ok-local_word.ensures c.in_ok-first.ensures
    c.function_offset.ensures c.in_ok-place.ensures (omega arith)
