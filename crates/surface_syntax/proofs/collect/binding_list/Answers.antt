use Rattle.std.proofs.Common.{◌∙◌}
use Rattle.surface_syntax.proofs.Loops.{bound_pop, lets_bind}
use Rattle.surface_syntax.proofs.collect.binding_list.Goals as goal

pub loop-last-preserved : goal.loop-last-preserved
loop-last-preserved c =
    rw c.in_ok-list.ensures
    (bound_pop lets_bind _ _ c.in-Some.last _ c.in-Some.ensures.items ∙ c.loop-last.invariant)
