use Rattle.std.proofs.Common.{◌∙◌}
use Rattle.surface_syntax.proofs.Loops.{bound_pop, letrecs_bind}
use Rattle.surface_syntax.proofs.collect.member_list.Goals as goal

pub loop-last-preserved : goal.loop-last-preserved
loop-last-preserved c =
    rw c.in_ok-list.ensures
    (bound_pop letrecs_bind _ _ c.in-Some.last _ c.in-Some.ensures.items ∙ c.loop-last.invariant)
