use Rattle.std.proofs.lemmas.Result.{IfOk-at_ok}
use Rattle.derived_forms.proofs.loops.loop_of.Goals as goal

pub returns : goal.returns
returns c =
    rw (
      ← IfOk-at_ok _ c.in_ok-bindings.ensures.first c.loop_bindings-bindings.ensures,
      ← IfOk-at_ok _ c.in_ok-bindings.ensures.second c.loop_start-body.ensures,
    ) c.let_at.ensures
