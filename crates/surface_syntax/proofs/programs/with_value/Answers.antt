use Rattle.std.proofs.lemmas.Result.{IfOk-at_ok}
use Rattle.surface_syntax.proofs.programs.with_value.Goals as goal

pub returns : goal.returns
returns c =
    rw (
      c.in_ok-let_at.ensures,
      IfOk-at_ok _ c.in_ok-bindings.ensures.first c.bound_first-bindings.ensures,
      c.in_ok-binding.ensures.value,
      IfOk-at_ok _ c.in_ok-bindings.ensures.second c.one.ensures,
      IfOk-at_ok _ c.in_ok-binding.ensures.made c.closed.ensures,
    )
