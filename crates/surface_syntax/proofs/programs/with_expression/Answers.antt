use Rattle.std.proofs.lemmas.Result.{IfOk-at_ok}
use Rattle.surface_syntax.proofs.programs.with_expression.Goals as goal

pub returns : goal.returns
returns c =
    rw (
      c.in_ok-sequence_at.ensures,
      c.in_ok-both.ensures,
      c.in_ok-expr.ensures.value,
      IfOk-at_ok _ c.in_ok-expr.ensures.made c.closed.ensures,
    )
