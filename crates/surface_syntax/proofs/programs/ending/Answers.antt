use Rattle.std.proofs.lemmas.Result.{IfOk-at_ok}
use Rattle.surface_syntax.proofs.programs.ending.Goals as goal

pub returns-in_ok-definition-in-Value : goal.returns-in_ok-definition-in-Value
returns-in_ok-definition-in-Value c =
    rw c.in-Value.is (rw (
      c.in_ok-definition-in-Value.ensures.value,
      IfOk-at_ok _ c.in_ok-definition-in-Value.ensures.made c.nothing_behind.ensures,
    ) at c.before-in-Value.ensures)

pub returns-in_ok-definition-in-Function : goal.returns-in_ok-definition-in-Function
returns-in_ok-definition-in-Function c =
    rw c.in-Function.is (rw (
      c.in_ok-definition-in-Function.ensures.value,
      IfOk-at_ok _ c.in_ok-definition-in-Function.ensures.made c.nothing_behind-in-Function.ensures,
    ) at c.before-in-Function.ensures)
