use Rattle.placed_code.proofs.Checks.{needed_holds, needs_kept}
use Rattle.placed_code.proofs.needs_decide.Goals as goal

pub returns-clause-yes : goal.returns-clause-yes
returns-clause-yes c = λ items place needed allowed n k. (needed, needed_holds items place allowed needed n k)

pub returns-clause-no : goal.returns-clause-no
returns-clause-no c = λ items place needed n h. needs_kept items place needed n h
