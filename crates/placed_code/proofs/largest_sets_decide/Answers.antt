use Rattle.placed_code.proofs.Checks.{largest_finds, largest_holds}
use Rattle.placed_code.proofs.largest_sets_decide.Goals as goal

pub returns-clause-yes : goal.returns-clause-yes
returns-clause-yes c = λ items place held allowed l finds. (held, largest_holds items place allowed held l finds)

pub returns-clause-no : goal.returns-clause-no
returns-clause-no c = λ items place held l h. largest_finds items place held l h
