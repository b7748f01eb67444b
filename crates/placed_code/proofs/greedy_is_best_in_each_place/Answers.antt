use Rattle.placed_code.proofs.Greedy.{greedy_has_holding, greedy_is_maximal}
use Rattle.placed_code.proofs.greedy_is_best_in_each_place.Goals as goal

pub returns-clause-maximal : goal.returns-clause-maximal
returns-clause-maximal c = λ items place greedy. greedy_is_maximal items place greedy

pub returns-clause-holds : goal.returns-clause-holds
returns-clause-holds c = λ items place n greedy rest h. greedy_has_holding items place greedy n rest h
