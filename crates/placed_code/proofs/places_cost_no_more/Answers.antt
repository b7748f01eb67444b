use Rattle.placed_code.proofs.Prices.{enter_less, price_is, price_less}
use Rattle.placed_code.proofs.places_cost_no_more.Goals as goal

pub returns-clause-exact : goal.returns-clause-exact
returns-clause-exact c = λ out first count item. price_is out first count item

pub returns-clause-less : goal.returns-clause-less
returns-clause-less c = λ place f item allowed small own. price_less place allowed f small item own

pub returns-clause-enters : goal.returns-clause-enters
returns-clause-enters c = λ place f k small. enter_less place f k small
