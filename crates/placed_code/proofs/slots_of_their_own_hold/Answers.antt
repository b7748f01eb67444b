use Rattle.placed_code.proofs.Greedy.{own_slots_hold}
use Rattle.placed_code.proofs.slots_of_their_own_hold.Goals as goal

pub returns : goal.returns
returns c = λ items place other own h. own_slots_hold items place other own h
