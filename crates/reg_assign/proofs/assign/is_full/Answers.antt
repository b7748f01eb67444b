use Rattle.placed_code.proofs.Public.{equal_of}
use Rattle.reg_assign.proofs.Masks.{full_is}
use Rattle.std.specs.Prelude.{bit_and}
use Rattle.reg_assign.proofs.assign.is_full.Goals as goal

pub returns : goal.returns
returns c = λ e r h. full_is c.args.taken r (equal_of (bit_and c.args.taken 33554424) 33554424 e) h
