use Rattle.std.proofs.Common.{rules}
use Rattle.low_ir.proofs.closing.Window.fits.Goals as goal

-- (an edit turns this function: with the answer here its refusal takes one run of the prover, and not two)

pub returns-then-is_read-2 : goal.returns-then-is_read-2
returns-then-is_read-2 c = search rules
