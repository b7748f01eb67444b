use Rattle.std.proofs.Common.{◌≡◌, true, take}
use Rattle.low_ir.specs.Closed.{are_read}
use Rattle.low_ir.specs.Windows.{windows}
use Rattle.low_ir.proofs.closing.Window.are_read.Given as goal

abbrev pub invariant-loop-source : goal.invariant-loop-source
invariant-loop-source l = are_read windows l.words l.self (take l.source-index l.sources) ≡ true
