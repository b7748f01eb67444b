use Rattle.std.proofs.Common.{◌≡◌, vec_len}
use Rattle.flat_ir.specs.Views.{body_of}
use Rattle.closure_convert.specs.Waits.{ahead}
use Rattle.closure_convert.proofs.waits.Waits.ahead_of.Given as goal

abbrev pub invariant-loop-wait : goal.invariant-loop-wait
invariant-loop-wait l = ahead l.self.waits.items (body_of l.body) ≡ ahead l.fn.self.waits.items (body_of l.fn.end)

abbrev pub decreases-loop-wait : goal.decreases-loop-wait
decreases-loop-wait l = vec_len l.self.waits
