use Rattle.std.proofs.Common.{◌≡◌, ◌≤◌}
use Rattle.flat_ir.specs.declared.code.FlatBody.{size-FlatBody}
use Rattle.flat_ir.specs.Views.{procs_of, body_of}
use Rattle.flat_ir.specs.Closed.{body_bound}
use Rattle.flat_ir.proofs.closing.Known.+bodies.Given as goal

-- what is left is closed where the whole is
abbrev pub invariant-loop-left : goal.invariant-loop-left
invariant-loop-left l =
    (body_bound (procs_of l.procs) l.self.captured l.self.group l.depth (body_of l.left)
    ≡ body_bound (procs_of l.fn.procs) l.fn.self.captured l.fn.self.group l.fn.first_free (body_of l.fn.body))
    × (size-FlatBody l.left ≤ size-FlatBody l.fn.body)
