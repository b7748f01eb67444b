use Rattle.std.proofs.Common.{◌≡◌, List, ◌++◌}
use Rattle.std.specs.Prelude.{IfOk}
use Rattle.low_ir.specs.Procedures.{Proc}
use Rattle.low_ir.specs.Views.{procs_of}
use Rattle.rt_cast.specs.Procs.{middles_from}
use Rattle.rt_cast.proofs.procs.with_middles.Given as goal

abbrev pub invariant-loop-r : goal.invariant-loop-r
invariant-loop-r l =
    (before : List Proc) → IfOk l.fn.procs (λ all. procs_of all ≡ before)
    → IfOk l.made (λ all. procs_of all ≡ before ++ middles_from l.making.raise l.making.part l.r 0)
