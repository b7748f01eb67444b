use Rattle.std.proofs.Common.{ap}
use Rattle.low_ir.specs.Views.{procs_of}
use Rattle.rt_cast.proofs.procs.cast_procs.Goals as goal

pub returns : goal.returns
returns c =
    let composed = rw c.number.ensures at c.part_proc-composed.ensures in
    let coerced = rw c.number-2.ensures at c.part_proc-coerced.ensures in
    let pair = rw (c.number-3.ensures, c.number-4.ensures) at c.middle_proc-pair.ensures in
    let compositions = rw (c.number-3.ensures, c.number-5.ensures) at c.with_middles-procs.ensures in
    let coercions = rw (c.number-3.ensures, c.number-4.ensures) at c.with_middles.ensures in
    coercions _ (compositions _ (c.with_proc-procs-9.ensures _ _ (c.with_proc-procs-8.ensures _ _
    (c.with_proc-procs-7.ensures _ _ (c.with_proc-procs-6.ensures _ _ (c.with_proc-procs-5.ensures _ _
    (c.with_proc-procs-4.ensures _ _ (c.with_proc-procs-3.ensures _ _ (c.with_proc-procs-2.ensures _ _
    (c.with_proc-procs.ensures _ _ (ap procs_of c.new.ensures) c.coerce_proc.ensures) c.compose_proc.ensures)
    c.cast_proc.ensures) c.project_proc.ensures) composed) c.raise_proc.ensures) c.final_proc.ensures) coerced) pair))
