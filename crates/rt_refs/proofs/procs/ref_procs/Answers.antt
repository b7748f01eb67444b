use Rattle.std.proofs.Common.{ap}
use Rattle.low_ir.specs.Views.{procs_of}
use Rattle.rt_refs.proofs.procs.ref_procs.Goals as goal

pub returns : goal.returns
returns c =
    rw (← c.number-fills.ensures, ← c.number.ensures)
    (c.with_arithmetic.ensures _ (c.with_proc-procs-5.ensures _ _ (c.with_proc-procs-4.ensures _ _
    (c.with_proc-procs-3.ensures _ _ (c.with_proc-procs-2.ensures _ _ (c.with_proc-procs.ensures _ _
    (ap procs_of c.new.ensures) c.apply_proc.ensures) c.read_proc.ensures) c.write_proc.ensures) c.fill_proc.ensures)
    c.fill_loop.ensures))
