use Rattle.std.proofs.Common.{ap}
use Rattle.low_ir.specs.Views.{procs_of}
use Rattle.piled_scheme.proofs.procs.piled_procs.Goals as goal

pub returns : goal.returns
returns c =
    c.with_arithmetic.ensures _ (c.with_proc-procs-9.ensures _ _ (c.with_proc-procs-8.ensures _ _
    (c.with_proc-procs-7.ensures _ _ (c.with_proc-procs-6.ensures _ _ (c.with_proc-procs-5.ensures _ _
    (c.with_proc-procs-4.ensures _ _ (c.with_proc-procs-3.ensures _ _ (c.with_proc-procs-2.ensures _ _
    (c.with_proc-procs.ensures _ _ (ap procs_of c.new.ensures) c.cast_proc.ensures) c.idle_proc.ensures)
    c.idle_proc-2.ensures) c.read_proc.ensures) c.write_proc.ensures) c.fill_proc.ensures) c.fill_loop.ensures)
    c.unbox_proc.ensures) c.set_proc.ensures)
