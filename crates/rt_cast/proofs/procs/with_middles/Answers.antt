use Rattle.std.proofs.Common.{◌≡◌, subst}
use Rattle.std.specs.Prelude.{IfOk}
use Rattle.low_ir.specs.Views.{proc_of, procs_of}
use Rattle.low_ir.specs.Codes.{proc}
use Rattle.rt_cast.specs.PartCodes.{middle_code, apart}
use Rattle.rt_cast.proofs.PartCodeLemmas.{middles_more}
use Rattle.rt_cast.proofs.procs.with_middles.Goals as goal

pub loop-r-preserved : goal.loop-r-preserved
loop-r-preserved c = λ before is.
    let making = c.args.making in
    let made = subst (λ n. IfOk c.middle_proc.result (λ p. proc_of p
    ≡ proc 5 24 (middle_code making.raise making.part (apart n) c.loop-r.r))) c.requires.apart c.middle_proc.ensures in
    subst (λ ps. IfOk c.with_proc-made.result (λ all. procs_of all ≡ ps))
    (middles_more making.raise making.part c.loop-r.r before)
    (c.with_proc-made.ensures _ _ (c.loop-r.invariant before is) made)
