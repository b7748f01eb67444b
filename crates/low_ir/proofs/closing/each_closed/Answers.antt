use Rattle.std.proofs.Common.{◌≡◌, ◌+◌, true, take, List, sym, ◌∙◌, refl, ap, subst}
use Rattle.low_ir.specs.declared.programs.LowProc.{LowProc}
use Rattle.low_ir.specs.Views.{proc_of, procs_of}
use Rattle.low_ir.specs.Closed.{proc_closed, each_closed}
use Rattle.low_ir.proofs.OneByOne.{one_more, not_all}
use Rattle.low_ir.proofs.closing.each_closed.Goals as goal

pub returns-then-not-proc_closed : goal.returns-then-not-proc_closed
returns-then-not-proc_closed c =
    sym (not_all (λ ps. each_closed (procs_of c.args.procs.now) (procs_of ps))
    (λ p. proc_closed (procs_of c.args.procs.now) (proc_of p)) refl
    (λ x xs. refl) c.as_slice-proc-items.result.now c.loop-proc.proc-index c.proc-item.result c.loop-proc-test.true
    (ap (λ p. proc_closed (procs_of c.args.procs.now) (proc_of p)) (sym c.proc-item.is)
    ∙ (sym c.proc_closed.ensures ∙ c.if-not-proc_closed.true)))
    ∙ ap (λ ps. each_closed (procs_of c.args.procs.now) (procs_of ps)) c.as_slice-proc-items.ensures

pub loop-proc-preserved : goal.loop-proc-preserved
loop-proc-preserved c =
    subst (λ (xs : List LowProc). each_closed (procs_of c.args.procs.now)
    (procs_of (take (c.loop-proc.proc-index + 1) xs)) ≡ true)
    c.as_slice-proc-items.ensures
    (one_more (λ ps. each_closed (procs_of c.args.procs.now) (procs_of ps))
    (λ p. proc_closed (procs_of c.args.procs.now) (proc_of p)) refl
    (λ x xs. refl) c.as_slice-proc-items.result.now c.loop-proc.proc-index c.proc-item.result c.loop-proc-test.true
    (subst (λ (xs : List LowProc). each_closed (procs_of c.args.procs.now)
    (procs_of (take c.loop-proc.proc-index xs)) ≡ true) (sym c.as_slice-proc-items.ensures) c.loop-proc.invariant)
    (ap (λ p. proc_closed (procs_of c.args.procs.now) (proc_of p)) (sym c.proc-item.is)
    ∙ (sym c.proc_closed.ensures ∙ c.if-not-proc_closed.false)))
