use Rattle.std.proofs.Common.{ℕ, List, ◌≡◌, ◌+◌, ◌*◌, sym, ◌∙◌, ap, subst, refl, arith, true, false, Option, Some, None}
use Rattle.std.specs.Prelude.{nat_lt}
use Rattle.std.specs.Option.{is_some}
use Rattle.low_ir.specs.declared.closing.Window.{Window}
use Rattle.low_ir.specs.Views.{procs_of, code_of}
use Rattle.low_ir.specs.Procedures.{Code, Proc}
use Rattle.low_ir.specs.Closed.{behind, is_there}
use Rattle.low_ir.specs.Windows.{windows, window_from}
use Rattle.low_ir.proofs.WindowLemmas.{Exact, window_exact}
use Rattle.low_ir.proofs.ClosedInWindows.{not_closed, closed_so_far, closed_at_last}
use Rattle.low_ir.proofs.closing.is_sound.Goals as goal

nothing : (o : Option Window) → is_some o ≡ false → o ≡ None
nothing None e = refl
nothing (Some w) e = absurd (let z : ⊥ = cc in z)

something : (o : Option Window) → is_some o ≡ true → is_there o ≡ true
something None e = absurd (let z : ⊥ = cc in z)
something (Some w) e = refl

-- the window that was just looked at
this_one : (procs : List Proc) (words params k from : ℕ) (code : Code) (w : Window) (o : Option Window) → from ≡ 64 * k
    → w ≡ window_from from params → o ≡ behind windows procs words w code → is_some o ≡ true
    → is_there (behind windows procs words (window_from (64 * k) params) code) ≡ true
this_one procs words params k from code w o begins new looked found =
    let same : w ≡ window_from (64 * k) params = new ∙ ap (λ f. window_from f params) begins in
    subst (λ v. is_there (behind windows procs words v code) ≡ true) same
    (subst (λ p. is_there p ≡ true) looked (something o found))

pub returns-then-is_none : goal.returns-then-is_none
returns-then-is_none c =
    let params = c.args.proc.now.params in
    let exact =
    subst (λ w. Exact (λ i. nat_lt i params) w) (sym c.new.ensures) (window_exact c.loop-from.from params) in
    sym (not_closed (procs_of c.args.procs.now) c.args.proc.now.words (code_of c.args.proc.now.code)
    (λ i. nat_lt i params) c.new.result exact (sym c.behind.ensures ∙ nothing c.behind.result c.if-is_none.ensures))

pub returns-then-proc-from-le64 : goal.returns-then-proc-from-le64
returns-then-proc-from-le64 c =
    let k = c.loop-from.invariant.0 in
    let procs = procs_of c.args.procs.now in
    let words = c.args.proc.now.words in
    let params = c.args.proc.now.params in
    let code = code_of c.args.proc.now.code in
    let begins = c.loop-from.invariant.1 in
    let last = c.if-proc-from-le64.true in
    sym (closed_at_last procs words params k code (omega (arith, begins, last)) (closed_so_far procs words params k code
    c.loop-from.invariant.3 (this_one procs words params k c.loop-from.from code c.new.result c.behind.result begins
    c.new.ensures c.behind.ensures c.if-is_none.ensures)))

pub loop-from-preserved : goal.loop-from-preserved
loop-from-preserved c =
    let k = c.loop-from.invariant.0 in
    let procs = procs_of c.args.procs.now in
    let words = c.args.proc.now.words in
    let params = c.args.proc.now.params in
    let code = code_of c.args.proc.now.code in
    let begins = c.loop-from.invariant.1 in
    let more = c.if-proc-from-le64.false in (
      k + 1,
      omega (arith, begins),
      omega (arith, more),
      closed_so_far procs words params k code c.loop-from.invariant.3
          (this_one procs words params k c.loop-from.from code c.new.result c.behind.result begins c.new.ensures
          c.behind.ensures c.if-is_none.ensures),
    )
