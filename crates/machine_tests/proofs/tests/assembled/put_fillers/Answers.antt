use Rattle.std.proofs.Common.{◌≡◌, ◌∙◌, ap, arith, ℕ, ◌++◌, ◌∷◌, [], replicate}
use Rattle.rv_isa.specs.declared.inst.Inst.{Inst}
use Rattle.rv_machine.specs.declared.real.RealItem.TheVariants.{Op}
use Rattle.machine_tests.proofs.Across.{filler, one_more}
use Rattle.machine_tests.proofs.tests.assembled.put_fillers.Goals as goal

pub loop-preserved : goal.loop-preserved
loop-preserved c =
    one_more c.loop.counter c.args.items.now c.loop.items c.push.new.self c.loop.invariant
    (c.in_ok-push.ensures.ok ∙ ap (λ (i : Inst). c.loop.items ++ Op i ∷ []) c.add.ensures)

pub returns : goal.returns
returns c =
    let e : c.loop.counter ≡ c.args.fillers = omega (arith, c.loop-test.false, c.loop.auto.counter-end) in
    c.loop.invariant ∙ ap (λ (n : ℕ). c.args.items.now ++ replicate n filler) e
