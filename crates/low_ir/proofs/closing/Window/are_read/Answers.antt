use Rattle.std.proofs.Common.{◌≡◌, ◌+◌, true, take, sym, ◌∙◌, refl, ap, subst}
use Rattle.low_ir.specs.Closed.{is_read, are_read}
use Rattle.low_ir.specs.Windows.{windows}
use Rattle.low_ir.proofs.OneByOne.{one_more, not_all}
use Rattle.low_ir.proofs.closing.Window.are_read.Goals as goal

pub returns-then-not-is_read : goal.returns-then-not-is_read
returns-then-not-is_read c =
    sym (not_all (are_read windows c.args.words c.args.self) (is_read windows c.args.words c.args.self) refl
    (λ x xs. refl) c.as_slice-source-items.result.now c.loop-source.source-index _ c.loop-source-test.true
    (sym c.is_read.ensures ∙ c.if-not-is_read.true))
    ∙ ap (are_read windows c.args.words c.args.self) c.as_slice-source-items.ensures

pub loop-source-preserved : goal.loop-source-preserved
loop-source-preserved c =
    subst (λ xs. are_read windows c.args.words c.args.self (take (c.loop-source.source-index + 1) xs) ≡ true)
    c.as_slice-source-items.ensures
    (one_more (are_read windows c.args.words c.args.self) (is_read windows c.args.words c.args.self) refl
    (λ x xs. refl) c.as_slice-source-items.result.now c.loop-source.source-index _ c.loop-source-test.true
    (subst (λ xs. are_read windows c.args.words c.args.self (take c.loop-source.source-index xs) ≡ true)
    (sym c.as_slice-source-items.ensures) c.loop-source.invariant)
    (sym c.is_read.ensures ∙ c.if-not-is_read.false))
