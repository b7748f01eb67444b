use Rattle.std.proofs.Common.{refl, ◌∙◌, arith}
use Rattle.reg_assign.proofs.Fine.{placed, allowed_more, allowed_all}
use Rattle.reg_assign.proofs.check.are_allowed.Goals as goal

pub returns-then-not-is_allowed : goal.returns-then-not-is_allowed
returns-then-not-is_allowed c = (
  λ z. absurd (let y : ⊥ = cc in y),
  λ allowed. c.if-not-is_allowed.ensures.1 (λ r e.
      allowed c.loop-place.place-index r
      (placed c.args.places.now c.loop-place.place-index c.place-item.result c.loop-place-test.true c.place-item.is ∙
      e)),
)

pub loop-place-preserved : goal.loop-place-preserved
loop-place-preserved c =
    allowed_more c.args.places.now c.loop-place.place-index c.place-item.result c.loop-place-test.true c.place-item.is
    (c.if-not-is_allowed.ensures.0 refl) c.loop-place.invariant

pub returns : goal.returns
returns c = (
  λ t. allowed_all c.args.places.now c.loop-place.place-index (omega arith) c.loop-place.invariant,
  λ allowed. refl,
)
