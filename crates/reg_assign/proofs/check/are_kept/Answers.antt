use Rattle.std.proofs.Common.{length, refl, sym, ◌∙◌, subst, add-one, arith}
use Rattle.reg_assign.specs.Numbers.{register_at}
use Rattle.placed_code.specs.Places.{place_in}
use Rattle.reg_assign.specs.Flow.{under}
use Rattle.reg_assign.specs.Walks.{IsIdle}
use Rattle.reg_assign.proofs.Kept.{all_kept, kept_of_all}
use Rattle.reg_assign.proofs.Fine.{kept_more, kept_below}
use Rattle.reg_assign.proofs.check.are_kept.Goals as goal

pub is_kept-requires-clause-idle : goal.is_kept-requires-clause-idle
is_kept-requires-clause-idle c = c.loop-number.invariant.0

pub returns-then-not-kept : goal.returns-then-not-kept
returns-then-not-kept c = (
  λ z. absurd (let y : ⊥ = cc in y),
  λ h.
      let each = kept_of_all c.args.items.now (place_in c.args.places.now) h (register_at c.loop-number.number) in
      sym c.if-not-kept.true ∙ c.in_ok-kept.ensures.kept.1 each,
)

pub loop-number-preserved : goal.loop-number-preserved
loop-number-preserved c = (
  subst (λ n. IsIdle (length c.args.items.now) n c.is_kept.new.walk) (sym (add-one c.loop-number.number))
      c.in_ok-kept.ensures.idle,
  kept_more c.args.items.now (place_in c.args.places.now) c.loop-number.number c.loop-number.invariant.1
      (c.in_ok-kept.ensures.kept.0 c.if-not-kept.false),
)

pub returns : goal.returns
returns c = (
  λ t.
      all_kept c.args.items.now (place_in c.args.places.now) c.in_ok-flow.ensures.told c.requires
      (kept_below c.args.items.now (place_in c.args.places.now) c.loop-number.number (under c.in_ok-flow.flow.reads)
      c.in_ok-flow.ensures.reads (λ k l. c.bound-number-end.ensures k (omega (arith, l, c.loop-number-test.false)))
      c.loop-number.invariant.1),
  λ h. refl,
)
