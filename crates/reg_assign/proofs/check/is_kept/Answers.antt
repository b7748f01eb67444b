use Rattle.std.proofs.Common.{◌<◌, length, refl, ◌∙◌, subst, arith}
use Rattle.reg_assign.specs.Numbers.{register_at}
use Rattle.placed_code.specs.Places.{place_in}
use Rattle.reg_assign.specs.Flow.{Behind, under}
use Rattle.reg_assign.specs.Walks.{Steps}
use Rattle.reg_assign.specs.Fits.{IsFine}
use Rattle.reg_assign.proofs.Fine.{steps_more, kept_at, fine_where_kept, unread_where_kept}
use Rattle.reg_assign.proofs.check.is_kept.Goals as goal

pub loop-place-init : goal.loop-place-init
loop-place-init c = (
  c.in_ok-begin.ensures.number,
  c.in_ok-begin.ensures.walk,
  c.in_ok-begin.ensures.closed,
  λ j l. let n = c.in_ok-begin.ensures.none in absurd (omega (arith, l, n)),
)

pub returns-then-not-is_fine-clause-kept : goal.returns-then-not-is_fine-clause-kept
returns-then-not-is_fine-clause-kept c = (
  λ z. absurd (let y : ⊥ = cc in y),
  λ k.
      let w = c.loop-place.walk in
      let step = subst (Steps w c.next.new.walk) c.in-Some.is c.in_ok-place.ensures.step in
      let within : w.done < length w.found.items = step.3 in
      let here = c.loop-place.invariant.1.sound w.done 0 within in
      let behind =
      subst (λ n. Behind c.args.items.now (register_at n) c.in-Some.place) c.loop-place.invariant.0
      (subst (Behind c.args.items.now (register_at w.number)) step.2 here) in
      c.if-not-is_fine.ensures.1
      (fine_where_kept c.args.items.now (place_in c.args.places.now) (under c.args.flow.now.reads) c.requires.reads
      c.args.number c.in-Some.place behind k),
)

pub loop-place-preserved : goal.loop-place-preserved
loop-place-preserved c =
    let w = c.loop-place.walk in
    let step = subst (Steps w c.next.new.walk) c.in-Some.is c.in_ok-place.ensures.step in (
      step.0 ∙ c.loop-place.invariant.0,
      c.in_ok-place.ensures.walk,
      c.in_ok-place.ensures.closed,
      steps_more (IsFine c.args.items.now (place_in c.args.places.now) (register_at c.args.number)) w c.next.new.walk
          c.in-Some.place step c.loop-place.invariant.3 (c.if-not-is_fine.ensures.0 refl),
    )

pub returns-clause-kept : goal.returns-clause-kept
returns-clause-kept c =
    let w = c.loop-place.walk in
    let items = c.args.items.now in
    let place = place_in c.args.places.now in
    let lists = under c.args.flow.now.reads in (
      λ t.
          let step = subst (Steps w c.next.new.walk) c.in_default.is c.in_ok-place.ensures.step in
          kept_at items place lists c.requires.reads w c.args.number c.loop-place.invariant.0 c.loop-place.invariant.2
          step.1 c.loop-place.invariant.3 (c.is_unread_at_start.ensures.0 t),
      λ k. c.is_unread_at_start.ensures.1
          (unread_where_kept items place lists c.requires.reads c.args.number k),
    )
