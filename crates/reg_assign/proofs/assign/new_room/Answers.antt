use Rattle.std.proofs.Common.{◌<◌, ◌≡◌, length, replicate, sym, ◌∙◌, ap, subst, rules, arith}
use Rattle.std.specs.Int.{bit_at}
use Rattle.std.specs.Prelude.{All, Contains, slice_index}
use Rattle.rv_select.specs.declared.code.VReg.TheVariants.{Real}
use Rattle.reg_assign.specs.Numbers.{register_at}
use Rattle.reg_assign.specs.Flow.{under}
use Rattle.reg_assign.proofs.Listings.{at_real}
use Rattle.reg_assign.proofs.Rooms.{known_by}
use Rattle.reg_assign.proofs.Assigned.{RealsUpto, no_reals, reals_more, first_room, idle_on, idle_after, found_below}
use Rattle.reg_assign.proofs.assign.new_room.Goals as goal

pub loop-r-init : goal.loop-r-init
loop-r-init c =
    let zero : c.in_ok-busy.busy.items ≡ replicate (length c.args.items.now) 0 = search rules in (
      idle_on (length c.args.items.now) 0 3 c.in_ok-walk.walk (omega arith) (search rules),
      subst (λ xs. RealsUpto c.args.items.now xs 3) (sym zero) (no_reals c.args.items.now),
    )

pub note_busy-requires : goal.note_busy-requires
note_busy-requires c =
    let size = c.loop-r.invariant.1.size in
    subst (λ xs. All (λ p. p < length c.loop-r.busy.items) xs) (sym c.as_slice.ensures.value)
    (found_below c.args.items.now c.finish.new.walk (length c.loop-r.busy.items) (sym size) c.in_ok-finish.ensures.walk)

pub loop-r-preserved : goal.loop-r-preserved
loop-r-preserved c =
    let items = c.args.items.now in
    let r = c.loop-r.r in
    let walk = c.finish.new.walk in
    let inv = c.loop-r.invariant in
    let number = c.in_ok-finish.ensures.number ∙ c.in_ok-begin.ensures.number in
    let mine =
    known_by items walk (Real r) (under c.args.flow.now.reads) c.requires.reads
    (ap register_at number ∙ sym (at_real r (let l = c.loop-r-test.true in omega (arith, l))))
    c.in_ok-finish.ensures.walk
    c.in_ok-finish.ensures.closed c.in_ok-finish.ensures.all in
    let found = c.as_slice.ensures.value in (
      idle_after items walk r number c.in_ok-finish.ensures.walk,
      reals_more items c.loop-r.busy.items c.note_busy.new.busy.items r inv.1 mine c.note_busy.ensures.size
          (λ p q d. c.note_busy.ensures.other p q (λ e. d (e ∙ c.register.ensures)))
          (λ p m. subst (λ x. bit_at (slice_index c.note_busy.new.busy.items p) x ≡ 1) c.register.ensures
          (c.note_busy.ensures.found p (subst (λ xs. Contains xs p) (sym found) m)))
          (λ p away. c.note_busy.ensures.still p (λ m. away (subst (λ xs. Contains xs p) found m))),
    )

pub returns : goal.returns
returns c =
    first_room c.args.items.now (record { walk = c.loop-r.walk; busy = c.loop-r.busy }) c.loop-r.r (omega arith)
    (omega arith) c.loop-r.invariant.1 c.loop-r.invariant.0 c.requires.holds
