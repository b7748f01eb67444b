use Rattle.std.proofs.Common.{◌<◌, ◌≡◌, length, get_or, subst, arith}
use Rattle.std.specs.Int.{bit_at}
use Rattle.std.specs.Prelude.{slice_index}
use Rattle.reg_assign.proofs.Walking.{read_at, at_index}
use Rattle.reg_assign.proofs.Masks.{noted_more}
use Rattle.reg_assign.proofs.assign.note_busy.Goals as goal

pub loop-place-preserved : goal.loop-place-preserved
loop-place-preserved c =
    let p = get_or c.args.found.now c.loop-place.place-index 0 in
    let size = c.loop-place.invariant.0 in
    let below = c.requires c.loop-place.place-index 0 c.loop-place-test.true in
    let l : p < length c.loop-place.busy.items = omega arith in
    let read : slice_index c.loop-place.busy.items p ≡ c.index.result.now =
    read_at c.loop-place.busy.items p c.index.result.now l (omega arith) in
    noted_more c.args.busy.now.items c.loop-place.busy.items c.args.found.now c.args.r c.loop-place.place-index
    c.bit.result c.index.result.now c.bit.ensures.same c.bit.ensures.other c.loop-place.invariant l read

pub returns-clause-found : goal.returns-clause-found
returns-clause-found c p h =
    let l : h.0 < length c.args.found.now = h.1 in
    subst (λ x. bit_at (slice_index c.loop-place.busy.items x) c.args.r ≡ 1) (at_index c.args.found.now p h)
    (c.loop-place.invariant.2 h.0 (omega (arith, l, c.loop-place-test.false)))
