use Rattle.std.proofs.Common.{◌≡◌, Some, length, refl, arith}
use Rattle.std.specs.Prelude.{slice_get}
use Rattle.std.proofs.lemmas.Option.{slice_get_within, slice_get_read}
use Rattle.reg_assign.specs.Flow.{under, IsRead, IsWritten, IsTarget}
use Rattle.reg_assign.proofs.Listings.{upto_none, upto_more, upto_all, told_none, told_more, told_all}
use Rattle.reg_assign.proofs.flow.flow_of.Goals as goal

pub loop-place-init : goal.loop-place-init
loop-place-init c = (
  upto_none IsRead c.args.items.now (under c.new-reads.result) c.new-reads.ensures,
  upto_none IsWritten c.args.items.now (under c.new-writes.result) c.new-writes.ensures,
  upto_none IsTarget c.args.items.now (under c.new-sources.result) c.new-sources.ensures,
  told_none c.args.items.now,
)

pub loop-place-preserved : goal.loop-place-preserved
loop-place-preserved c =
    let at : slice_get c.args.items.now c.loop-place.place ≡ Some c.index-items-place.result =
    slice_get_read c.args.items.now (length c.args.items.now) c.loop-place.place c.index-items-place.result refl
    (omega arith) c.index-items-place.is in (
      upto_more IsRead c.args.items.now c.loop-place.place c.index-items-place.result (under c.loop-place.reads)
          (under c.note_reads.new.lists) at c.loop-place.invariant.0 c.in_ok-note_reads.ensures.added,
      upto_more IsWritten c.args.items.now c.loop-place.place c.index-items-place.result (under c.loop-place.writes)
          (under c.note_writes.new.lists) at c.loop-place.invariant.1 c.in_ok-note_writes.ensures.added,
      upto_more IsTarget c.args.items.now c.loop-place.place c.index-items-place.result (under c.loop-place.sources)
          (under c.note_target.new.lists) at c.loop-place.invariant.2 c.in_ok-note_target.ensures,
      told_more c.args.items.now c.loop-place.place c.index-items-place.result at c.in_ok-note_reads.ensures.told
          c.in_ok-note_writes.ensures.told c.loop-place.invariant.3,
    )

pub returns-clause-reads : goal.returns-clause-reads
returns-clause-reads c =
    upto_all IsRead c.args.items.now c.loop-place.place (under c.loop-place.reads)
    (λ p item e. let l = slice_get_within c.args.items.now p item e in omega arith) c.loop-place.invariant.0

pub returns-clause-writes : goal.returns-clause-writes
returns-clause-writes c =
    upto_all IsWritten c.args.items.now c.loop-place.place (under c.loop-place.writes)
    (λ p item e. let l = slice_get_within c.args.items.now p item e in omega arith) c.loop-place.invariant.1

pub returns-clause-sources : goal.returns-clause-sources
returns-clause-sources c =
    upto_all IsTarget c.args.items.now c.loop-place.place (under c.loop-place.sources)
    (λ p item e. let l = slice_get_within c.args.items.now p item e in omega arith) c.loop-place.invariant.2

pub returns-clause-told : goal.returns-clause-told
returns-clause-told c =
    told_all c.args.items.now c.loop-place.place
    (λ p item e. let l = slice_get_within c.args.items.now p item e in omega arith) c.loop-place.invariant.3
