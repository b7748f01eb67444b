use Rattle.std.proofs.Common.{arith}
use Rattle.coer_core.proofs.FreshRows.{no_such, next_rows, next_tallest}
use Rattle.coer_core.proofs.rows.with_coercions.Goals as goal

pub add_cast-requires-clause-absent : goal.add_cast-requires-clause-absent
add_cast-requires-clause-absent c =
    no_such c.args.casts.now c.as_slice-cast-items.result.now c.loop-cast.cast-index _ _ c.as_slice-cast-items.ensures
    c.len.ensures.distinct (omega (arith, c.loop-cast-test.true)) c.loop-cast.invariant.rows_are

pub loop-cast-preserved : goal.loop-cast-preserved
loop-cast-preserved c = record {
  fits = c.add_cast.ensures.fits;
  rows_are =
      next_rows c.args.casts.now c.as_slice-cast-items.result.now c.loop-cast.cast-index _ _ _
      c.as_slice-cast-items.ensures (omega (arith, c.loop-cast-test.true)) c.loop-cast.invariant.rows_are
      c.in_ok-height.ensures.rows;
  made = c.in_ok-height.ensures.coercions;
  highest =
      next_tallest c.args.types.now c.args.casts.now c.as_slice-cast-items.result.now c.loop-cast.cast-index _ _ _ _
      c.as_slice-cast-items.ensures (omega (arith, c.loop-cast-test.true)) c.loop-cast.invariant.highest
      c.in_ok-height.ensures.height c.max-tallest.ensures;
}
