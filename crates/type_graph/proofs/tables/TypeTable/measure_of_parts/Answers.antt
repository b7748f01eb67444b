use Rattle.std.proofs.Common.{◌<◌, sym, subst}
use Rattle.type_graph.specs.TypeTables.{MayBePart}
use Rattle.type_graph.specs.declared.tables.TheConstants.{MOST_HEIGHT}
use Rattle.type_graph.proofs.MeasureLemmas.{part_at, measure_more}
use Rattle.type_graph.proofs.tables.TypeTable.measure_of_parts.Goals as goal

pub measure-requires : goal.measure-requires
measure-requires c =
    (part_at (MayBePart c.args.self.now) c.args.parts.now c.loop-part.part-index _ c.loop-part-test.true
    c.requires).there

pub with_part-measure-requires-clause-low : goal.with_part-measure-requires-clause-low
with_part-measure-requires-clause-low c =
    subst (λ n. n < MOST_HEIGHT) (sym c.measure.ensures.height_is)
    (part_at (MayBePart c.args.self.now) c.args.parts.now c.loop-part.part-index _ c.loop-part-test.true c.requires).low

pub loop-part-preserved : goal.loop-part-preserved
loop-part-preserved c =
    measure_more c.args.self.now c.args.parts.now c.loop-part.part-index _ c.loop-part.measure c.measure.result
    c.with_part-measure.result c.loop-part-test.true c.loop-part.invariant c.measure.ensures
    c.with_part-measure.ensures.height c.with_part-measure.ensures.size
