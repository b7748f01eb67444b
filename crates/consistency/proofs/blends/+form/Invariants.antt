use Rattle.std.proofs.Common.{◌≡◌, ◌+◌, ◌*◌, ℕ, take}
use Rattle.std.specs.Prelude.{All}
use Rattle.type_graph.specs.Rows.{places_of}
use Rattle.type_graph.specs.Trees.{EndsWithin, above_all, height}
use Rattle.type_graph.specs.TypeTables.{HasMoreRows}
use Rattle.consistency.specs.Blending.{blend_each, blend_to}
use Rattle.consistency.specs.Known.{AreFormed, EachFormed}
use Rattle.consistency.specs.Pairs.{firsts, seconds}
use Rattle.consistency.proofs.blends.+form.Given as goal

abbrev pub decreases-form : goal.decreases-form
decreases-form l = 2 * height l.types.now l.pair.first.0 + 1

abbrev pub decreases-form_each : goal.decreases-form_each
decreases-form_each l = 2 * above_all (height l.types.now) (firsts l.pairs.now)

abbrev pub invariant-form_each-loop-pair : goal.invariant-form_each-loop-pair
invariant-form_each-loop-pair l = record {
  known : AreFormed l.types l.known;
  grown : HasMoreRows l.fn.types l.types;
  formed : EachFormed l.types (take l.pair-index l.pairs) l.parts.items;
  computed : (depth : ℕ) → All (EndsWithin depth l.fn.types) (firsts (take l.pair-index l.pairs))
      → blend_each (blend_to depth) (firsts (take l.pair-index l.pairs))
      (seconds (take l.pair-index l.pairs)) l.fn.types
      ≡ (places_of l.parts.items, l.types);
}
