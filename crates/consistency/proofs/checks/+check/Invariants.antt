use Rattle.std.proofs.Common.{◌≡◌, ◌+◌, ◌*◌, true, take}
use Rattle.type_graph.specs.Trees.{above_all, height, related}
use Rattle.consistency.specs.Consistency.{consistent}
use Rattle.consistency.specs.Known.{AreConsistent}
use Rattle.consistency.specs.Pairs.{firsts, seconds}
use Rattle.consistency.proofs.checks.+check.Given as goal

abbrev pub decreases-check : goal.decreases-check
decreases-check l = 2 * height l.types.now l.pair.first.0 + 1

abbrev pub decreases-check_each : goal.decreases-check_each
decreases-check_each l = 2 * above_all (height l.types.now) (firsts l.pairs.now)

abbrev pub invariant-check_each-loop-pair : goal.invariant-check_each-loop-pair
invariant-check_each-loop-pair l = record {
  related : related (consistent l.types) (firsts (take l.pair-index l.pairs)) (seconds (take l.pair-index l.pairs))
      ≡ true;
  known : AreConsistent l.types l.known;
}
