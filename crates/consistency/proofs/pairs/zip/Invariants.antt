use Rattle.std.proofs.Common.{◌≡◌, take}
use Rattle.type_graph.specs.Rows.{places_of}
use Rattle.consistency.specs.Pairs.{firsts, seconds}
use Rattle.consistency.proofs.pairs.zip.Given as goal

abbrev pub invariant-loop-i : goal.invariant-loop-i
invariant-loop-i l = record {
  left : firsts l.pairs.items ≡ places_of (take l.i l.left);
  right : seconds l.pairs.items ≡ places_of (take l.i l.right);
}
