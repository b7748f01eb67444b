use Rattle.std.proofs.Common.{◌≡◌, ◌+◌, ◌*◌, true, take}
use Rattle.grift_base.specs.Types.{parts_of}
use Rattle.type_graph.specs.Rows.{places_of, row_of}
use Rattle.type_graph.specs.Trees.{above_all, height, related}
use Rattle.blame_audit.specs.Up.{up}
use Rattle.blame_audit.specs.Known.{AreUp}
use Rattle.blame_audit.proofs.ups.+check.Given as goal

abbrev pub decreases-check : goal.decreases-check
decreases-check l = 3 * (height l.types.now l.a.0 + height l.types.now l.b.0) + 2

abbrev pub decreases-check_rows : goal.decreases-check_rows
decreases-check_rows l =
    3 * (above_all (height l.types.now) (parts_of (row_of l.row.now))
    + above_all (height l.types.now) (parts_of (row_of l.other.now))) + 1

abbrev pub decreases-check_each : goal.decreases-check_each
decreases-check_each l =
    3 * (above_all (height l.types.now) (places_of l.parts.now)
    + above_all (height l.types.now) (places_of l.others.now))

abbrev pub invariant-check_each-loop-i : goal.invariant-check_each-loop-i
invariant-check_each-loop-i l = record {
  known : AreUp l.types l.known;
  related : related (up l.types) (places_of (take l.i l.parts)) (places_of (take l.i l.others)) ≡ true;
}
