use Rattle.std.proofs.Common.{◌≤◌, length}
use Rattle.std.specs.Prelude.{nat_eq}
use Rattle.indexmap.specs.IndexMap.{get}
use Rattle.assembler.proofs.Places.{FindsFrom}
use Rattle.assembler.proofs.layout.mark_places.Given as goal

-- the marks from this place on are found
abbrev pub invariant-loop-place : goal.invariant-loop-place
invariant-loop-place l = (l.place ≤ length l.items) × FindsFrom l.items l.place (get nat_eq l.places)

abbrev pub decreases-loop-place : goal.decreases-loop-place
decreases-loop-place l = l.place
