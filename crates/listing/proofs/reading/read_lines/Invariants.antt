use Rattle.std.proofs.Common.{length}
use Rattle.listing.proofs.ReadSoFar.{IsReadSoFar}
use Rattle.listing.proofs.reading.read_lines.Given as goal

abbrev pub invariant-loop-rest : goal.invariant-loop-rest
invariant-loop-rest l = IsReadSoFar l.first l.text l.words l.rest l.next

abbrev pub decreases-loop-rest : goal.decreases-loop-rest
decreases-loop-rest l = length l.rest
