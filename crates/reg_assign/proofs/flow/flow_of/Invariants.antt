use Rattle.reg_assign.specs.Flow.{under, IsRead, IsWritten, IsTarget}
use Rattle.reg_assign.proofs.Listings.{Upto, ToldUpto}
use Rattle.reg_assign.proofs.flow.flow_of.Given as goal

-- the items so far are listed
abbrev pub invariant-loop-place : goal.invariant-loop-place
invariant-loop-place l =
    Upto IsRead l.items l.place (under l.reads) × Upto IsWritten l.items l.place (under l.writes)
    × Upto IsTarget l.items l.place (under l.sources) × ToldUpto l.items l.place
