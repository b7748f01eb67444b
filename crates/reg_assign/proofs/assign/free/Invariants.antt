use Rattle.std.proofs.Common.{ℕ, ◌<◌, ◌≤◌, ◌≡◌}
use Rattle.std.specs.Int.{bit_at}
use Rattle.reg_assign.proofs.assign.free.Given as goal

-- those before are taken
abbrev pub invariant-loop-r : goal.invariant-loop-r
invariant-loop-r l = (q : ℕ) → 3 ≤ q → q < l.r → bit_at l.taken q ≡ 1
