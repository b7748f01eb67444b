use Rattle.std.proofs.Common.{◌+◌, ◌<◌, ◌≤◌}
use Rattle.reg_assign.specs.Flow.{Adds, under}
use Rattle.reg_assign.proofs.flow.note_words.Given as goal

-- the place was put under the numbers of so many registers from x10 on
abbrev pub invariant-loop-i : goal.invariant-loop-i
invariant-loop-i l = Adds (λ k. (10 ≤ k) × (k < 10 + l.i)) l.place (under l.fn.lists) (under l.lists)
