use Rattle.std.proofs.Common.{ℕ, ◌≡◌, ◌*◌, ◌-◌, ◌<◌, ◌≤◌, true}
use Rattle.low_ir.specs.Views.{procs_of, code_of}
use Rattle.low_ir.specs.Closed.{behind, is_there}
use Rattle.low_ir.specs.Windows.{windows, window_from}
use Rattle.low_ir.proofs.closing.is_sound.Given as goal

abbrev pub decreases-loop-from : goal.decreases-loop-from
decreases-loop-from l = l.proc.words - l.from

-- the windows before this one find nothing
abbrev pub invariant-loop-from : goal.invariant-loop-from
invariant-loop-from l =
    (k : ℕ) × (l.from ≡ 64 * k) × (l.from ≤ l.proc.words)
    × ((j : ℕ) → j < k → is_there (behind windows (procs_of l.procs) l.proc.words
    (window_from (64 * j) l.proc.params) (code_of l.proc.code)) ≡ true)
