-- Counts of faults, which the sources and sinks of the outside keep.
use Rattle.std.specs.Prelude.{ℕ, ◌≡◌, ◌+◌, ◌-◌, ◌^◌, Bool, true, false, min}

-- the greatest count
abbrev pub last_count : ℕ
last_count = 2 ^ 64 - 1

-- one more, up to the greatest count
abbrev pub next_count : ℕ → ℕ
next_count count = min (count + 1) last_count

-- a count over a call: one more where the call failed, and else as before
abbrev pub Counts : Bool → ℕ → ℕ → Type 0
Counts true old new = new ≡ next_count old
Counts false old new = new ≡ old
