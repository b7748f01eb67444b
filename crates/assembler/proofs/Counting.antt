-- What some turns reach, they reach with as many turns counted.
use Rattle.std.proofs.Common.{ℕ, zero, suc, ◌+◌, ◌≤◌, arith}
use Rattle.run_laws.specs.Runs.{Verdict, Exhausted, Wrong}
use Rattle.run_laws.specs.Machines.{Next, Go, Stop, Machine, Onward, Reaches}
use Rattle.run_laws.specs.Meters.{Metered, metered, each_one, charge}

module _ {T B V : Type 0} (N : Machine T B V) (P Q : T → Type 0) (b : ℕ) where
  abbrev Way : Metered T → Type 0
  Way m = P m.rest × (m.spent ≤ b)

  abbrev End : Metered T → Type 0
  End m = Q m.rest × (m.spent ≤ b)

  onward : (k n : ℕ) → n + 1 + k ≤ b → ((t : T) → Reaches N P Q k t
      → Reaches (metered each_one N) Way End k (record { spent = n + 1; rest = t })) → (x : Next T V)
      → Onward x P (Reaches N P Q k) → Onward (charge (n + 1) x) Way (Reaches (metered each_one N) Way End k)
  onward k n h ih (Go t) r = ih t r
  onward k n h ih (Stop (Verdict v) t) r = absurd r
  onward k n h ih (Stop Exhausted t) r = (r, omega arith)
  onward k n h ih (Stop Wrong t) r = absurd r

  pub counted : (k n : ℕ) (t : T) → n + k ≤ b → Reaches N P Q k t
      → Reaches (metered each_one N) Way End k (record { spent = n; rest = t })
  counted zero n t h r = (r, omega arith)
  counted (suc k) n t h r =
      ((r.0, omega arith), onward k n (omega arith) (λ t1 r1. counted k (n + 1) t1 (omega arith) r1) (N.step t) r.1)
