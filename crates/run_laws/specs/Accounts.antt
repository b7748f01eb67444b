-- Following within an account, and coming in time by one.
use Rattle.std.specs.Prelude.{◌⊎◌, ℕ, ◌≤◌}
use Rattle.run_laws.specs.Runs.{Run, Backed, Reached, Any, IsPrefix, IsExhausted, HasVerdictOf}
use Rattle.run_laws.specs.Meters.{Metered}

-- X follows Y within an account: K relates what they show at moments that correspond as X goes on, and L what X shows
-- when it has come to Y's moment, or has run out on the way there. Nothing else is asked of what X shows there: where X
-- does one large thing for several small ones of Y, its state before that is the only one with Y's output, and shows
-- more than K would allow
pub record FollowsWithin {A B V : Type 0} (K L : A → B → Type 0) (X : Run A V) (Y : Run B V) : Type 0 where
  pub back : (m : ℕ) → (n : ℕ) × Backed K (X m) (Y n)
  pub forth : (n : ℕ) → (m : ℕ) × L (X m).shown (Y n).shown × Reached Any (X m) (Y n)

-- at most what an account of the other's moment allows was spent
abbrev pub KeepsBudget : {A B : Type 0} → (B → ℕ) → Metered A → B → Type 0
KeepsBudget budget a b = a.spent ≤ budget b

-- whatever Y has come to, X is exhausted or has come to after as many turns as an account of that moment says: to
-- output that begins with Y's, with the same verdict where Y has ended
abbrev pub ComesWithin : {A B V : Type 0} → (B → ℕ) → Run A V → Run B V → Type 0
ComesWithin budget X Y =
    (n k : ℕ) → budget (Y n).shown ≤ k → IsExhausted (X k)
    ⊎ (IsPrefix (Y n).output (X k).output × HasVerdictOf (X k).ending (Y n).ending)
