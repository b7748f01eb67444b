-- What each step of a machine leads to, its run leads to.
use Rattle.std.proofs.Common.{Bool, true, false, ℕ, zero, suc, ◌≡◌, Option, Some, None, refl}
use Rattle.run_laws.specs.Runs.{Ending, Wrong}
use Rattle.run_laws.specs.Machines.{Next, Go, Stop, Machine, and_then, steps}
use Rattle.low_ir.specs.Steps.{given, only_if}

-- it goes on from a state with one property, or ends with an ending and a state that have another
abbrev pub LeadsTo : {S V : Type 0} → (S → Type 0) → (Ending V → S → Type 0) → Next S V → Type 0
LeadsTo Good AtEnd (Go s) = Good s
LeadsTo Good AtEnd (Stop e s) = AtEnd e s

module _ {S A V : Type 0} (M : Machine S A V) (Good : S → Type 0) (AtEnd : Ending V → S → Type 0)
    (step : (s : S) → Good s → LeadsTo Good AtEnd (M.step s)) where
  goes_on_from : (x : Next S V) (go : S → Next S V) → LeadsTo Good AtEnd x
      → ((s : S) → Good s → LeadsTo Good AtEnd (go s)) → LeadsTo Good AtEnd (and_then x go)
  goes_on_from (Go s) go l h = h s l
  goes_on_from (Stop e s) go l h = l

  pub leads_along : (n : ℕ) (s : S) → Good s → LeadsTo Good AtEnd (steps M s n)
  leads_along zero s g = g
  leads_along (suc n) s g = goes_on_from (M.step s) (λ s1. steps M s1 n) (step s g) (λ s1 g1. leads_along n s1 g1)

-- a step whose meaning depends on what is there, or on a test
module _ {S V : Type 0} (L : Next S V → Type 0) (s : S) (wrong : L (Stop Wrong s)) where
  pub leads_given : {A : Type 0} (o : Option A) (go : A → Next S V) → ((x : A) → o ≡ Some x → L (go x))
      → L (given s o go)
  leads_given None go h = wrong
  leads_given (Some x) go h = h x refl

  pub leads_if : (b : Bool) (go : Next S V) → (b ≡ true → L go) → L (only_if s b go)
  leads_if true go h = h refl
  leads_if false go h = wrong
