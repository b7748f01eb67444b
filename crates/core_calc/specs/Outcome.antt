-- What a step comes to.
use Rattle.std.specs.Prelude.{ℕ, List, Option, Some, None}
use Rattle.grift_base.specs.World.{WorldState}
use Rattle.grift_base.specs.declared.verdicts.Trap.{Trap}
use Rattle.core_calc.specs.Terms.{Value}

-- the cells of boxes and vectors; a cell is a list of values
abbrev pub Store : Type 0
Store = List (List Value)

pub data Outcome (A : Type 0) : Type 0 where
  -- it goes on, with this store and this world
  Goes : A → Store → WorldState → Outcome A
  -- a label is blamed
  Blames : ℕ → Outcome A
  -- an operation has no answer; the world may have changed
  Traps : Trap → WorldState → Outcome A
  -- there is no next step
  Stuck : Outcome A

-- the outcome of a part, put back in its place
abbrev pub inside : {A B : Type 0} → (A → B) → Outcome A → Outcome B
inside place (Goes a store world) = Goes (place a) store world
inside place (Blames label) = Blames label
inside place (Traps trap world) = Traps trap world
inside place Stuck = Stuck

-- goes on with what is there, or else with the other outcome
abbrev pub if_some : {A B : Type 0} → Option A → (A → Outcome B) → Outcome B → Outcome B
if_some (Some a) go other = go a
if_some None go other = other

-- goes on with what must be there
abbrev pub with_some : {A B : Type 0} → Option A → (A → Outcome B) → Outcome B
with_some option go = if_some option go Stuck
