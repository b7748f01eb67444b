-- What turns of a run cost: prices of casts and of other turns, whatever kinds of steps are told apart.
use Rattle.std.specs.Prelude.{ℕ, Option}
use Rattle.cast_modes.specs.Modes.{Shape}

-- of a turn: 1 if it makes a step, the words that it asks for, and its budget in instructions
pub record Cost : Type 0 where
  pub acts : ℕ
  pub asks : ℕ
  pub budget : ℕ

abbrev pub no_cost : Cost
no_cost = record { acts = 0; asks = 0; budget = 0 }

-- what a cast costs at a value of a shape, what a part of a value in Dyn costs, and what other turns cost by the kinds
-- of their steps, with the words that they make and those of functions among them. K has the kinds of steps, C the
-- casts; a turn that makes no step has no kind.
pub record Prices (K C : Type 0) : Type 0 where
  pub cast : C → Shape C → Cost
  pub part : Cost
  pub other : Option K → ℕ → ℕ → Cost
