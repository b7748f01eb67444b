-- Casts of values, and what a wrapper's types say.
use Rattle.std.specs.Prelude.{ℕ, ◌&&◌, not, if◌then◌else◌, Option}
use Rattle.grift_base.specs.World.{WorldState}
use Rattle.grift_base.specs.Types.{TypeRow, TypeRows, row_at, is_dyn, is_base, same_head}
use Rattle.core_calc.specs.Terms.{Term, Value, Cast, ValueTerm, WrapValue, InjectValue}
use Rattle.core_calc.specs.Outcome.{Store, Outcome, Goes, Blames, Stuck, with_some}

-- the rows of two types; a type that the table does not have leaves the step stuck
abbrev pub with_rows : {A : Type 0} → TypeRows → ℕ → ℕ → (TypeRow → TypeRow → Outcome A) → Outcome A
with_rows types from to go = with_some (row_at types from) (λ row. with_some (row_at types to) (λ other. go row other))

-- the types of a part of both types
abbrev pub with_part_of_both : {A : Type 0} → TypeRows → (TypeRow → Option ℕ) → ℕ → ℕ → (ℕ → ℕ → Outcome A) → Outcome A
with_part_of_both types part from to go =
    with_rows types from to (λ row other. with_some (part row)
    (λ inner. with_some (part other) (λ outer. go inner outer)))

module _ (types : TypeRows) (store : Store) (world : WorldState) where
  -- a value out of Dyn is cast from the type that it kept
  abbrev pub cast_out : Value → ℕ → ℕ → Outcome Term
  cast_out (InjectValue v kept) to label = Goes (Cast (ValueTerm v) kept to label) store world
  cast_out _ to label = Stuck

  -- the first case that fits
  abbrev pub cast_between : TypeRow → TypeRow → Value → ℕ → ℕ → ℕ → Outcome Term
  cast_between row other v from to label =
      if is_dyn row && is_dyn other then Goes (ValueTerm v) store world
      else if is_dyn other then Goes (ValueTerm (InjectValue v from)) store world
      else if is_dyn row then cast_out v to label
      else if not (same_head row other) then Blames label
      else if is_base row then Goes (ValueTerm v) store world
      else Goes (ValueTerm (WrapValue v from label to)) store world

  -- the step of a cast of a value
  abbrev pub cast_step : Value → ℕ → ℕ → ℕ → Outcome Term
  cast_step v from to label = with_rows types from to (λ row other. cast_between row other v from to label)
