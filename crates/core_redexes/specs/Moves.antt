-- What stands after a step.
use Rattle.std.specs.Prelude.{◌≡◌}
use Rattle.grift_base.specs.World.{WorldState}
use Rattle.grift_base.specs.Types.{TypeRows}
use Rattle.core_calc.specs.Terms.{Term}
use Rattle.core_calc.specs.Outcome.{Store, Outcome, Goes, Blames, Traps, Stuck}
use Rattle.core_redexes.specs.declared.moves.Moved.{Moved}
use Rattle.core_redexes.specs.declared.moves.Moved.TheVariants.{Goes as GoesOn, Blames as BlamesLabel}
use Rattle.core_redexes.specs.declared.moves.Moved.TheVariants.{Traps as TrapsSo, Stuck as IsStuck}

-- what happened, with the item, the cells and the outside as they are then
pub record After (A : Type 0) : Type 0 where
  pub moved : Moved
  pub item : A
  pub store : Store
  pub world : WorldState

-- after this outcome, where these were before: only a step that goes on changes the item and the cells
abbrev pub after : {A : Type 0} → Outcome A → A → Store → WorldState → After A
after (Goes a store world) old s w = record { moved = GoesOn; item = a; store = store; world = world }
after (Blames label) old s w =
    record { moved = BlamesLabel (record { 0 = label }); item = old; store = s; world = w }
after (Traps trap world) old s w = record { moved = TrapsSo trap; item = old; store = s; world = world }
after Stuck old s w = record { moved = IsStuck; item = old; store = s; world = w }

-- the same, with the item in its place
abbrev pub after_inside : {A B : Type 0} → (A → B) → After A → After B
after_inside place done =
    record { moved = done.moved; item = place done.item; store = done.store; world = done.world }

-- with all cells and outsides, a term becomes another by this step, which leaves these as they are
abbrev pub Moves : (Store → WorldState → Term → Outcome Term) → Term → Term → Moved → Type 0
Moves step old new moved = (store : Store) (world : WorldState) → after (step store world old) old store world
    ≡ record { moved = moved; item = new; store = store; world = world }

-- the same with all types
abbrev pub MovesBy : (TypeRows → Store → WorldState → Term → Outcome Term) → Term → Term → Moved → Type 0
MovesBy step old new moved = (types : TypeRows) → Moves (step types) old new moved
