-- What stands after a step of a part, in the part's place.
use Rattle.std.proofs.Common.{◌≡◌, refl}
use Rattle.std.specs.Prelude.{Option, Some, None, is_some, true, false}
use Rattle.grift_base.specs.World.{WorldState}
use Rattle.core_calc.specs.Outcome.{Store, Outcome, Goes, Blames, Traps, Stuck, inside, if_some}
use Rattle.core_redexes.specs.Moves.{after, after_inside}

pub after_of_inside : {A B : Type 0} (place : A → B) (outcome : Outcome A) (old : A) (store : Store)
    (world : WorldState) → after (inside place outcome) (place old) store world
    ≡ after_inside place (after outcome old store world)
after_of_inside place (Goes a s w) old store world = refl
after_of_inside place (Blames label) old store world = refl
after_of_inside place (Traps trap w) old store world = refl
after_of_inside place Stuck old store world = refl

none_is_some : {A : Type 0} (a : A) → is_some (Some a) ≡ false → ⊥
none_is_some a e = cc

some_is_none : (A : Type 0) → is_some {T = A} None ≡ true → ⊥
some_is_none A e = cc

-- a part that is no value takes the step, in its place
pub part_steps : {A B V : Type 0} (place : A → B) (option : Option V) (go : V → Outcome B) (outcome : Outcome A)
    (old : A) (store : Store) (world : WorldState) → is_some option ≡ false →
    after (if_some option go (inside place outcome)) (place old) store world
    ≡ after_inside place (after outcome old store world)
part_steps place (Some v) go outcome old store world e = absurd (none_is_some v e)
part_steps place None go outcome old store world e = after_of_inside place outcome old store world

-- where the part is a value, it is the redex that takes the step
pub redex_steps : {B V : Type 0} (option : Option V) (go : V → Outcome B) (other : Outcome B) (old : B)
    (store : Store) (world : WorldState) → is_some option ≡ true →
    after (if_some option go other) old store world ≡ after (if_some option go Stuck) old store world
redex_steps (Some v) go other old store world e = refl
redex_steps {V = V} None go other old store world e = absurd (some_is_none V e)

-- where the first part is a value, the step is made behind it
pub passes : {A B V : Type 0} (place : A → B) (option : Option V) (outcome : Outcome A) (other : Outcome B) (old : A)
    (store : Store) (world : WorldState) → is_some option ≡ true →
    after (if_some option (λ v. inside place outcome) other) (place old) store world
    ≡ after_inside place (after outcome old store world)
passes place (Some v) outcome other old store world e = after_of_inside place outcome old store world
passes {V = V} place None outcome other old store world e = absurd (some_is_none V e)

-- a second part that is no value takes the step behind a first one that is
pub second_steps : {A B V W : Type 0} (place : A → B) (option : Option V) (inner : Option W) (go : V → W → Outcome B)
    (outcome : Outcome A) (other : Outcome B) (old : A) (store : Store) (world : WorldState) →
    is_some option ≡ true → is_some inner ≡ false →
    after (if_some option (λ v. if_some inner (go v) (inside place outcome)) other) (place old) store world
    ≡ after_inside place (after outcome old store world)
second_steps place (Some v) inner go outcome other old store world e f =
    part_steps place inner (go v) outcome old store world f
second_steps {V = V} place None inner go outcome other old store world e f = absurd (some_is_none V e)

-- where both parts are values, it is the redex that takes the step
pub both_step : {B V W : Type 0} (option : Option V) (inner : Option W) (made waits other : Outcome B) (old : B)
    (store : Store) (world : WorldState) → is_some option ≡ true → is_some inner ≡ true →
    after (if_some option (λ v. if_some inner (λ w. made) waits) other) old store world ≡ after made old store world
both_step (Some v) (Some w) made waits other old store world e f = refl
both_step {W = W} (Some v) None made waits other old store world e f = absurd (some_is_none W f)
both_step {V = V} None inner made waits other old store world e f = absurd (some_is_none V e)
