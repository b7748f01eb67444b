-- Values in the merged mode, over what stands under proxies, and what the decisions of that mode make of them.
use Rattle.std.specs.Prelude.{ℕ, zero, suc}
use Rattle.grift_base.specs.Types.{TypeHead, TypeRows}
use Rattle.coercion_norm.specs.Coercions.{Coercion}
use Rattle.coercion_norm.specs.CoercionTables.{cast_of, composition_of}
use Rattle.cast_modes.specs.Modes.{Shape, Bare, Wrapped, Injected, Decision, Keeping, Wrapping, Rewrapping}
use Rattle.cast_modes.specs.Modes.{Unwrapping, Injecting, Opening, Making, Blaming}
use Rattle.coercion_norm.specs.MergedMode.{applied}

pub data Merged (A : Type 0) : Type 0 where
  -- an integer, a truth value or unit, by the head of its type and its word
  Base : TypeHead → ℕ → Merged A
  -- a function, a tuple, a box or a vector
  Solid : A → Merged A
  -- with a proxy
  Proxied : A → Coercion → Merged A
  -- in Dyn, with the type that it keeps
  InDyn : ℕ → Merged A → Merged A

-- what a cast comes to: a value, the blame of a label, or nothing, where a value isn't of the type that is cast
pub data Outcome (A : Type 0) : Type 0 where
  Stuck : Outcome A
  Gives : Merged A → Outcome A
  Blames : ℕ → Outcome A

abbrev pub then_outcome : {A : Type 0} → Outcome A → (Merged A → Outcome A) → Outcome A
then_outcome Stuck go = Stuck
then_outcome (Gives u) go = go u
then_outcome (Blames label) go = Blames label

-- what a decision makes of a value, where it is told what further casts come to
abbrev pub decided : {A : Type 0} → (Coercion → Merged A → Outcome A) → Decision Coercion → Merged A → Outcome A
decided cast Keeping u = Gives u
decided cast (Wrapping c) (Solid a) = Gives (Proxied a c)
decided cast (Rewrapping c) (Proxied a old) = Gives (Proxied a c)
decided cast Unwrapping (Proxied a old) = Gives (Solid a)
decided cast (Injecting kept) u = Gives (InDyn kept u)
decided cast (Opening c) (InDyn kept u) = cast c u
decided cast (Making c d) u = then_outcome (cast c u) (cast d)
decided cast (Blaming label) u = Blames label
decided cast _ u = Stuck

-- told the head of the type of what stands under proxies
module _ {A : Type 0} (head : A → TypeHead) where
  abbrev pub shape_of : Merged A → Shape Coercion
  shape_of (Base h word) = Bare h
  shape_of (Solid a) = Bare (head a)
  shape_of (Proxied a c) = Wrapped c
  shape_of (InDyn kept u) = Injected kept

  module _ (types : TypeRows) where
    -- what a cast comes to, decision after decision, at most so many of them one inside the other
    abbrev pub cast_to : ℕ → Coercion → Merged A → Outcome A
    cast_to zero c u = Stuck
    cast_to (suc depth) c u =
        decided (cast_to depth) (applied (cast_of types) (composition_of types) types c (shape_of u)) u

    -- a projection opens a Dyn, then an injection makes a middle first: three are enough
    abbrev pub cast_value : Coercion → Merged A → Outcome A
    cast_value c u = cast_to 3 c u
