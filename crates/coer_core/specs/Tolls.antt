-- What a pile of casts asks for, and what it pays, turn by turn.
use Rattle.std.specs.Prelude.{ℕ, zero, suc, ◌+◌, ◌≤◌, max, List, [], ◌∷◌, length}
use Rattle.grift_base.specs.Types.{TypeRows}
use Rattle.core_calc.specs.Account.{Measures}
use Rattle.coercion_norm.specs.Coercions.{Coercion}
use Rattle.cast_modes.specs.Modes.{Decision, Mode}
use Rattle.cast_modes.specs.RunValues.{shape_of}
use Rattle.cast_modes.specs.ValueSteps.{CastFrame, Return}
use Rattle.coer_core.specs.Machine.{code_arity, CoerValue, CoerFocus, CoerFrame}
use Rattle.coer_core.specs.Results.{decided}
use Rattle.coer_core.specs.Tally.{turn_kind, kind_asks, kind_budget, kind_acts, function_words, made_words}
use Rattle.coer_core.specs.MergedTally.{merged_asks, merged_acts, merged_budget}

-- of some turns: the words that they ask for together, the most that one of them asks for, how many make a step of the
-- calculus, their budgets together, and the most frames that wait at a time
pub record Toll : Type 0 where
  pub asks : ℕ
  pub most : ℕ
  pub acts : ℕ
  pub budget : ℕ
  pub frames : ℕ

abbrev pub no_toll : Toll
no_toll = record { asks = 0; most = 0; acts = 0; budget = 0; frames = 0 }

-- of one turn
abbrev pub one_toll : ℕ → ℕ → ℕ → ℕ → Toll
one_toll asks acts budget frames =
    record { asks = asks; most = asks; acts = acts; budget = budget; frames = frames }

-- of turns and then others
abbrev pub both_tolls : Toll → Toll → Toll
both_tolls a b = record {
  asks = a.asks + b.asks;
  most = max a.most b.most;
  acts = a.acts + b.acts;
  budget = a.budget + b.budget;
  frames = max a.frames b.frames;
}

-- what a turn asks for, whether it makes a step of the calculus, 1 if it does, and its budget, by where the run is
pub record Price (C : Type 0) : Type 0 where
  pub asks : CoerFocus C → List (CoerFrame C) → ℕ
  pub acts : CoerFocus C → List (CoerFrame C) → ℕ
  pub budget : CoerFocus C → List (CoerFrame C) → ℕ

-- by the kinds of turns
abbrev pub kind_price : {C : Type 0} → Mode C → Measures → Price C
kind_price mode m = record {
  asks = λ focus k. kind_asks m (turn_kind mode focus k) (made_words focus k);
  acts = λ focus k. kind_acts (turn_kind mode focus k);
  budget = λ focus k. kind_budget m (turn_kind mode focus k) (function_words focus);
}

-- of a merged run
abbrev pub merged_price : TypeRows → Mode Coercion → Measures → Price Coercion
merged_price types mode m = record {
  asks = λ focus k. merged_asks types mode m focus k;
  acts = λ focus k. merged_acts types mode m focus k;
  budget = λ focus k. merged_budget types mode m focus k;
}

-- what is left to do after a decision, by what is known of that
abbrev pub toll_on : {C : Type 0} → (CoerValue C → List C → Toll) → Decision C → CoerValue C → List C → Toll
toll_on go decision v casts = decided go (λ label. no_toll) no_toll decision v casts

-- of a cast behind which these wait, over so many frames
abbrev pub cast_toll : {C : Type 0} → Price C → ℕ → CoerValue C → C → List C → Toll
cast_toll price under v cast casts =
    one_toll (price.asks (Return v) (CastFrame cast ∷ [])) (price.acts (Return v) (CastFrame cast ∷ []))
    (price.budget (Return v) (CastFrame cast ∷ []))
    (suc (length casts + under))

-- of at most so many casts
abbrev pub pile_toll : {C : Type 0} → Price C → ℕ → Mode C → ℕ → CoerValue C → List C → Toll
pile_toll price under mode n v [] = no_toll
pile_toll price under mode zero v (cast ∷ casts) = no_toll
pile_toll price under mode (suc n) v (cast ∷ casts) =
    both_tolls (cast_toll price under v cast casts)
    (toll_on (λ x cs. pile_toll price under mode n x cs) (mode.cast cast (shape_of code_arity v)) v casts)

-- what the first turns pay is enough for the others: one of them asks for as much as the others together, as many of
-- them make a step, their budgets are no less, and of the others two frames wait at most
pub record Fits (under : ℕ) (first second : Toll) : Type 0 where
  pub asks : second.asks ≤ first.most
  pub acts : second.acts ≤ first.acts
  pub budget : second.budget ≤ first.budget
  pub frames : second.frames ≤ under + 2
