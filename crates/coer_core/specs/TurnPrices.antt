-- What turns cost in either mode, in the words of the account of a term's run, for runs whose turns are told by the
-- kinds of their steps alone.
use Rattle.std.specs.Prelude.{ℕ, Option, Some}
use Rattle.grift_base.specs.Types.{TypeRows}
use Rattle.core_calc.specs.Account.{Measures, StepKind, Casts}
use Rattle.coercion_norm.specs.Coercions.{Coercion}
use Rattle.cast_modes.specs.Modes.{Mode}
use Rattle.cast_modes.specs.Prices.{Cost, Prices}
use Rattle.coer_core.specs.Tally.{decision_kind, kind_asks, kind_budget, kind_acts}
use Rattle.coer_core.specs.MergedTally.{Effort, Opens, effort, effort_acts, effort_asks, effort_budget, other_asks}

abbrev pub kind_cost : Measures → Option StepKind → ℕ → ℕ → Cost
kind_cost m kind made functions = record {
  acts = kind_acts kind;
  asks = kind_asks m kind made;
  budget = kind_budget m kind functions;
}

-- casts piled up
abbrev pub piled_prices : {C : Type 0} → Mode C → Measures → Prices StepKind C
piled_prices mode m = record {
  cast = λ cast shape. kind_cost m (Some (decision_kind (mode.cast cast shape))) 0 0;
  part = kind_cost m (Some Casts) 0 0;
  other = λ kind made functions. kind_cost m kind made functions;
}

abbrev pub effort_cost : Measures → Effort → Cost
effort_cost m e = record { acts = effort_acts e; asks = effort_asks m e; budget = effort_budget m e }

-- casts merged
abbrev pub merged_prices : TypeRows → Mode Coercion → Measures → Prices StepKind Coercion
merged_prices types mode m = record {
  cast = λ cast shape. effort_cost m (effort types cast shape (mode.cast cast shape));
  part = effort_cost m Opens;
  other = λ kind made functions. record {
    acts = kind_acts kind;
    asks = other_asks m kind made;
    budget = kind_budget m kind functions;
  };
}
