use Rattle.core_calc.proofs.CanonicalForms.{values_have_their_types_heads-heads, values_have_their_types_heads-units}
use Rattle.core_calc.proofs.CanonicalForms.{values_have_their_types_heads-dyns}
use Rattle.core_calc.proofs.TypedValues.{values_have_their_types_heads-integers}
use Rattle.core_calc.proofs.TypedValues.{values_have_their_types_heads-truth_values}
use Rattle.core_calc.proofs.laws.values_have_their_types_heads.Goals as goal

pub returns-clause-heads : goal.returns-clause-heads
returns-clause-heads c = λ types labels cells v type row h e.
    values_have_their_types_heads-heads types labels cells v type row h e

pub returns-clause-integers : goal.returns-clause-integers
returns-clause-integers c = λ types labels cells v type h e.
    values_have_their_types_heads-integers types labels cells v type h e

pub returns-clause-truth_values : goal.returns-clause-truth_values
returns-clause-truth_values c = λ types labels cells v type h e.
    values_have_their_types_heads-truth_values types labels cells v type h e

pub returns-clause-units : goal.returns-clause-units
returns-clause-units c = λ types labels cells v type h e.
    values_have_their_types_heads-units types labels cells v type h e

pub returns-clause-dyns : goal.returns-clause-dyns
returns-clause-dyns c =
    λ types labels cells v type h e. values_have_their_types_heads-dyns types labels cells v type h e
