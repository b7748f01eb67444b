-- Programs, as the conversion takes them.
use Rattle.std.specs.Prelude.{◌≡◌, ℕ, false}
use Rattle.core_calc.specs.Substitution.{is_among}
use Rattle.coer_core.specs.Counts.{free_names}
use Rattle.coer_core.specs.Terms.{RowTerm}

-- no name is free in a term
abbrev pub HasNoFreeNames : RowTerm → Type 0
HasNoFreeNames term = (name : ℕ) → is_among name (free_names term) ≡ false
