-- Names with the values that are put in their place, as a substitution.
use Rattle.std.specs.Prelude.{List, map, ◌++◌}
use Rattle.core_calc.specs.Substitution.{Substitution, group_values}
use Rattle.core_calc.specs.Terms.{Members}
use Rattle.core_calc.specs.Views.{value_of}
use Rattle.core_terms.specs.declared.substitution.Entry.{Entry}

abbrev pub entries_of : List Entry → Substitution
entries_of entries = map (λ entry. (entry.name.0, value_of entry.value)) entries

-- the entries, and behind them the names of a group with its functions
abbrev pub with_group : List Entry → Members → Substitution
with_group entries group = entries_of entries ++ group_values group
