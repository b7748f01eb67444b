use Rattle.std.proofs.Common.{◌≡◌}
use Rattle.sexpr_reader.specs.View.{datums_of}
use Rattle.form_table.specs.Marked.{all_marked}
use Rattle.form_table.specs.Walking.{is_arrow}
use Rattle.form_table.proofs.lists.is_arrow.Given as goal

abbrev pub invariant-loop-list : goal.invariant-loop-list
invariant-loop-list l = is_arrow (all_marked (datums_of l.list)) ≡ is_arrow (all_marked (datums_of l.elements))
