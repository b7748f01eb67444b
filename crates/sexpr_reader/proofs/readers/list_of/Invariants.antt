use Rattle.std.proofs.Common.{◌≡◌, map, vec_len}
use Rattle.sexpr_reader.specs.View.{datum_of, datums_of}
use Rattle.sexpr_reader.specs.Reader.{in_row}
use Rattle.sexpr_reader.proofs.Rows.{onto}
use Rattle.sexpr_reader.proofs.readers.list_of.Given as goal

abbrev pub invariant-loop-last : goal.invariant-loop-last
invariant-loop-last l =
    onto (map datum_of l.items.items) (datums_of l.list) ≡ in_row (map datum_of l.initial.items.items)

abbrev pub decreases-loop-last : goal.decreases-loop-last
decreases-loop-last l = vec_len l.items
