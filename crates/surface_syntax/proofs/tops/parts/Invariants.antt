use Rattle.std.proofs.Common.{◌≡◌, ◌+◌, [], length, map}
use Rattle.sexpr_reader.specs.View.{datums_of}
use Rattle.form_table.specs.Marked.{all_marked, how_many}
use Rattle.form_table.specs.Pass.{parse_tops}
use Rattle.surface_syntax.specs.TopParts.{part_of}
use Rattle.surface_syntax.proofs.Rows.{behind_parts}
use Rattle.surface_syntax.proofs.tops.parts.Given as goal

-- the forms so far and what the pass reads behind them are what it reads in all
abbrev pub invariant-loop-left : goal.invariant-loop-left
invariant-loop-left l = record {
  read : behind_parts (map part_of l.parts.items) (parse_tops l.room l.run (all_marked (datums_of l.left)) l.names)
      ≡ parse_tops 500 [] (all_marked (datums_of l.list)) l.fn.names;
  few : l.room + length l.parts.items ≡ 500;
  all : length l.parts.items + how_many (all_marked (datums_of l.left)) ≡ how_many (all_marked (datums_of l.list));
}
