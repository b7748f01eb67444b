-- The procedures of the merged scheme.
use Rattle.std.specs.Prelude.{ℕ, ◌+◌, List, [], ◌++◌}
use Rattle.low_ir.specs.Procedures.{Proc}
use Rattle.rt_cast.specs.declared.numbers.CastProc.TheVariants.{Cast, Project}
use Rattle.rt_cast.specs.ProcNumbers.{cast_proc_number}
use Rattle.rt_cast.specs.Procs.{cast_procs, how_many_cast_procs}
use Rattle.rt_refs.specs.declared.numbers.RefProc.TheVariants.{Apply, Read, Write, Fill, Multiply, Divide}
use Rattle.rt_refs.specs.RefProcs.{ref_procs, ref_place}
use Rattle.lowered_code.specs.declared.served.Served.{Served}

-- Casts and what they call; apply, read, write, fill and its loop; products and quotients. They are numbered from the
-- first on.
abbrev pub merged_procs : ℕ → List Proc
merged_procs first = cast_procs first ++ ref_procs (how_many_cast_procs + first) (cast_proc_number Cast first)

-- the numbers of those that code calls
abbrev pub merged_numbers : ℕ → Served
merged_numbers first = record {
  cast = cast_proc_number Cast first;
  project = cast_proc_number Project first;
  apply = how_many_cast_procs + ref_place Apply + first;
  read = how_many_cast_procs + ref_place Read + first;
  write = how_many_cast_procs + ref_place Write + first;
  fill = how_many_cast_procs + ref_place Fill + first;
  multiply = how_many_cast_procs + ref_place Multiply + first;
  divide = how_many_cast_procs + ref_place Divide + first;
  cast_at = [];
  ways = [];
}
