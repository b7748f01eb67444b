use Rattle.std.proofs.Common.{◌≡◌, ◌+◌, ◌++◌, length}
use Rattle.std.specs.Vec.Iter.{into_iter_items}
use Rattle.flat_ir.specs.Views.{procs_of as procs_in_memory}
use Rattle.closure_convert.specs.Converting.{as_procs, parts_of}
use Rattle.closure_convert.proofs.conversion.Converter.add_procs.Given as goal

-- the procedures so far, and those that are left, are all
abbrev pub invariant-loop-function : goal.invariant-loop-function
invariant-loop-function l = record {
  names : l.self.names ≡ l.fn.self.names;
  procs : procs_in_memory l.self.procs
      ++ as_procs l.captured l.group l.place (parts_of (into_iter_items l.function-iterator))
      ≡ procs_in_memory l.fn.self.procs ++ as_procs l.captured l.group 0 (parts_of l.fn.functions.items);
  count : length l.self.procs + length (into_iter_items l.function-iterator)
      ≡ length l.fn.self.procs + length l.fn.functions.items;
}
