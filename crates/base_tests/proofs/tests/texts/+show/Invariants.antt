use Rattle.std.proofs.Common.{◌≤◌}
use Rattle.sexpr_reader.specs.declared.sexps.SexpList.{size-SexpList}
use Rattle.base_tests.proofs.tests.texts.+show.Given as goal

abbrev pub invariant-show_all-loop-list : goal.invariant-show_all-loop-list
invariant-show_all-loop-list l = size-SexpList l.list ≤ size-SexpList l.fn.list
