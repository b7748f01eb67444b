use Rattle.std.proofs.Common.{◌≤◌}
use Rattle.sexpr_reader.specs.declared.sexps.SexpList.{size-SexpList}
use Rattle.sexpr_reader.proofs.+sexp.Given as goal

abbrev pub invariant-sexps::SexpList::drop-loop-of-drop_along : goal.invariant-sexps::SexpList::drop-loop-of-drop_along
invariant-sexps::SexpList::drop-loop-of-drop_along l = size-SexpList l.self ≤ size-SexpList l.fn.self
