use Rattle.std.proofs.Common.{◌≡◌, ◌≤◌, length, take}
use Rattle.core_calc.specs.Views.{names_of}
use Rattle.closure_convert.specs.Conversion.{bind_operands}
use Rattle.closure_convert.specs.Keeping.{Opened}
use Rattle.closure_convert.specs.Scopes.{known}
use Rattle.closure_convert.proofs.names.Names.bind_all.Given as goal

-- with the names that are left bound, all are bound
abbrev pub invariant-loop-left : goal.invariant-loop-left
invariant-loop-left l = record {
  known : bind_operands (take l.left (names_of l.names)) (take l.left l.operands) (known l.self)
      ≡ bind_operands (names_of l.names) l.operands (known l.fn.self);
  opened : Opened l.fn.self l.self;
  captured : l.self.captured ≡ l.fn.self.captured;
  within : l.left ≤ length l.names;
}

abbrev pub decreases-loop-left : goal.decreases-loop-left
decreases-loop-left l = l.left
