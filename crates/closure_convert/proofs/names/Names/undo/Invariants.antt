use Rattle.std.proofs.Common.{◌≡◌, length, take, drop}
use Rattle.closure_convert.specs.Scopes.{known, undone}
use Rattle.closure_convert.proofs.names.Names.undo.Given as goal

-- what is left to undo undoes all
abbrev pub invariant-loop-self : goal.invariant-loop-self
invariant-loop-self l = record {
  known : undone (drop l.mark l.self.before.items) (known l.self)
      ≡ undone (drop l.mark l.fn.self.before.items) (known l.fn.self);
  before : take l.mark l.self.before.items ≡ take l.mark l.fn.self.before.items;
  captured : l.self.captured ≡ l.fn.self.captured;
}

abbrev pub decreases-loop-self : goal.decreases-loop-self
decreases-loop-self l = length l.self.before.items
