use Rattle.std.proofs.Common.{arith, ◌-◌, ◌∙◌}
use Rattle.closure_convert.specs.Scopes.{known}
use Rattle.closure_convert.proofs.Opening.{opened_then}
use Rattle.closure_convert.proofs.Taking.{bound_next, none_left}
use Rattle.closure_convert.proofs.names.Names.bind_all.Goals as goal

pub loop-left-preserved : goal.loop-left-preserved
loop-left-preserved c = record {
  known = bound_next c.args.names.now c.args.operands.now c.loop-left.left (c.loop-left.left - 1) _ _
      (known c.loop-left.self) (known c.bind.new.self) _ (omega arith) c.loop-left.invariant.within c.requires
      c.in_ok-bind.ensures.known c.loop-left.invariant.known;
  opened = opened_then c.args.self.now c.loop-left.self c.bind.new.self c.loop-left.invariant.opened
      c.in_ok-bind.ensures.opened;
  captured = c.bind.ensures.captured ∙ c.loop-left.invariant.captured;
  within = omega arith;
}

pub returns-clause-known : goal.returns-clause-known
returns-clause-known c =
    none_left c.args.names.now c.args.operands.now c.loop-left.left (known c.loop-left.self) _ (omega arith)
    c.loop-left.invariant.known
