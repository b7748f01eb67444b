use Rattle.std.proofs.Common.{◌≤◌, length, ap, ◌∙◌, arith, drop, take}
use Rattle.std.proofs.lemmas.List.{length_push}
use Rattle.closure_convert.specs.Scopes.{known, undone}
use Rattle.closure_convert.proofs.Opening.{take_more, undo_more}
use Rattle.closure_convert.proofs.names.Names.undo.Goals as goal

pub loop-self-preserved : goal.loop-self-preserved
loop-self-preserved c =
    let all = c.loop-self.self.before.items in
    let rest = c.pop.new.self.items in
    let within : c.args.mark ≤ length rest =
    omega (arith, ap length c.in-Some.ensures.items, length_push rest c.in-Some.last) in record {
      known = ap (λ r. undone (drop c.args.mark r) (known c.set.new.self)) c.set.ensures.before
          ∙ ap (undone (drop c.args.mark rest)) c.in_ok-set.ensures.known
          ∙ undo_more all rest c.in-Some.last c.args.mark (known c.loop-self.self) c.in-Some.ensures.items within
          ∙ c.loop-self.invariant.known;
      before = ap (take c.args.mark) c.set.ensures.before
          ∙ take_more all rest c.in-Some.last c.args.mark c.in-Some.ensures.items within ∙ c.loop-self.invariant.before;
      captured = c.set.ensures.captured ∙ c.loop-self.invariant.captured;
    }
