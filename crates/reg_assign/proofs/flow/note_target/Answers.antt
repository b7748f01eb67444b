use Rattle.std.proofs.Common.{ℕ, ◌≡◌, Some, sym, ◌∙◌}
use Rattle.std.proofs.lemmas.Result.{on_ok_weaker}
use Rattle.reg_assign.specs.Flow.{under, IsTarget}
use Rattle.reg_assign.proofs.Listings.{adds_one}
use Rattle.reg_assign.proofs.flow.note_target.Goals as goal

pub returns-in-Some : goal.returns-in-Some
returns-in-Some c =
    on_ok_weaker c.push.result
    (λ each. adds_one (IsTarget c.args.item.now) c.in-Some.mark c.args.place (under c.args.lists.now)
    (under c.push.new.self) each (λ k h. same k (sym h ∙ sym c.in-Some.ensures)) (sym c.in-Some.ensures))
    c.push.ensures
  where
    same : (k : ℕ) → Some k ≡ Some c.in-Some.mark → k ≡ c.in-Some.mark
    same k e = cc
