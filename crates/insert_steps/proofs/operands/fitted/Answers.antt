use Rattle.std.proofs.Common.{refl}
use Rattle.insert_steps.proofs.Made.{made_then}
use Rattle.insert_steps.proofs.operands.fitted.Goals as goal

pub returns-in_ok-held-in-Int-clause-answer : goal.returns-in_ok-held-in-Int-clause-answer
returns-in_ok-held-in-Int-clause-answer c =
    rw c.in-Int.is (made_then _ _ _ _ _ c.in_ok-held-in-Int.ensures.answer refl)

pub returns-in_ok-held-in-Bool-clause-answer : goal.returns-in_ok-held-in-Bool-clause-answer
returns-in_ok-held-in-Bool-clause-answer c =
    rw c.in-Bool.is (made_then _ _ _ _ _ c.in_ok-held-in-Bool.ensures.answer refl)

pub returns-in_ok-held-in-AsContent-clause-answer : goal.returns-in_ok-held-in-AsContent-clause-answer
returns-in_ok-held-in-AsContent-clause-answer c =
    rw c.in-AsContent.is (made_then _ _ _ _ _ c.in_ok-held-in-AsContent.ensures.answer refl)
