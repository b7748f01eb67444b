use Rattle.std.proofs.Common.{sym, ap, subst, inl, inr, [], ◌∷◌}
use Rattle.std.proofs.lemmas.Result.{on_ok_weaker}
use Rattle.std.specs.Prelude.{option_to_list}
use Rattle.rv_select.specs.Holding.{Among}
use Rattle.reg_assign.specs.Numbers.{register_at}
use Rattle.reg_assign.specs.Flow.{Adds, IsTold, under}
use Rattle.reg_assign.proofs.Listings.{adds_register}
use Rattle.reg_assign.proofs.flow.note.Goals as goal

pub returns-in-Some-clause-added : goal.returns-in-Some-clause-added
returns-in-Some-clause-added c =
    on_ok_weaker c.push.result
    (λ each. subst (λ xs. Adds (λ k. Among (register_at k) xs) c.args.place (under c.args.lists.now) (under
    c.push.new.self))
    (sym (ap option_to_list c.in-Some.is))
    (adds_register c.in-Some.a c.number_of.result c.args.place (under c.args.lists.now) (under c.push.new.self)
    c.number_of.ensures.back each))
    c.push.ensures

pub returns-in-Some-clause-told : goal.returns-in-Some-clause-told
returns-in-Some-clause-told c x h = told (subst (λ a. Among x (option_to_list a)) c.in-Some.is h)
  where
    told : Among x (c.in-Some.a ∷ []) → IsTold x
    told (inl e) = subst IsTold e c.number_of.ensures.told
    told (inr k) = absurd k

pub returns-in-None-clause-told : goal.returns-in-None-clause-told
returns-in-None-clause-told c x h = absurd (subst (λ a. Among x (option_to_list a)) c.in-None.is h)
