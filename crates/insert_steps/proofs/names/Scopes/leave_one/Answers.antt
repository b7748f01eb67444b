use Rattle.std.proofs.Common.{subst}
use Rattle.insert_steps.specs.Scoped.{AreFound}
use Rattle.insert_steps.proofs.Scoping.{found_pop, name_kept}
use Rattle.insert_steps.proofs.names.Scopes.leave_one.Goals as goal

pub invariant_of-self-in_err-insert : goal.invariant_of-self-in_err-insert
invariant_of-self-in_err-insert c =
    absurd (name_kept c.pop.new.self.items c.in-Some.entry c.self.inside.places
    (subst (λ xs. AreFound xs c.self.inside.places) c.in-Some.ensures.items c.self.invariant)
    c.in_err-insert.ensures.absent)

pub invariant_of-self-2 : goal.invariant_of-self-2
invariant_of-self-2 c =
    found_pop c.pop.new.self.items c.in-Some.entry c.self.inside.places c.insert.new.self
    (subst (λ xs. AreFound xs c.self.inside.places) c.in-Some.ensures.items c.self.invariant)
    c.in_ok-insert.ensures.updates.0
