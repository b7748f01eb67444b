use Rattle.std.proofs.Common.{◌∙◌, ap}
use Rattle.core_calc.specs.Views.{members_of, term_of}
use Rattle.core_terms.specs.Entries.{with_group}
use Rattle.core_terms.specs.Holes.{filled, found_in, holes_of, stack_of}
use Rattle.core_terms.proofs.Filling.{puts}
use Rattle.core_terms.proofs.substitution.substitute.Goals as goal

pub returns-clause-put : goal.returns-clause-put
returns-clause-put c =
    let term = term_of c.args.term.now in
    let values = with_group c.args.entries.now (members_of c.args.members.now) in
    c.fill.ensures.term ∙ ap (λ x. filled term (stack_of x)) c.reverse.ensures.items
    ∙ puts term values c.find.new.holes.items
    (c.in_ok-find.ensures ∙ ap (λ x. found_in term values (holes_of x)) c.new-holes.ensures.items)
