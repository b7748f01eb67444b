use Rattle.std.proofs.Common.{◌∙◌, ◌++◌, Some, ap, sym}
use Rattle.core_calc.specs.Substitution.{group_values, substitute}
use Rattle.core_calc.specs.Views.{members_of, term_of, terms_of}
use Rattle.core_terms.specs.Entries.{entries_of}
use Rattle.core_redexes.proofs.Entering.{arguments_fit}
use Rattle.core_redexes.proofs.calls.put_arguments.Goals as goal

pub returns-then-not-as_many-clause-put : goal.returns-then-not-as_many-clause-put
returns-then-not-as_many-clause-put c =
    sym (arguments_fit c.args.params.now (term_of c.args.body.now) (group_values (members_of c.args.members.now))
    (terms_of c.args.arguments.now) _ _ c.as_many.ensures c.if-not-as_many.true)

pub returns-clause-put : goal.returns-clause-put
returns-clause-put c =
    let group = group_values (members_of c.args.members.now) in
    let body = term_of c.args.body.now in
    ap Some (c.in_ok-substitute.ensures.put ∙ ap (λ taken. substitute body (taken ++ group))
    (ap entries_of c.as_slice.ensures.value ∙ c.in_ok-entries.ensures))
    ∙ sym (arguments_fit c.args.params.now body group (terms_of c.args.arguments.now) _ _ c.as_many.ensures
    c.if-not-as_many.false)
