use Rattle.std.proofs.Common.{refl, ap, ◌∙◌, ◌++◌, ◌∷◌, []}
use Rattle.closure_convert.specs.declared.names.Meaning.{Meaning}
use Rattle.closure_convert.proofs.Opening.{opened_set}
use Rattle.closure_convert.proofs.names.Names.bind.Goals as goal

pub returns-clause-opened : goal.returns-clause-opened
returns-clause-opened c =
    let m : Meaning = record { name = c.args.name.0; operand = c.in_ok-before.before } in
    opened_set c.args.self.now _ c.args.name.0 c.args.operand m refl c.in_ok-before.ensures.answer
    c.in_ok-before.ensures.known (c.in_ok-push.ensures.items ∙ ap (λ l. l ++ m ∷ []) c.set.ensures.before)
