use Rattle.std.proofs.Common.{ap, sym, ◌∙◌}
use Rattle.std.specs.Option.{option_copied}
use Rattle.closure_convert.specs.Scopes.{known}
use Rattle.closure_convert.proofs.Meanings.{free_new_name, meaning_captured}
use Rattle.closure_convert.proofs.names.Names.operand.Goals as goal

pub returns-clause-captured : goal.returns-clause-captured
returns-clause-captured c =
    free_new_name (known c.args.self.now) c.args.self.now.captured c.operand.new.self c.args.name
    (sym c.get.ensures.value ∙ ap option_copied c.in_default.is) c.in_ok-operand.ensures.names

pub returns-clause-meaning : goal.returns-clause-meaning
returns-clause-meaning c = λ outer r.
    meaning_captured (known c.args.self.now) outer c.args.self.now.captured c.operand.new.self c.args.name
    c.in_ok-operand.operand (sym c.get.ensures.value ∙ ap option_copied c.in_default.is)
    c.in_ok-operand.ensures.names c.in_ok-operand.ensures.operand r
