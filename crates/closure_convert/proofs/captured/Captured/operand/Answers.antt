use Rattle.std.proofs.Common.{◌≡◌, None, nat_eq, sym, ap, ◌∙◌}
use Rattle.std.specs.Option.{option_copied}
use Rattle.indexmap.specs.IndexMap.{get}
use Rattle.closure_convert.specs.Conversion.{captured_scope}
use Rattle.closure_convert.proofs.Capturing.{captured_already, captured_last, newly_captured, operands_kept}
use Rattle.closure_convert.proofs.captured.Captured.operand.Goals as goal

pub returns-in-Some-clause-names : goal.returns-in-Some-clause-names
returns-in-Some-clause-names c =
    rw (← c.self.view_is) (captured_already c.self.inside.names.items c.args.name c.in-Some.operand.now
    (sym (c.self.invariant c.args.name) ∙ sym c.in-Some.ensures.value))

pub invariant_of-self-2 : goal.invariant_of-self-2
invariant_of-self-2 c =
    rw (c.push_reserved.ensures.items, c.reserve.ensures.items)
    (operands_kept c.self.inside.names.items c.args.name c.in_ok-narrow.field-0 (get nat_eq c.self.inside.operands)
    (get nat_eq c.insert.new.self) c.self.invariant (sym c.get.ensures.value ∙ ap option_copied c.in_default.is)
    (c.in_ok-narrow.ensures ∙ c.len.ensures.value) c.in_ok-insert.ensures.updates.0)

pub returns-clause-names : goal.returns-clause-names
returns-clause-names c =
    let none : captured_scope c.self.inside.names.items c.args.name ≡ None =
    sym (c.self.invariant c.args.name) ∙ sym c.get.ensures.value ∙ ap option_copied c.in_default.is in
    rw (c.push_reserved.ensures.items, c.reserve.ensures.items, ← c.self.view_is)
    (captured_last c.self.inside.names.items c.args.name none)

pub returns-clause-operand : goal.returns-clause-operand
returns-clause-operand c =
    let none : captured_scope c.self.inside.names.items c.args.name ≡ None =
    sym (c.self.invariant c.args.name) ∙ sym c.get.ensures.value ∙ ap option_copied c.in_default.is in
    rw (c.push_reserved.ensures.items, c.reserve.ensures.items)
    (newly_captured c.self.inside.names.items c.args.name c.in_ok-narrow.field-0 none
    (c.in_ok-narrow.ensures ∙ c.len.ensures.value))
