use Rattle.std.proofs.Common.{◌∷◌, [], ◌∙◌, ap, sym}
use Rattle.grift_base.specs.declared.operators.PrimOp.TheVariants.{BoxSet}
use Rattle.core_calc.specs.Operators.{box_set_step}
use Rattle.core_calc.specs.States.{store_of}
use Rattle.core_calc.specs.Terms.{Prim, TermThen, ValueTerm}
use Rattle.core_calc.specs.Views.{terms_of, value_of}
use Rattle.core_redexes.specs.Moves.{after}
use Rattle.core_redexes.proofs.OperatorTurns.{onward, written_through}
use Rattle.core_redexes.proofs.operators.box_set.Goals as goal

pub returns-in-Loc-default-false-clause-ok : goal.returns-in-Loc-default-false-clause-ok
returns-in-Loc-default-false-clause-ok c =
    rw c.in-Loc-default-false.is (rw c.in-Loc-default-false.field-1-test (onward c.write_box.result
    c.write_box.ensures.ok (λ turn h world. h c.args.types.now world)))

pub returns-in-Wrap-clause-ok : goal.returns-in-Wrap-clause-ok
returns-in-Wrap-clause-ok c =
    let store = store_of c.args.store.now in
    λ world old. ap (λ target. after (box_set_step c.args.types.now store world (target ∷ value_of c.args.v ∷ [])) old
    store world) (ap value_of c.in-Wrap.is)
    ∙ written_through c.args.types.now store world (λ last. Prim BoxSet (TermThen (ValueTerm
    (value_of c.in-Wrap.inner.value)) last)) (value_of c.args.v) c.in-Wrap.label.0 c.in-Wrap.from.0 c.in-Wrap.to.0
    (terms_of c.in-Some.last) _ old
    (sym (rw c.in-Some.is at c.in_ok-last-in-Wrap.ensures))
    (ap (λ operands. Prim BoxSet operands) (sym (rw (c.replace.ensures.value, c.deref_mut.ensures.value) at
    c.in_ok-operands-in-Wrap.ensures)))
