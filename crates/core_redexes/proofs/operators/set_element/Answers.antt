use Rattle.std.proofs.Common.{◌∙◌, ap, sym}
use Rattle.std.specs.Int.{w64}
use Rattle.std.proofs.lemmas.Int.{to_z-of_z}
use Rattle.grift_base.specs.declared.operators.PrimOp.TheVariants.{VectorSet}
use Rattle.core_calc.specs.States.{store_of}
use Rattle.core_calc.specs.Terms.{IntValue, Prim, TermThen, ValueTerm}
use Rattle.core_calc.specs.Views.{terms_of, value_of}
use Rattle.core_redexes.specs.Moves.{after}
use Rattle.core_redexes.specs.Turns.{element_set}
use Rattle.core_redexes.proofs.OperatorTurns.{written_through}
use Rattle.core_redexes.proofs.operators.set_element.Goals as goal

pub returns-in-Wrap-clause-ok : goal.returns-in-Wrap-clause-ok
returns-in-Wrap-clause-ok c =
    let back = to_z-of_z w64 c.args.index c.ranges.index in
    let store = store_of c.args.store.now in
    λ world old. ap (λ vector. after (element_set c.args.types.now store world vector c.args.index c.args.place
    (value_of c.args.v)) old store world) (ap value_of c.in-Wrap.is)
    ∙ written_through c.args.types.now store world (λ last. Prim VectorSet (TermThen (ValueTerm
    (value_of c.in-Wrap.inner.value)) (TermThen (ValueTerm (IntValue c.args.index)) last))) (value_of c.args.v)
    c.in-Wrap.label.0 c.in-Wrap.from.0 c.in-Wrap.to.0 (terms_of c.in-Some.last) _ old
    (sym (rw c.in-Some.is at c.in_ok-last-in-Wrap.ensures))
    (ap (λ operands. Prim VectorSet operands) (sym (rw (
      c.replace.ensures.value,
      c.deref_mut.ensures.value,
      c.in_ok-operands-in-Wrap.ensures,
      back,
    ) at c.in_ok-operands-in-Wrap-2.ensures)))
