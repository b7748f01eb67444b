use Rattle.std.proofs.Common.{◌≡◌, length, sym, ap, ◌∙◌, arith, Some}
use Rattle.grift_base.specs.declared.places.TypeId.{TypeId}
use Rattle.core_calc.specs.declared.terms.VarId.{VarId}
use Rattle.core_calc.specs.TypeOf.{context_of}
use Rattle.core_calc.proofs.Chains.{bind_differs, bind_more}
use Rattle.core_calc.proofs.typing.bound_to.Goals as goal

abbrev no_name : VarId
no_name = record { 0 = 0 }

abbrev nowhere : TypeId
nowhere = record { 0 = 0 }

pub returns-then-names-types : goal.returns-then-names-types
returns-then-names-types c = bind_differs c.args.names.now c.args.types.now c.if-names-types.true

pub loop-i-preserved : goal.loop-i-preserved
loop-i-preserved c =
    let same : length c.args.names.now ≡ length c.args.types.now = c.if-names-types.false in
    bind_more c.args.names.now c.args.types.now c.loop-i.i no_name nowhere c.loop-i.done.items c.loop-i-test.true
    (omega arith) c.loop-i.invariant
    ∙ ap (λ entries. Some (context_of entries)) (sym c.in_ok-push_bound.ensures)
