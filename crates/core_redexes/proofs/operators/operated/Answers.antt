use Rattle.core_calc.specs.States.{store_of}
use Rattle.core_redexes.proofs.OperatorCounts.{no_operands, one_operand, two_operands, three_operands}
use Rattle.core_redexes.proofs.OperatorTurns.{leads_too, onward}
use Rattle.core_redexes.proofs.operators.operated.Goals as goal

pub returns-in-Zero-clause-ok : goal.returns-in-Zero-clause-ok
returns-in-Zero-clause-ok c =
    let types = c.args.types.now in let store = store_of c.args.store.now in let world = c.args.world.now in
    rw c.in-Zero.is (onward c.on_nothing.result c.on_nothing.ensures.ok (λ turn h.
    leads_too _ _ _ _ turn _ _ (no_operands types store world c.args.operator) (h types store)))

pub returns-in-One-clause-ok : goal.returns-in-One-clause-ok
returns-in-One-clause-ok c =
    let types = c.args.types.now in let store = store_of c.args.store.now in let world = c.args.world.now in
    rw c.in-One.is (onward c.on_one.result c.on_one.ensures.ok (λ turn h.
    leads_too _ _ _ _ turn _ _ (one_operand types store world c.args.operator _) h))

pub returns-in-Two-clause-ok : goal.returns-in-Two-clause-ok
returns-in-Two-clause-ok c =
    let types = c.args.types.now in let store = store_of c.args.store.now in let world = c.args.world.now in
    rw c.in-Two.is (onward c.on_two.result c.on_two.ensures.ok (λ turn h.
    leads_too _ _ _ _ turn _ _ (two_operands types store world c.args.operator _ _) (h world)))

pub returns-in-Three-clause-ok : goal.returns-in-Three-clause-ok
returns-in-Three-clause-ok c =
    let types = c.args.types.now in let store = store_of c.args.store.now in let world = c.args.world.now in
    rw c.in-Three.is (onward c.on_three.result c.on_three.ensures.ok (λ turn h.
    leads_too _ _ _ _ turn _ _ (three_operands types store world c.args.operator _ _ _) (h world)))
