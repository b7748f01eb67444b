use Rattle.std.specs.Int.{w64}
use Rattle.std.proofs.lemmas.Int.{to_z-of_z, wrapping_add_is, wrapping_sub_is}
use Rattle.grift_base.specs.declared.operators.PrimOp.TheVariants.{Quot, Rem}
use Rattle.core_redexes.proofs.OperatorTurns.{integers_passed, number_given}
use Rattle.core_redexes.proofs.operators.on_integers.Goals as goal

pub returns-in-Add : goal.returns-in-Add
returns-in-Add c = λ types store world old.
    rw c.in-Add.is (number_given store world old _ _ (wrapping_add_is w64 c.args.a c.args.b c.ranges.a c.ranges.b))

pub returns-in-Sub : goal.returns-in-Sub
returns-in-Sub c = λ types store world old.
    rw c.in-Sub.is (number_given store world old _ _ (wrapping_sub_is w64 c.args.a c.args.b c.ranges.a c.ranges.b))

pub returns-in-Quot : goal.returns-in-Quot
returns-in-Quot c =
    integers_passed c.args.operator Quot c.args.a _ c.args.b _ c.quotient.result c.in-Quot.is
    (to_z-of_z w64 c.args.a c.ranges.a) (to_z-of_z w64 c.args.b c.ranges.b) c.quotient.ensures

pub returns-in-Rem : goal.returns-in-Rem
returns-in-Rem c =
    integers_passed c.args.operator Rem c.args.a _ c.args.b _ c.remainder.result c.in-Rem.is
    (to_z-of_z w64 c.args.a c.ranges.a) (to_z-of_z w64 c.args.b c.ranges.b) c.remainder.ensures
