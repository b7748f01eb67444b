-- Operands, answers and terms with their contents as those of the definitions.
use Rattle.grift_base.specs.Types.{IntRow, BoolRow, UnitRow}
use Rattle.insert_steps.specs.declared.operands.Operand.{Operand as RustOperand}
use Rattle.insert_steps.specs.declared.operands.Operand.TheVariants.{Int, Bool, Content as KeepsContent}
use Rattle.insert_steps.specs.declared.operands.Operand.TheVariants.{Box as OpensBox}
use Rattle.insert_steps.specs.declared.operands.Operand.TheVariants.{Vector as OpensVector, AsContent as ToContent}
use Rattle.insert_steps.specs.declared.operands.OperatorAnswer.{OperatorAnswer as RustAnswer}
use Rattle.insert_steps.specs.declared.operands.OperatorAnswer.TheVariants.{Int as IntAnswer, Bool as BoolAnswer}
use Rattle.insert_steps.specs.declared.operands.OperatorAnswer.TheVariants.{Unit as UnitAnswer}
use Rattle.insert_steps.specs.declared.operands.OperatorAnswer.TheVariants.{Content as ContentAnswer}
use Rattle.insert_steps.specs.declared.operands.OperatorAnswer.TheVariants.{BoxOf as BoxAnswer}
use Rattle.insert_steps.specs.declared.operands.OperatorAnswer.TheVariants.{VectorOf as VectorAnswer}
use Rattle.insert_steps.specs.declared.operands.Held.{Held as RustHeld}
use Rattle.cast_rules.specs.Operators.{Operand, As, Content, Box, Vector, AsContent, OperatorAnswer, Always}
use Rattle.cast_rules.specs.Operators.{TheContent}
use Rattle.cast_rules.specs.Operators.{BoxOf, VectorOf, Held}
use Rattle.insert_steps.specs.Views.{typed_of, place_if}

abbrev pub operand_seen : RustOperand → Operand
operand_seen Int = As IntRow
operand_seen Bool = As BoolRow
operand_seen KeepsContent = Content
operand_seen OpensBox = Box
operand_seen OpensVector = Vector
operand_seen ToContent = AsContent

abbrev pub answer_seen : RustAnswer → OperatorAnswer
answer_seen IntAnswer = Always IntRow
answer_seen BoolAnswer = Always BoolRow
answer_seen UnitAnswer = Always UnitRow
answer_seen ContentAnswer = TheContent
answer_seen BoxAnswer = BoxOf
answer_seen VectorAnswer = VectorOf

abbrev pub held_of : RustHeld → Held
held_of held = record { held = typed_of held.held; content = place_if held.content }
