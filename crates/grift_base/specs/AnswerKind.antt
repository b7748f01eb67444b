-- The number of each kind of answer.
use Rattle.std.specs.Prelude.{ℕ}
use Rattle.grift_base.specs.declared.verdicts.AnswerKind.{AnswerKind}
use Rattle.grift_base.specs.declared.verdicts.AnswerKind.TheVariants.{Int, Bool, Unit as UnitKind, Function, Tuple}
use Rattle.grift_base.specs.declared.verdicts.AnswerKind.TheVariants.{Boxed, Vector}

abbrev pub answer_kind_number : AnswerKind → ℕ
answer_kind_number Int = 0
answer_kind_number Bool = 1
answer_kind_number UnitKind = 2
answer_kind_number Function = 3
answer_kind_number Tuple = 4
answer_kind_number Boxed = 5
answer_kind_number Vector = 6
