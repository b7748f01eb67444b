-- The line that tells the user how a program ended.
use Rattle.std.specs.Prelude.{ℕ, ℤ, pos, List, ◌++◌, codes, if◌then◌else◌}
use Rattle.std.specs.Fmt.{decimal, signed_decimal}
use Rattle.std.specs.Ordering.{int_eq}
use Rattle.grift_base.specs.Trap.{trap_text}
use Rattle.grift_base.specs.declared.verdicts.AnswerKind.{AnswerKind}
use Rattle.grift_base.specs.declared.verdicts.AnswerKind.TheVariants.{Int, Bool, Unit as UnitKind, Function, Tuple}
use Rattle.grift_base.specs.declared.verdicts.AnswerKind.TheVariants.{Boxed, Vector}
use Rattle.grift_base.specs.declared.verdicts.Verdict.{Verdict}
use Rattle.grift_base.specs.declared.verdicts.Verdict.TheVariants.{Answer, Blame, Trap, RegionOut, StackOut, StepsSpent}

-- how an answer of this kind with this word is shown
abbrev pub answer_text : AnswerKind → ℤ → List ℕ
answer_text Int word = signed_decimal word
answer_text Bool word = if int_eq word (pos 0) then codes "#f" else codes "#t"
answer_text UnitKind word = codes "()"
answer_text Function word = codes "#<function>"
answer_text Tuple word = codes "#<tuple>"
answer_text Boxed word = codes "#<box>"
answer_text Vector word = codes "#<vector>"

-- the line, without its line feed
abbrev pub verdict_text : Verdict → List ℕ
verdict_text (Answer a) = codes "answer " ++ answer_text a.kind a.word
verdict_text (Blame p) = codes "blame " ++ decimal p.line ++ codes ":" ++ decimal p.col
verdict_text (Trap t) = codes "trap " ++ trap_text t
verdict_text RegionOut = codes "exhausted region"
verdict_text StackOut = codes "exhausted stack"
verdict_text StepsSpent = codes "spent steps"
