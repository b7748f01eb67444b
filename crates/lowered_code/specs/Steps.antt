-- Code without its end.
use Rattle.std.specs.Prelude.{◌≡◌, List, [], ◌∷◌}
use Rattle.low_ir.specs.Procedures.{Code, Set, Compute, Load, Store, CodeOf, Build, Request, Take, Environment, Call}
use Rattle.low_ir.specs.declared.code.LowSource.{LowSource}
use Rattle.low_ir.specs.Procedures.{CallAt, If, TailCall, TailCallAt}
use Rattle.low_ir.specs.Views.{code_of}
use Rattle.lowered_code.specs.declared.steps.Step.{Step}
use Rattle.lowered_code.specs.declared.steps.Step.TheVariants.{Set as SetStep, Compute as ComputeStep, Load as LoadStep}
use Rattle.lowered_code.specs.declared.steps.Step.TheVariants.{Store as StoreStep, CodeOf as CodeOfStep}
use Rattle.lowered_code.specs.declared.steps.Step.TheVariants.{Build as BuildStep}
use Rattle.lowered_code.specs.declared.steps.Step.TheVariants.{Request as RequestStep, Take as TakeStep}
use Rattle.lowered_code.specs.declared.steps.Step.TheVariants.{Environment as EnvironmentStep, Call as CallStep}
use Rattle.lowered_code.specs.declared.steps.Step.TheVariants.{CallAt as CallAtStep, If as IfStep}

-- a step, and behind it a code
abbrev pub put : Step → Code → Code
put (SetStep d a) k = Set d a k
put (ComputeStep op d a b) k = Compute op d a b k
put (LoadStep d a offset) k = Load d a offset k
put (StoreStep b a offset) k = Store b a offset k
put (CodeOfStep d number) k = CodeOf d number k
put (BuildStep d words) k = Build d words k
put (RequestStep d n) k = Request d n k
put (TakeStep n) k = Take n k
put (EnvironmentStep number a b d e) k = Environment number a b d e k
put (CallStep d number words) k = Call d number words k
put (CallAtStep d f words) k = CallAt d f words k
put (IfStep cond a b one other) k = If cond a b (code_of one.value) (code_of other.value) k

-- steps in order, and behind them a code
abbrev pub ahead : List Step → Code → Code
ahead [] k = k
ahead (step ∷ steps) k = put step (ahead steps k)

-- these steps are those before, and behind them what is put in front of a code
abbrev pub Adds : List Step → List Step → (Code → Code) → Type 0
Adds before after front = (k : Code) → ahead after k ≡ ahead before (front k)

-- the words that code hands on with its first step, or where it leaves
abbrev pub words_named : Code → List LowSource
words_named (Build d words k) = words
words_named (Call d number words k) = words
words_named (CallAt d f words k) = words
words_named (TailCall number words) = words
words_named (TailCallAt f words) = words
words_named _ = []
