use Rattle.std.proofs.Common.{refl}
use Rattle.closure_convert.proofs.Freeness.{captured_free, captured_once, once_append}
use Rattle.closure_convert.proofs.laws.captured_names_are_free_in_a_member.Goals as goal

pub returns-clause-free : goal.returns-clause-free
returns-clause-free c = λ names members name. captured_free names members name

pub returns-clause-once : goal.returns-clause-once
returns-clause-once c = λ names members. captured_once names members

pub returns-clause-met : goal.returns-clause-met
returns-clause-met c = λ names members. refl

pub returns-clause-order : goal.returns-clause-order
returns-clause-order c = λ first rest. once_append first rest
