use Rattle.std.proofs.Common.{ap}
use Rattle.core_calc.specs.Views.{term_of}
use Rattle.surface_trees.specs.Views.{expr_of}
use Rattle.cast_insert.specs.Outcomes.{outcome_of}
use Rattle.insert_steps.specs.Views.{work_of}
use Rattle.cast_rules.proofs.Public.{program_answered}
use Rattle.cast_insert.proofs.insertion.insert.Goals as goal

pub returns-in-Ok-clause-typed : goal.returns-in-Ok-clause-typed
returns-in-Ok-clause-typed c =
    rw c.into_inner.ensures
    (program_answered (expr_of c.args.program.now.body) (term_of c.in-Ok.e.core.value) c.in-Ok.e.ty.0
    c.in-Ok.e.entry (work_of c.run.new.progress) c.requires.source
    c.in-Ok.ensures.answer)

pub returns-in-Ok-clause-answer : goal.returns-in-Ok-clause-answer
returns-in-Ok-clause-answer c = rw c.into_inner.ensures (ap outcome_of c.in-Ok.ensures.answer)
