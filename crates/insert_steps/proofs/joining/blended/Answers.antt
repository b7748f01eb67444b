use Rattle.cast_rules.proofs.Public.{more_grows}
use Rattle.insert_steps.proofs.joining.blended.Goals as goal

pub returns-clause-grows : goal.returns-clause-grows
returns-clause-grows c =
    more_grows c.args.progress.now.types c.blend.new.types c.len.ensures.table c.in_ok-blend.ensures.grown
