use Rattle.insert_steps.specs.Views.{work_of}
use Rattle.cast_rules.proofs.Public.{label_interned}
use Rattle.insert_steps.proofs.progress.Progress.label.Goals as goal

pub returns-clause-made : goal.returns-clause-made
returns-clause-made c =
    let e = c.in_ok-label.ensures in
    label_interned c.args.pos (work_of c.args.self.now) c.intern.new.self c.in_ok-label.label.0 c.len.ensures.distinct
    e.interned e.number
