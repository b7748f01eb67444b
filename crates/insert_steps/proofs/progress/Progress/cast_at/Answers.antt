use Rattle.std.proofs.Common.{Some, ap, sym}
use Rattle.core_calc.specs.Views.{term_of}
use Rattle.core_calc.specs.declared.terms.Core.{Core}
use Rattle.cast_rules.specs.Making.{Makes}
use Rattle.insert_steps.specs.Views.{work_of}
use Rattle.insert_steps.proofs.Made.{made_then}
use Rattle.insert_steps.proofs.progress.Progress.cast_at.Goals as goal

pub returns-clause-made : goal.returns-clause-made
returns-clause-made c =
    made_then _ _ _ _ _ c.in_ok-label.ensures.made (made_then _ _ _ _ _ c.in_ok-entry.ensures.made
    (ap (λ (core : Core). Makes (record {
      term = term_of core;
      type = c.args.ty.0;
      entry = Some c.in_ok-entry.entry;
    }) (work_of c.list.new.self)) (sym c.in_ok-core.ensures)))
