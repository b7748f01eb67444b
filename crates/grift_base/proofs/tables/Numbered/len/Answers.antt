use Rattle.grift_base.proofs.TableLemmas.{HasNoRepeats-from_IsDistinct}
use Rattle.grift_base.proofs.tables.Numbered.len.Goals as goal

pub returns-clause-distinct : goal.returns-clause-distinct
returns-clause-distinct g c =
    rw (← c.self.view_is)
    (HasNoRepeats-from_IsDistinct g.met.T.Entry.exact c.self.inside.entries.keys c.len.ensures.unique)
