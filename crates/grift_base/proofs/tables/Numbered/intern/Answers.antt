use Rattle.grift_base.proofs.TableLemmas.{Interns-insert_key}
use Rattle.grift_base.proofs.tables.Numbered.intern.Goals as goal

pub returns-clause-interned : goal.returns-clause-interned
returns-clause-interned g c =
    rw (← c.self.view_is, c.in_ok-place.ensures.keys)
    (Interns-insert_key g.met.T.Entry.exact c.self.inside.entries.keys c.args.entry)
