use Rattle.lower.proofs.simulation.Programs.{words_keep_by}
use Rattle.lower.proofs.simulation_laws.words_keep_the_account.Goals as goal

pub returns : goal.returns
returns g c =
    let s = c.args.scheme.now in
    let S = g.S.Scheme in
    words_keep_by (S.meaning s) c.serves.ensures.lawful (S.procs_from s) (S.numbers_from s)
    c.serves.ensures.everywhere
