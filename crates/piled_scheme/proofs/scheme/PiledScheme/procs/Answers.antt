use Rattle.piled_scheme.proofs.Closing.{piled_serves_anywhere}
use Rattle.piled_scheme.proofs.scheme.PiledScheme.procs.Goals as goal

pub returns-clause-serves : goal.returns-clause-serves
returns-clause-serves c = piled_serves_anywhere c.args.first
