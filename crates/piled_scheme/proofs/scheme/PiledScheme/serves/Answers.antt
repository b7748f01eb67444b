use Rattle.piled_scheme.proofs.Laws.{piled_laws}
use Rattle.piled_scheme.proofs.Serving.{piled_procedures_serve}
use Rattle.piled_scheme.proofs.scheme.PiledScheme.serves.Goals as goal

pub returns-clause-lawful : goal.returns-clause-lawful
returns-clause-lawful c = piled_laws

pub returns-clause-everywhere : goal.returns-clause-everywhere
returns-clause-everywhere c = piled_procedures_serve
