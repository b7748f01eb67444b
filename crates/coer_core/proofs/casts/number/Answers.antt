use Rattle.std.proofs.Common.{ap}
use Rattle.indexmap.proofs.MapLemmas.{OnOk-map}
use Rattle.coer_core.specs.Conversion.{cast_views}
use Rattle.coer_core.proofs.CastNumbers.{number_views, with_views}
use Rattle.coer_core.proofs.casts.number.Goals as goal

pub returns-clause-number : goal.returns-clause-number
returns-clause-number c = rw (← number_views c.args.cast c.args.casts.now) c.intern.ensures.first

pub returns-clause-casts : goal.returns-clause-casts
returns-clause-casts c =
    rw (← with_views c.args.cast c.args.casts.now)
    (OnOk-map c.intern.result _ _ (ap cast_views) c.intern.ensures.entries)
