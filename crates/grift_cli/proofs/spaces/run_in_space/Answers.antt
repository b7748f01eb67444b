use Rattle.std.proofs.Common.{refl, sym}
use Rattle.grift_cli.specs.Runs.{printed}
use Rattle.grift_cli.proofs.Putting.{shows_space}
use Rattle.grift_cli.proofs.StoppedStorage.{filled_at, refill, reports}
use Rattle.grift_cli.proofs.spaces.run_in_space.Goals as goal

pub walked-requires : goal.walked-requires
walked-requires g c =
    let compiled = c.args.compiled.now in
    refill _ (printed c.args.limits compiled.image c.args.input) c.region_start.result
    (filled_at c.args.limits compiled.image c.args.input compiled.tallest c.requires.region c.requires.stack
    c.requires.keeps _ c.region_start.result (sym c.in-Ok.ensures.stopped) c.region_start.ensures)

pub returns : goal.returns
returns g c =
    let compiled = c.args.compiled.now in
    rw c.in_space.ensures (shows_space c.args.limits compiled.image c.args.input compiled.tallest c.requires.well
    c.bytes.ensures.value c.in_default.ensures c.in-Ok.ensures.put c.in-Ok.run'.0 _ c.in-Ok.ensures.told
    (reports c.args.limits compiled.image c.args.input compiled.tallest c.requires.region c.requires.stack
    c.requires.keeps _ c.region_start.result c.walked.result compiled.tallest (sym c.in-Ok.ensures.stopped)
    c.region_start.ensures c.walked.ensures refl))
