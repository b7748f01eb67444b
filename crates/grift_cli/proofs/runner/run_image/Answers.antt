use Rattle.grift_cli.proofs.Putting.{runs_after_put}
use Rattle.grift_cli.proofs.runner.run_image.Goals as goal

pub returns-in-Ok : goal.returns-in-Ok
returns-in-Ok g c =
    runs_after_put c.args.limits c.args.image.now c.args.input c.bytes.result.now _ _ c.exec_image.result
    c.requires.well c.bytes.ensures.value c.in-Ok.ensures c.exec_image.ensures
