use Rattle.rv_emulator.specs.Turns.{outcome_of}
use Rattle.grift_cli.proofs.Stopping.{has_put, put_fails, stops_short}
use Rattle.grift_cli.proofs.runner.run_putting.Goals as goal

pub returns-in_default-run_blocks-clause-short : goal.returns-in_default-run_blocks-clause-short
returns-in_default-run_blocks-clause-short g c =
    put_fails c.args.limits c.args.image.now c.args.input _ _ _ c.in-Ok.ensures c.in_default-run_blocks.ensures.ran

pub returns-in-Some-clause-told : goal.returns-in-Some-clause-told
returns-in-Some-clause-told g c =
    (has_put c.args.limits c.args.image.now c.args.input _ _ _ (outcome_of c.in-Stopped.stop) _ c.in-Some.report
    c.in-Ok.ensures c.in-Stopped.ensures.ran c.in-Some.ensures).told

pub returns-in-Some-clause-stopped : goal.returns-in-Some-clause-stopped
returns-in-Some-clause-stopped g c =
    (has_put c.args.limits c.args.image.now c.args.input _ _ _ (outcome_of c.in-Stopped.stop) _ c.in-Some.report
    c.in-Ok.ensures c.in-Stopped.ensures.ran c.in-Some.ensures).state

pub returns-in-Some-clause-put : goal.returns-in-Some-clause-put
returns-in-Some-clause-put g c =
    (has_put c.args.limits c.args.image.now c.args.input _ _ _ (outcome_of c.in-Stopped.stop) _ c.in-Some.report
    c.in-Ok.ensures c.in-Stopped.ensures.ran c.in-Some.ensures).put

pub returns-in-None-clause-short : goal.returns-in-None-clause-short
returns-in-None-clause-short g c =
    stops_short c.args.limits c.args.image.now c.args.input _ _ _ (outcome_of c.in-Stopped.stop) _ c.in-Ok.ensures
    c.in-Stopped.ensures.ran c.in-None.ensures
