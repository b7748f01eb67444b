use Rattle.grift_cli.proofs.StoppedStorage.{ends_behind, not_torn, reported_so}
use Rattle.grift_cli.proofs.spaces.walked.Goals as goal

pub walk-requires : goal.walk-requires
walk-requires c = ends_behind c.requires c.new.result c.reg.result c.new.ensures c.reg.ensures

pub unreachable-requires : goal.unreachable-requires
unreachable-requires c =
    not_torn c.requires c.new.result c.reg.result c.new.ensures c.reg.ensures c.in-Err.field-0 c.in-Err.ensures.torn

pub returns : goal.returns
returns c =
    reported_so c.requires c.new.result c.reg.result c.new.ensures c.reg.ensures c.in-Ok.report c.in-Ok.ensures.report
