use Rattle.std.proofs.Common.{sym, ◌∙◌}
use Rattle.grift_cli.proofs.Putting.{some_bytes, puts_all}
use Rattle.grift_cli.proofs.runner.put_all.Goals as goal

pub returns : goal.returns
returns g c =
    puts_all _ c.put.result _ (some_bytes c.args.bytes.now (sym c.if-is_empty.false ∙ c.is_empty.ensures)) c.put.ensures
