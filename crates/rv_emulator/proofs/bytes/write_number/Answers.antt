use Rattle.rv_emulator.proofs.Written.{write_is_store}
use Rattle.rv_emulator.proofs.bytes.write_number.Goals as goal

pub returns : goal.returns
returns g c =
    write_is_store g.row.WIDTH c.args.at c.args.word c.args.bytes.now c.copy_from_slice.new.self c.to_le_bytes.result
    c.requires.small c.requires.inside c.to_le_bytes.ensures c.copy_from_slice.ensures.after
