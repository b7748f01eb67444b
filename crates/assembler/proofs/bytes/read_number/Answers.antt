use Rattle.assembler.proofs.LittleEndian.{read_is_load, read_fits}
use Rattle.assembler.proofs.bytes.read_number.Goals as goal

pub returns-clause-value : goal.returns-clause-value
returns-clause-value g c =
    read_is_load g.row.WIDTH c.args.at c.from_le_bytes.result c.args.bytes.now c.copy_from_slice.new.self
    c.requires.small c.requires.inside c.copy_from_slice.ensures.after c.from_le_bytes.ensures

pub returns-clause-fits : goal.returns-clause-fits
returns-clause-fits g c =
    read_fits g.row.WIDTH c.args.at c.from_le_bytes.result c.args.bytes.now (λ i. (c.type_inv.bytes i).fits)
    (returns-clause-value g c)
