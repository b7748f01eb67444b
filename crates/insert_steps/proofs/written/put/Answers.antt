use Rattle.type_graph.specs.Rows.{row_of}
use Rattle.cast_rules.proofs.Public.{interned_grows, interned_stands, leaf_part}
use Rattle.insert_steps.proofs.written.put.Goals as goal

pub returns-clause-grows : goal.returns-clause-grows
returns-clause-grows c =
    interned_grows (row_of c.args.row) c.args.types.now c.intern.new.self c.in_ok-ty.ty.0 c.len.ensures.table
    c.in_ok-ty.ensures.ok

pub returns-clause-stands : goal.returns-clause-stands
returns-clause-stands c =
    interned_stands (row_of c.args.row) c.args.types.now c.intern.new.self c.in_ok-ty.ty.0 c.len.ensures.table
    c.len-2.ensures.table c.requires c.in_ok-ty.ensures.ok

pub returns-clause-leaf : goal.returns-clause-leaf
returns-clause-leaf c =
    leaf_part c.intern.new.self c.in_ok-ty.ty.0 (row_of c.args.row) c.len-2.ensures.table c.in_ok-ty.ensures.place
