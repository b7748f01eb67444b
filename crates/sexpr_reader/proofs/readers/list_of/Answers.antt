use Rattle.std.proofs.Common.{map}
use Rattle.sexpr_reader.specs.View.{datum_of}
use Rattle.sexpr_reader.proofs.Rows.{onto-none}
use Rattle.sexpr_reader.proofs.Lists.{onto-pop}
use Rattle.sexpr_reader.proofs.readers.list_of.Goals as goal

pub loop-last-init : goal.loop-last-init
loop-last-init c = onto-none (map datum_of c.args.items.items)

pub loop-last-preserved : goal.loop-last-preserved
loop-last-preserved c =
    rw (c.in_ok-new.ensures.ok, c.in_ok-new-2.ensures.ok)
    (onto-pop _ _ c.in-Some.last _ _ c.in-Some.ensures.items c.loop-last.invariant)
