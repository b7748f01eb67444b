use Rattle.std.proofs.Common.{rules}
use Rattle.rv_machine.specs.Image.{IsImage}
use Rattle.low_ir.specs.Views.{procs_of}
use Rattle.reg_assign.proofs.ImageRuns.{joined}
use Rattle.reg_assign.proofs.images.image_of.Goals as goal

pub assign-requires : goal.assign-requires
assign-requires c = c.in_ok-selected.ensures.holding

pub apply-requires-clause-holds : goal.apply-requires-clause-holds
apply-requires-clause-holds c = c.in_ok-assignment.ensures.holds

pub apply-requires-clause-small : goal.apply-requires-clause-small
apply-requires-clause-small c = c.in_ok-selected.ensures.fitting

pub assemble-requires : goal.assemble-requires
assemble-requires c = c.in_ok-code.ensures.assembles c.in_ok-selected.ensures.well_formed

pub returns : goal.returns
returns c =
    let whole : IsImage c.in_ok-image.image = search rules in
    joined (procs_of c.args.low.now.procs) c.args.low.now.entry _ _ _ _ c.in_ok-image.image
    c.args.low.now.statics.words c.args.labels.now c.requires whole c.in_ok-selected.ensures
    c.in_ok-assignment.ensures c.in_ok-code.ensures c.in_ok-image.ensures
