use Rattle.std.proofs.Common.{ap, ◌≡◌, ◌∙◌, ◌∷◌, ◌++◌, length, arith}
use Rattle.low_ir.specs.Views.{procs_of}
use Rattle.rv_select.specs.declared.code.VirtualItem.TheVariants.{Call}
use Rattle.rv_select.specs.Select.{answer_items}
use Rattle.rv_select.proofs.Claims.{is_code_of}
use Rattle.rv_select.proofs.Closedness.{closed_small}
use Rattle.rv_select.proofs.Procs.{starts, all_put, all_counted}
use Rattle.rv_select.proofs.selection.select.Goals as goal

pub loop-number-init : goal.loop-number-init
loop-number-init c =
    let begun = c.in_ok-put_start.ensures
    ∙ ap (λ items. items ++ (Call c.args.low.now.entry 0 ∷ answer_items)) c.new-items.ensures in
    let many = ap length c.as_slice-procs.ensures in (
      starts c.args.low.now.entry c.in-Ok.count c.args.low.now.procs _ (c.in-Ok.ensures.1 ∙ many) begun,
      omega arith,
      closed_small (procs_of c.args.low.now.procs) c.args.low.now.entry c.requires,
    )

pub returns : goal.returns
returns c =
    let many = ap length c.as_slice-procs.ensures in
    let end : c.loop-number.number ≡ length c.args.low.now.procs =
    omega (arith, many, c.loop-number-test.false, c.loop-number.auto.number-end) in
    is_code_of (procs_of c.args.low.now.procs) c.args.low.now.entry c.loop-number.items c.loop-number.registers
    c.requires
    (all_put c.loop-number.registers c.loop-number.marks c.loop-number.number c.args.low.now.procs c.loop-number.items
    _ end c.loop-number.invariant.0)
    (all_counted c.loop-number.registers c.loop-number.number c.args.low.now.procs _ end c.loop-number.invariant.1)
