use Rattle.std.proofs.Common.{◌≡◌, ◌+◌, ◌-◌}
use Rattle.low_ir.proofs.Public.{extended}
use Rattle.rt_cast.specs.PartCodes.{apart, part_step, parts_code}
use Rattle.rt_cast.proofs.PartCodeLemmas.{parts_more}
use Rattle.rt_cast.proofs.parts.parts_code.Goals as goal

pub loop-j-preserved : goal.loop-j-preserved
loop-j-preserved c =
    let raise = c.args.making.raise in
    let part = c.args.making.part in
    let offset = apart c.args.making.step in
    let total = c.args.total in
    let j = c.loop-j.j in
    extended c.loop-j.code c.part_step-code.result (part_step raise part offset total (total - 1 - j))
    (λ old. old ≡ parts_code raise part offset total j (total - j))
    (λ new. new ≡ parts_code raise part offset total (j + 1) (total - (j + 1)))
    (λ old new o n. parts_more raise part offset total j old new c.loop-j-test.true o n) c.loop-j.invariant
    (c.part_step-code.ensures total)
