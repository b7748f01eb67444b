use Rattle.std.proofs.Common.{◌≡◌, ◌+◌, ◌*◌, ◌%◌, ◌^◌, ◌<◌, arith}
use Rattle.object_layout.specs.Headers.{packed}
use Rattle.object_layout.proofs.Packing.{unpacks_as}
use Rattle.object_layout.proofs.headers.pack.Goals as goal

pub returns-clause-unpacks : goal.returns-clause-unpacks
returns-clause-unpacks c =
    let h = c.args.header in
    let kind : h.kind < 2 ^ 8 = omega arith in
    let height : h.height < 2 ^ 16 = omega arith in
    let count : h.count < 2 ^ 32 = omega arith in
    let word = c.from.result + c.from-2.result * 65536 % 2 ^ 64 + c.from-3.result * 4294967296 % 2 ^ 64 in
    let same : packed h ≡ word =
    omega (arith, c.from.ensures, c.from-2.ensures, c.from-3.ensures, kind, height, count) in
    unpacks_as h kind height count word same
