use Rattle.std.proofs.Common.{◌<◌, ◌≤◌, min, arith, length}
use Rattle.type_graph.specs.Trees.{size}
use Rattle.cast_rules.proofs.Public.{small_part}
use Rattle.insert_steps.proofs.progress.Progress.not_too_large.Goals as goal

pub returns-clause-part : goal.returns-clause-part
returns-clause-part c =
    let types = c.args.self.now.types in
    let there : c.args.ty.0 < length types = omega (arith, c.len.ensures.len, c.if-ty-len.false) in
    let small : min 1001 (size types c.args.ty.0) ≤ 1000 = omega (arith, c.size.ensures, c.if-size-gt-MOST_NODES.false)
    in
    small_part types c.args.ty.0 there small
