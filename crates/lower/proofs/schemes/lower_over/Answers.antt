use Rattle.std.proofs.Common.{◌≡◌, suc, ◌+◌, length, arith}
use Rattle.std.proofs.lemmas.List.{length-map}
use Rattle.grift_base.specs.Types.{row_at}
use Rattle.type_graph.specs.Rows.{row_of}
use Rattle.flat_ir.specs.Views.{proc_of as flat_proc_of, procs_of as flat_procs_of}
use Rattle.low_ir.specs.Views.{procs_of}
use Rattle.coercion_norm.specs.CastRows.{row_casts}
use Rattle.lowered_code.specs.CastWays.{cast_ways}
use Rattle.lower.specs.Sets.{numbers_of}
use Rattle.lower.proofs.SchemePrograms.{program_gives_up_nowhere, program_is_closed, program_is_lowered}
use Rattle.lower.proofs.schemes.lower_over.Goals as goal

pub returns-clause-procs : goal.returns-clause-procs
returns-clause-procs g c = λ answer known.
    let flat = c.args.flat.now in
    let ways = cast_ways c.args.types.now (row_casts c.args.casts.now) in
    let at : c.len-entry.result + 1 ≡ suc (length flat.procs) = omega (arith, c.len-entry.ensures) in
    program_is_lowered (λ first. g.S.Scheme.numbers_from c.args.scheme.now first)
    (λ first. g.S.Scheme.procs_from c.args.scheme.now first) (numbers_of c.in_ok-set.set)
    c.args.statics.cast_at ways (flat_procs_of flat.procs) flat.entry (row_of c.row-answer.result.now)
    (procs_of c.in_ok-set.set.procs) (procs_of c.in_ok-procs.procs) (c.len-entry.result + 1)
    c.in_ok-set.ensures.numbers c.in_ok-set.ensures.procs c.in_ok-procs.ensures answer
    (row_at c.args.types.now flat.answer.0) (length flat.procs) c.row-answer.ensures known at

pub returns-clause-closed : goal.returns-clause-closed
returns-clause-closed g c = λ closed.
    let flat = c.args.flat.now in
    let ways = cast_ways c.args.types.now (row_casts c.args.casts.now) in
    let long = length-map flat.procs flat_proc_of in
    let at : c.len-entry.result + 1 ≡ suc (length (flat_procs_of flat.procs)) =
    omega (arith, c.len-entry.ensures, long) in
    let many : c.len-entry.result ≡ length (flat_procs_of flat.procs) = omega (arith, c.len-entry.ensures, long) in
    program_is_closed (λ first. g.S.Scheme.numbers_from c.args.scheme.now first)
    (λ first. g.S.Scheme.procs_from c.args.scheme.now first) (numbers_of c.in_ok-set.set)
    c.args.statics.cast_at ways (flat_procs_of flat.procs) flat.entry (row_of c.row-answer.result.now)
    (procs_of c.in_ok-set.set.procs) (procs_of c.in_ok-procs.procs) (c.len-entry.result + 1)
    c.in_ok-set.ensures.numbers c.in_ok-set.ensures.procs c.in_ok-procs.ensures
    c.len-entry.result c.in_ok-set.ensures.serves at many closed

pub returns-clause-persists : goal.returns-clause-persists
returns-clause-persists g c =
    let flat = c.args.flat.now in
    let ways = cast_ways c.args.types.now (row_casts c.args.casts.now) in
    program_gives_up_nowhere (λ first. g.S.Scheme.numbers_from c.args.scheme.now first)
    (λ first. g.S.Scheme.procs_from c.args.scheme.now first) (numbers_of c.in_ok-set.set)
    c.args.statics.cast_at ways (flat_procs_of flat.procs) flat.entry (row_of c.row-answer.result.now)
    (procs_of c.in_ok-set.set.procs) (procs_of c.in_ok-procs.procs) (c.len-entry.result + 1)
    c.in_ok-set.ensures.numbers c.in_ok-set.ensures.procs c.in_ok-procs.ensures c.in_ok-set.ensures.serves
