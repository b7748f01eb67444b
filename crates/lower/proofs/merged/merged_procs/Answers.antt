use Rattle.std.proofs.Common.{◌≡◌, ◌+◌, subst}
use Rattle.low_ir.specs.Views.{procs_of}
use Rattle.rt_refs.specs.RefProcs.{ref_procs}
use Rattle.lower.proofs.merging.MergedSet.{merged_list}
use Rattle.lower.proofs.merged.merged_procs.Goals as goal

pub returns : goal.returns
returns c =
    merged_list c.args.first c.in_ok-procs.procs c.as_slice.result.now c.in_ok-others.others c.push_copies.new.procs
    c.in_ok-procs.ensures c.as_slice.ensures
    (subst (λ n. procs_of c.in_ok-others.others ≡ ref_procs (27 + c.args.first) n) c.number.ensures
    c.in_ok-others.ensures) c.in_ok-push_copies.ensures
