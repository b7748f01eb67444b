use Rattle.std.proofs.Common.{Some, ap, sym, ◌∙◌}
use Rattle.std.specs.Int.{w64}
use Rattle.std.proofs.lemmas.Int.{to_z-of_z}
use Rattle.type_graph.specs.Rows.{row_of}
use Rattle.cast_rules.specs.Calls.{part_by, project_by}
use Rattle.cast_rules.specs.Making.{Makes, Typed}
use Rattle.insert_steps.specs.Views.{typed_of, work_of}
use Rattle.insert_steps.proofs.joining.projected.Goals as goal

pub returns-in_ok-plain-in-Tuple-clause-answer : goal.returns-in_ok-plain-in-Tuple-clause-answer
returns-in_ok-plain-in-Tuple-clause-answer c =
    let back = to_z-of_z w64 c.args.part c.ranges.part in
    let work = work_of c.args.progress.now in
    ap (λ row. project_by c.args.pos c.args.part_pos (typed_of c.args.whole) c.args.part row work)
    (c.in_ok-parts.ensures.row ∙ ap (λ row. Some (row_of row)) c.in-Tuple.is)
    ∙ ap (λ type. part_by c.args.part_pos (typed_of c.args.whole) c.args.part type work)
    (sym (rw (c.as_slice.ensures, back) at c.in-Some.ensures))
    ∙ ap (λ (e : Typed). Makes e work) (sym (rw back at c.in_ok-plain-in-Tuple.ensures))
