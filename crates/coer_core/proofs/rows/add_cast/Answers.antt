use Rattle.std.proofs.Common.{ap, ◌∙◌}
use Rattle.std.proofs.lemmas.List.{map-append}
use Rattle.coercion_norm.specs.CastRows.{row_cast, row_casts}
use Rattle.type_graph.specs.Trees.{height}
use Rattle.coercion_norm.specs.Heights.{coercion_height}
use Rattle.coer_core.proofs.FreshRows.{coercions_kept}
use Rattle.coer_core.proofs.rows.add_cast.Goals as goal

pub returns-clause-rows : goal.returns-clause-rows
returns-clause-rows c = ap row_casts c.in_ok-add.ensures ∙ map-append row_cast c.args.rows.now _

pub returns-clause-coercions : goal.returns-clause-coercions
returns-clause-coercions c =
    coercions_kept c.args.types.now c.args.coercions.now.nodes c.coerce.new.table.nodes c.args.rows.now c.add.new.rows _
    c.len.ensures.nodes.ordered.before c.coerce.ensures.grows c.requires.coercions c.in_ok-add.ensures
    c.in_ok-coercion.ensures.made

pub returns-clause-height : goal.returns-clause-height
returns-clause-height c =
    c.height.ensures.height c.args.types.now c.coerce.ensures.fits
    ∙ ap (coercion_height (height c.args.types.now)) c.in_ok-coercion.ensures.made.is
