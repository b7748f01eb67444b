use Rattle.std.proofs.Common.{◌≤◌, max, sym, subst}
use Rattle.type_graph.specs.Trees.{height}
use Rattle.coercion_norm.specs.Coercions.{rows_of}
use Rattle.coercion_norm.specs.Heights.{coercion_height}
use Rattle.coercion_norm.specs.Nodes.{tree_of}
use Rattle.coercion_norm.specs.Paths.{joined}
use Rattle.coercion_norm.specs.StandsFor.{StandsFor}
use Rattle.coercion_norm.proofs.Public.{composition_low, composition_stands}
use Rattle.coercion_compose.proofs.compositions.compose.Goals as goal

pub returns-clause-stands : goal.returns-clause-stands
returns-clause-stands c = λ t u l m e first second.
    subst (λ x. StandsFor (rows_of c.args.types.now) x t (joined l m)) (sym c.in_ok-e.ensures.made.is)
    (composition_stands c.args.types.now c.len.ensures.table (tree_of c.args.table.now.nodes c.args.c.0)
    (tree_of c.args.table.now.nodes c.args.d.0) t u l m e first second)

pub returns-clause-height : goal.returns-clause-height
returns-clause-height c =
    subst (λ x. coercion_height (height c.args.types.now) x
    ≤ max (coercion_height (height c.args.types.now) (tree_of c.args.table.now.nodes c.args.c.0))
    (coercion_height (height c.args.types.now) (tree_of c.args.table.now.nodes c.args.d.0)))
    (sym c.in_ok-e.ensures.made.is)
    (composition_low c.args.types.now c.len.ensures.table (tree_of c.args.table.now.nodes c.args.c.0)
    (tree_of c.args.table.now.nodes c.args.d.0))
