use Rattle.std.proofs.Common.{◌≤◌, max, sym, subst}
use Rattle.std.proofs.lemmas.Result.{IfOk-weaker}
use Rattle.type_graph.specs.Trees.{height}
use Rattle.coercion_norm.specs.declared.nodes.CoercionId.{CoercionId}
use Rattle.coercion_norm.specs.Coercions.{rows_of}
use Rattle.coercion_norm.specs.CoercionTables.{cast_of}
use Rattle.coercion_norm.specs.Heights.{coercion_height}
use Rattle.coercion_norm.specs.Nodes.{IsTree, tree_of}
use Rattle.coercion_norm.specs.Paths.{Edge, Stop}
use Rattle.coercion_norm.specs.StandsFor.{StandsFor}
use Rattle.coercion_norm.proofs.CastLemmas.{cast_low, cast_stands}
use Rattle.coercion_norm.proofs.casts.coerce.Goals as goal

pub returns-clause-stands : goal.returns-clause-stands
returns-clause-stands c =
    let types = c.args.types.now in
    let nodes = c.coerce_known.new.table.nodes in
    IfOk-weaker c.coerce_known.result
    (λ (r : CoercionId). IsTree nodes r.0 (cast_of types c.args.a.0 c.args.b.0 c.args.label.0))
    (λ (r : CoercionId). StandsFor (rows_of types) (tree_of nodes r.0) c.args.a.0 (Edge c.args.label.0 c.args.b.0 Stop))
    (λ r made. subst (λ x. StandsFor (rows_of types) x c.args.a.0 (Edge c.args.label.0 c.args.b.0 Stop)) (sym made.is)
    (cast_stands types c.len.ensures.table c.args.a.0 c.args.b.0 c.args.label.0)) c.coerce_known.ensures.made

pub returns-clause-height : goal.returns-clause-height
returns-clause-height c =
    let types = c.args.types.now in
    let nodes = c.coerce_known.new.table.nodes in
    IfOk-weaker c.coerce_known.result
    (λ (r : CoercionId). IsTree nodes r.0 (cast_of types c.args.a.0 c.args.b.0 c.args.label.0))
    (λ (r : CoercionId). coercion_height (height types) (tree_of nodes r.0)
    ≤ max (height types c.args.a.0) (height types c.args.b.0))
    (λ r made. subst (λ x. coercion_height (height types) x
    ≤ max (height types c.args.a.0) (height types c.args.b.0)) (sym made.is)
    (cast_low types c.len.ensures.table c.args.a.0 c.args.b.0 c.args.label.0)) c.coerce_known.ensures.made
