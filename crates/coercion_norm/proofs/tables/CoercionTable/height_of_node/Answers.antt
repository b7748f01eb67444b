use Rattle.std.proofs.Common.{◌≡◌, suc, ◌+◌, ◌≤◌, ◌++◌, ◌∷◌, [], max, Some, sym, ap, ◌∙◌, arith}
use Rattle.type_graph.specs.Trees.{height}
use Rattle.type_graph.specs.declared.tables.TheConstants.{MOST_HEIGHT}
use Rattle.coercion_norm.specs.Heights.{coercion_height, highest}
use Rattle.coercion_norm.specs.Nodes.{coercion_places, grown, node_of, tree_of, trees}
use Rattle.coercion_norm.proofs.PartLemmas.{highest-append}
use Rattle.coercion_norm.proofs.tables.CoercionTable.height_of_node.Goals as goal

-- the height of a function's coercion, by what was computed of its parts
fun_height : (c : goal.After-max) → 1 + c.max.result
    ≡ coercion_height (height c.args.types.now) (grown (tree_of c.args.self.now.nodes) (Some (node_of c.args.node.now)))
fun_height c =
    let at = tree_of c.args.self.now.nodes in
    let count = height c.args.types.now in
    let both : c.max.result ≡ max c.highest.result c.height.result = c.max.ensures in
    let arguments : c.highest.result ≡ highest (height c.args.types.now) (trees (tree_of c.args.self.now.nodes)
    (coercion_places c.in-Fun.arguments)) = rw c.as_slice.ensures at c.highest.ensures in
    let answer : c.height.result ≡ coercion_height (height c.args.types.now)
    (tree_of c.args.self.now.nodes c.in-Fun.result.0) =
    c.height.ensures.height c.args.types.now c.requires.fits in
    let whole : highest (height c.args.types.now) (trees (tree_of c.args.self.now.nodes)
    (coercion_places c.in-Fun.arguments ++ c.in-Fun.result.0 ∷ []))
    ≡ max (highest (height c.args.types.now) (trees (tree_of c.args.self.now.nodes)
    (coercion_places c.in-Fun.arguments)))
    (coercion_height (height c.args.types.now) (tree_of c.args.self.now.nodes c.in-Fun.result.0)) =
    highest-append at count (coercion_places c.in-Fun.arguments) c.in-Fun.result.0 in
    let sum : 1 + c.max.result ≡ suc (highest (height c.args.types.now) (trees (tree_of c.args.self.now.nodes)
    (coercion_places c.in-Fun.arguments ++ c.in-Fun.result.0 ∷ []))) = omega (arith, both, arguments, answer, whole) in
    sum ∙ sym (ap (λ n. coercion_height count (grown at (Some (node_of n)))) c.in-Fun.is)

pub overflow_add-result : goal.overflow_add-result
overflow_add-result c =
    let low : coercion_height (height c.args.types.now)
    (grown (tree_of c.args.self.now.nodes) (Some (node_of c.args.node.now))) ≤ MOST_HEIGHT =
    c.requires.node.sound.low in
    omega (arith, fun_height c, low)

pub returns-in-Fun : goal.returns-in-Fun
returns-in-Fun c = fun_height c
