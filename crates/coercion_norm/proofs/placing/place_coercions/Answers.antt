use Rattle.std.proofs.Common.{ℕ, ◌+◌, ◌*◌, ◌<◌, cond, List, [], ◌∷◌, ◌++◌, length, ap, ◌∙◌, arith}
use Rattle.type_graph.specs.Trees.{height}
use Rattle.type_graph.proofs.Public.{slice_get_at}
use Rattle.coercion_norm.specs.Coercions.{is_id}
use Rattle.coercion_norm.specs.Heights.{coercion_height}
use Rattle.coercion_norm.specs.Nodes.{tree_of}
use Rattle.coercion_norm.specs.StaticObjects.{node_object}
use Rattle.coercion_norm.proofs.NodeObjects.{one_more_coercion_said}
use Rattle.coercion_norm.proofs.NodePlacing.{node_placed}
use Rattle.coercion_norm.proofs.placing.place_coercions.Goals as goal

pub loop-c-preserved : goal.loop-c-preserved
loop-c-preserved c =
    let below = c.loop-c-test.true in
    let many = c.len-c-end.ensures.len in
    let within : c.loop-c.c < length c.args.table.now.nodes = omega (arith, below, many) in
    let node = slice_get_at c.args.table.now.nodes c.loop-c.c within in
    let ordered = c.len-c-end.ensures.nodes.ordered in
    let words = c.in_ok-extend.ensures.ok ∙ ap (λ (xs : List ℕ). c.loop-c.words ++ xs) c.as_slice-in-loop-c.ensures in
    let told =
    c.in_ok-push.ensures.ok
    ∙ ap (λ n. c.loop-c.coercion_at ++ n ∷ []) c.word_of.ensures
    ∙ ap (λ n. c.loop-c.coercion_at
    ++ cond (is_id (tree_of c.args.table.now.nodes c.loop-c.c)) 0 (c.args.start + 8 * n) ∷ [])
    c.len-in-loop-c.ensures in
    let object =
    c.in_ok-object.ensures node.0 node.1
    ∙ ap (λ (xs : List ℕ). node_object c.args.type_at.now xs
    (coercion_height (height c.args.types.now) (tree_of c.args.table.now.nodes c.loop-c.c)) node.0) c.as_slice.ensures
    in (
      node_placed c.args.types.now c.args.table.now ordered c.requires.fits c.args.start c.loop-c.c c.loop-c.words
          c.args.type_at.now c.loop-c.coercion_at c.loop-c.invariant.0 within c.in_ok-object.object c.extend.new.self
          c.push.new.self words told node.0 node.1 object,
      one_more_coercion_said c.args.types.now c.args.table.now ordered c.requires.fits c.args.start c.loop-c.c
          c.loop-c.words c.in_ok-object.object c.extend.new.self c.args.type_at.now c.loop-c.coercion_at
          c.push.new.self within c.loop-c.invariant.1 node.0 node.1 object words told,
    )
