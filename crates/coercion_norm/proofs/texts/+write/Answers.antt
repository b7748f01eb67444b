use Rattle.std.proofs.Common.{ap₂, nat_eq}
use Rattle.std.proofs.Common.{◌≡◌, ℕ, ◌<◌, ◌+◌, ◌++◌, List, length, Result, Ok, Err, Some, sym, ap}
use Rattle.std.proofs.Common.{◌∙◌, subst, arith}
use Rattle.std.specs.Prelude.{All, OnOk, codes}
use Rattle.type_graph.proofs.Public.{same_some}
use Rattle.type_graph.specs.Texts.{type_text}
use Rattle.coercion_norm.specs.declared.nodes.CoercionId.{CoercionId}
use Rattle.coercion_norm.specs.Nodes.{InjectNode, MiddleNode, ProjectNode, FailNode, coercion_places, node_of}
use Rattle.coercion_norm.specs.Nodes.{node_parts, tree_of, trees}
use Rattle.coercion_norm.specs.Texts.{HasLabels, HaveLabels, coercion_text, inject_text, kind_text, label_text}
use Rattle.coercion_norm.specs.Texts.{parts_text}
use Rattle.coercion_norm.specs.Texts.{project_text}
use Rattle.coercion_norm.proofs.PartLemmas.{part_at}
use Rattle.coercion_norm.proofs.TextLemmas.{fail_written, id_written, inject_behind_written, inject_written}
use Rattle.coercion_norm.proofs.TextLemmas.{labels_of, labels_of_part, left_more, left_none, left_text, middle_written}
use Rattle.coercion_norm.proofs.TextLemmas.{project_before_written, project_written}
use Rattle.coercion_norm.proofs.texts.+write.Goals as goal

-- what is written, in other words
in_words : {E : Type 0} (r : Result (Unit {0}) E) (written one two : List ℕ) → one ≡ two
    → OnOk r (written ≡ one) → OnOk r (written ≡ two)
in_words (Ok u) written one two e h = h ∙ e
in_words (Err x) written one two e h = tt

pub write_coercion-write_label-requires : goal.write_coercion-write_label-requires
write_coercion-write_label-requires t c =
    labels_of (length c.args.labels.now) c.args.table.now.nodes c.len.ensures.nodes.ordered.before c.args.c.0
    (FailNode c.in-Fail.label.0) (c.node.ensures ∙ ap (λ n. Some (node_of n)) c.in-Fail.is) c.requires.labels

pub write_coercion-is_id-requires : goal.write_coercion-is_id-requires
write_coercion-is_id-requires t c =
    let below : c.in-Inject.g.0 < c.args.c.0 = c.len.ensures.nodes.ordered.before c.args.c.0
    (InjectNode c.in-Inject.g.0 c.in-Inject.kept.0) (c.node.ensures ∙ ap (λ n. Some (node_of n)) c.in-Inject.is)
    0 0 (omega arith) in
    let within = c.requires.there in
    omega (arith, below, within)

pub write_coercion-write_inject-requires : goal.write_coercion-write_inject-requires
write_coercion-write_inject-requires t c =
    c.requires.fits.types_there c.args.c.0 (InjectNode c.in-Inject.g.0 c.in-Inject.kept.0)
    (c.node.ensures ∙ ap (λ n. Some (node_of n)) c.in-Inject.is) 0 0 (omega arith)

pub write_coercion-returns-then-is_id : goal.write_coercion-returns-then-is_id
write_coercion-returns-then-is_id t c =
    in_words c.write_inject.result c.write_inject.new.text
    (c.args.text.now ++ inject_text (type_text c.args.types.now) c.in-Inject.kept.0) _
    (inject_written (type_text c.args.types.now) (label_text c.args.labels.now) c.args.table.now.nodes
    c.len.ensures.nodes.ordered.before c.args.c.0 c.args.text.now c.in-Inject.g.0 c.in-Inject.kept.0
    (c.node.ensures ∙ ap (λ n. Some (node_of n)) c.in-Inject.is) (sym c.is_id.ensures ∙ c.if-is_id.true))
    c.write_inject.ensures

pub write_coercion-write_coercion-requires : goal.write_coercion-write_coercion-requires
write_coercion-write_coercion-requires t c =
    let at = c.node.ensures ∙ ap (λ n. Some (node_of n)) c.in-Inject.is in
    let below : c.in-Inject.g.0 < c.args.c.0 = c.len.ensures.nodes.ordered.before c.args.c.0
    (InjectNode c.in-Inject.g.0 c.in-Inject.kept.0) at 0 0 (omega arith) in
    let within = c.requires.there in (
      omega (arith, c.decreases, below),
      (
        omega (arith, below, within),
        (
          c.requires.fits,
          labels_of (length c.args.labels.now) c.args.table.now.nodes c.len.ensures.nodes.ordered.before c.args.c.0
              (InjectNode c.in-Inject.g.0 c.in-Inject.kept.0) at c.requires.labels,
        ),
      ),
    )

pub write_coercion-write_inject-requires-in-Inject : goal.write_coercion-write_inject-requires-in-Inject
write_coercion-write_inject-requires-in-Inject t c =
    c.requires.fits.types_there c.args.c.0 (InjectNode c.in-Inject.g.0 c.in-Inject.kept.0)
    (c.node.ensures ∙ ap (λ n. Some (node_of n)) c.in-Inject.is) 0 0 (omega arith)

pub write_coercion-is_id-requires-in-Project : goal.write_coercion-is_id-requires-in-Project
write_coercion-is_id-requires-in-Project t c =
    let below : c.in-Project.i.0 < c.args.c.0 = c.len.ensures.nodes.ordered.before c.args.c.0
    (ProjectNode c.in-Project.wanted.0 c.in-Project.label.0 c.in-Project.i.0)
    (c.node.ensures ∙ ap (λ n. Some (node_of n)) c.in-Project.is) 0 0 (omega arith) in
    let within = c.requires.there in
    omega (arith, below, within)

pub write_coercion-write_project-requires-clause-there : goal.write_coercion-write_project-requires-clause-there
write_coercion-write_project-requires-clause-there t c =
    c.requires.fits.types_there c.args.c.0
    (ProjectNode c.in-Project.wanted.0 c.in-Project.label.0 c.in-Project.i.0)
    (c.node.ensures ∙ ap (λ n. Some (node_of n)) c.in-Project.is) 0 0 (omega arith)

pub write_coercion-write_project-requires-clause-label : goal.write_coercion-write_project-requires-clause-label
write_coercion-write_project-requires-clause-label t c =
    (labels_of (length c.args.labels.now) c.args.table.now.nodes c.len.ensures.nodes.ordered.before c.args.c.0
    (ProjectNode c.in-Project.wanted.0 c.in-Project.label.0 c.in-Project.i.0)
    (c.node.ensures ∙ ap (λ n. Some (node_of n)) c.in-Project.is) c.requires.labels).0

pub write_coercion-returns-then-is_id-2 : goal.write_coercion-returns-then-is_id-2
write_coercion-returns-then-is_id-2 t c =
    in_words c.write_project.result c.write_project.new.text
    (c.args.text.now ++ project_text (type_text c.args.types.now) (label_text c.args.labels.now)
    c.in-Project.wanted.0 c.in-Project.label.0) _
    (project_written (type_text c.args.types.now) (label_text c.args.labels.now) c.args.table.now.nodes
    c.len.ensures.nodes.ordered.before c.args.c.0 c.args.text.now c.in-Project.wanted.0 c.in-Project.label.0
    c.in-Project.i.0 (c.node.ensures ∙ ap (λ n. Some (node_of n)) c.in-Project.is)
    (sym c.is_id-in-Project.ensures ∙ c.if-is_id-2.true)) c.write_project.ensures

pub write_coercion-write_project-requires-in-Project-clause-there :
    goal.write_coercion-write_project-requires-in-Project-clause-there
write_coercion-write_project-requires-in-Project-clause-there t c =
    c.requires.fits.types_there c.args.c.0
    (ProjectNode c.in-Project.wanted.0 c.in-Project.label.0 c.in-Project.i.0)
    (c.node.ensures ∙ ap (λ n. Some (node_of n)) c.in-Project.is) 0 0 (omega arith)

pub write_coercion-write_project-requires-in-Project-clause-label :
    goal.write_coercion-write_project-requires-in-Project-clause-label
write_coercion-write_project-requires-in-Project-clause-label t c =
    (labels_of (length c.args.labels.now) c.args.table.now.nodes c.len.ensures.nodes.ordered.before c.args.c.0
    (ProjectNode c.in-Project.wanted.0 c.in-Project.label.0 c.in-Project.i.0)
    (c.node.ensures ∙ ap (λ n. Some (node_of n)) c.in-Project.is) c.requires.labels).0

pub write_coercion-write_coercion-requires-in-Project : goal.write_coercion-write_coercion-requires-in-Project
write_coercion-write_coercion-requires-in-Project t c =
    let at = c.node.ensures ∙ ap (λ n. Some (node_of n)) c.in-Project.is in
    let below : c.in-Project.i.0 < c.args.c.0 = c.len.ensures.nodes.ordered.before c.args.c.0
    (ProjectNode c.in-Project.wanted.0 c.in-Project.label.0 c.in-Project.i.0) at 0 0 (omega arith) in
    let within = c.requires.there in (
      omega (arith, c.decreases, below),
      (
        omega (arith, below, within),
        (
          c.requires.fits,
          (labels_of (length c.args.labels.now) c.args.table.now.nodes c.len.ensures.nodes.ordered.before c.args.c.0
              (ProjectNode c.in-Project.wanted.0 c.in-Project.label.0 c.in-Project.i.0) at c.requires.labels).1,
        ),
      ),
    )

pub write_coercion-returns-in-Id : goal.write_coercion-returns-in-Id
write_coercion-returns-in-Id t c =
    in_words c.extend.result c.extend.new.self (c.args.text.now ++ codes "id") _
    (id_written (type_text c.args.types.now) (label_text c.args.labels.now) c.args.table.now.nodes
    c.len.ensures.nodes.ordered.before c.args.c.0 c.args.text.now
    (c.node.ensures ∙ ap (λ n. Some (node_of n)) c.in-Id.is)) c.extend.ensures.ok

pub write_coercion-returns-in_ok-write_label-in-Fail : goal.write_coercion-returns-in_ok-write_label-in-Fail
write_coercion-returns-in_ok-write_label-in-Fail t c =
    in_words c.extend-in-Fail-2.result c.extend-in-Fail-2.new.self (c.write_label.new.text ++ codes ")") _
    (ap (λ (l : List ℕ). l ++ codes ")")
    (c.in_ok-write_label-in-Fail.ensures
    ∙ ap (λ (l : List ℕ). l ++ label_text c.args.labels.now c.in-Fail.label.0) c.in_ok-extend-in-Fail.ensures.ok)
    ∙ fail_written (type_text c.args.types.now) (label_text c.args.labels.now) c.args.table.now.nodes
    c.len.ensures.nodes.ordered.before c.args.c.0 c.args.text.now c.in-Fail.label.0
    (c.node.ensures ∙ ap (λ n. Some (node_of n)) c.in-Fail.is)) c.extend-in-Fail-2.ensures.ok

pub write_coercion-returns-in_ok-write_inject-in-Inject : goal.write_coercion-returns-in_ok-write_inject-in-Inject
write_coercion-returns-in_ok-write_inject-in-Inject t c =
    in_words c.extend-in-Inject-3.result c.extend-in-Inject-3.new.self
    (c.write_inject-in-Inject.new.text ++ codes ")") _
    (inject_behind_written (type_text c.args.types.now) (label_text c.args.labels.now) c.args.table.now.nodes
    c.len.ensures.nodes.ordered.before c.args.c.0 c.args.text.now c.in-Inject.g.0 c.in-Inject.kept.0
    (c.node.ensures ∙ ap (λ n. Some (node_of n)) c.in-Inject.is) (sym c.is_id.ensures ∙ c.if-is_id.false)
    c.in_ok-extend-in-Inject.ensures.ok c.in_ok-write_coercion-in-Inject.ensures c.in_ok-extend-in-Inject-2.ensures.ok
    c.in_ok-write_inject-in-Inject.ensures) c.extend-in-Inject-3.ensures.ok

pub write_coercion-returns-in_ok-write_coercion-in-Project :
    goal.write_coercion-returns-in_ok-write_coercion-in-Project
write_coercion-returns-in_ok-write_coercion-in-Project t c =
    in_words c.extend-in-Project-3.result c.extend-in-Project-3.new.self
    (c.write_coercion-in-Project.new.text ++ codes ")") _
    (project_before_written (type_text c.args.types.now) (label_text c.args.labels.now) c.args.table.now.nodes
    c.len.ensures.nodes.ordered.before c.args.c.0 c.args.text.now c.in-Project.wanted.0 c.in-Project.label.0
    c.in-Project.i.0 (c.node.ensures ∙ ap (λ n. Some (node_of n)) c.in-Project.is)
    (sym c.is_id-in-Project.ensures ∙ c.if-is_id-2.false) c.in_ok-extend-in-Project.ensures.ok
    c.in_ok-write_project-in-Project.ensures c.in_ok-extend-in-Project-2.ensures.ok
    c.in_ok-write_coercion-in-Project.ensures) c.extend-in-Project-3.ensures.ok

-- ---- parts

pub write_middle-write_coercion-requires : goal.write_middle-write_coercion-requires
write_middle-write_coercion-requires t c =
    let node : node_of c.node.result.now ≡ MiddleNode c.args.kind c.requires.middle.0 =
    same_some _ _ (sym c.node.ensures ∙ c.requires.middle.1) in
    let places : coercion_places c.in_ok-parts.parts.items ≡ c.requires.middle.0 =
    c.in_ok-parts.ensures ∙ ap node_parts node in
    let below = c.loop-j-test.true in
    let width = c.len-width.ensures in
    let inside : c.loop-j.j < length c.in_ok-parts.parts.items = omega (arith, below, width) in
    let before = subst (All (λ part. part < c.args.c.0)) (sym places)
    (c.len.ensures.nodes.ordered.before c.args.c.0 (MiddleNode c.args.kind c.requires.middle.0) c.requires.middle.1) in
    let part : c.index.result.now.0 < c.args.c.0 =
    subst (λ (x : CoercionId). x.0 < c.args.c.0) (sym c.index.ensures)
    (part_at (λ part. part < c.args.c.0) c.in_ok-parts.parts.items c.loop-j.j _ inside before) in
    let within = c.requires.there in
    let labels = subst (λ xs. HaveLabels (length c.args.labels.now) (trees (tree_of c.args.table.now.nodes) xs))
    (sym places)
    (labels_of (length c.args.labels.now) c.args.table.now.nodes c.len.ensures.nodes.ordered.before c.args.c.0
    (MiddleNode c.args.kind c.requires.middle.0) c.requires.middle.1 c.requires.labels) in (
      omega (arith, c.decreases, part),
      (
        omega (arith, part, within),
        (
          c.requires.fits,
          subst (λ (x : CoercionId). HasLabels (length c.args.labels.now) (tree_of c.args.table.now.nodes x.0))
              (sym c.index.ensures)
              (labels_of_part (length c.args.labels.now) (tree_of c.args.table.now.nodes) c.in_ok-parts.parts.items
              c.loop-j.j _ inside labels),
        ),
      ),
    )

pub write_middle-loop-j-preserved : goal.write_middle-loop-j-preserved
write_middle-loop-j-preserved t c =
    let below = c.loop-j-test.true in
    let width = c.len-width.ensures in
    let inside : c.loop-j.j < length c.in_ok-parts.parts.items = omega (arith, below, width) in
    let long : c.len-width.result ≡ length c.in_ok-parts.parts.items = omega (arith, width) in
    let whole : List ℕ = (c.args.text.now ++ kind_text c.args.kind)
    ++ parts_text (type_text c.args.types.now) (label_text c.args.labels.now) c.args.kind
    (trees (tree_of c.args.table.now.nodes) (coercion_places c.in_ok-parts.parts.items)) in
    let rest : List ℕ = left_text (type_text c.args.types.now) (label_text c.args.labels.now) c.args.table.now.nodes
    c.args.kind c.in_ok-parts.parts.items (c.loop-j.j + 1) in
    ap (λ (l : List ℕ). l ++ rest)
    (c.in_ok-write_coercion.ensures
    ∙ ap₂ (λ (l : List ℕ) (x : CoercionId). l
    ++ coercion_text (type_text c.args.types.now) (label_text c.args.labels.now) (tree_of c.args.table.now.nodes x.0))
    (c.in_ok-extend-2.ensures.ok ∙ ap (λ (l : List ℕ). c.loop-j.text ++ l) c.separator.ensures) c.index.ensures)
    ∙ left_more (type_text c.args.types.now) (label_text c.args.labels.now) c.args.table.now.nodes c.args.kind
    c.in_ok-parts.parts.items c.loop-j.j c.index.result.now (nat_eq (c.loop-j.j + 1) c.len-width.result) c.loop-j.text
    whole inside (ap (nat_eq (c.loop-j.j + 1)) long) c.loop-j.invariant

pub write_middle-returns : goal.write_middle-returns
write_middle-returns t c =
    let node : node_of c.node.result.now ≡ MiddleNode c.args.kind c.requires.middle.0 =
    same_some _ _ (sym c.node.ensures ∙ c.requires.middle.1) in
    let places : coercion_places c.in_ok-parts.parts.items ≡ c.requires.middle.0 =
    c.in_ok-parts.ensures ∙ ap node_parts node in
    let past = c.loop-j-test.false in
    let most = c.loop-j.auto.j-end in
    let width = c.len-width.ensures in
    let end : length c.in_ok-parts.parts.items ≡ c.loop-j.j = omega (arith, past, most, width) in
    in_words c.extend-2.result c.extend-2.new.self (c.loop-j.text ++ codes ")") _
    (middle_written (type_text c.args.types.now) (label_text c.args.labels.now) c.args.table.now.nodes
    c.len.ensures.nodes.ordered.before c.args.c.0 c.args.text.now c.args.kind c.requires.middle.0 c.loop-j.text
    c.requires.middle.1
    (ap (λ (l : List ℕ). c.loop-j.text ++ l)
    (sym (left_none (type_text c.args.types.now) (label_text c.args.labels.now) c.args.table.now.nodes c.args.kind
    c.in_ok-parts.parts.items c.loop-j.j end))
    ∙ c.loop-j.invariant
    ∙ ap (λ xs. (c.args.text.now ++ kind_text c.args.kind)
    ++ parts_text (type_text c.args.types.now) (label_text c.args.labels.now) c.args.kind
    (trees (tree_of c.args.table.now.nodes) xs)) places)) c.extend-2.ensures.ok
