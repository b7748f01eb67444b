use Rattle.std.proofs.Common.{◌∷◌, ◌++◌, [], ap, sym, ◌∙◌}
use Rattle.rv_machine.specs.Image.{labels_from}
use Rattle.rv_machine.proofs.Public.{labels_none, labels_more}
use Rattle.assembler.proofs.image.Image.labels.Goals as goal

pub loop-i-init : goal.loop-i-init
loop-i-init c = c.new-labels.ensures ∙ sym (labels_none c.labels_start-start.result c.bytes-bytes.result.now)

pub loop-i-preserved : goal.loop-i-preserved
loop-i-preserved c =
    let before = labels_from c.bytes-bytes.result.now c.labels_start-start.result c.loop-i.i in
    let l = ap (λ xs. xs ++ c.label_at.result ∷ []) c.loop-i.invariant in
    let x = ap (λ label. before ++ label ∷ []) c.label_at.ensures in
    c.in_ok-push.ensures.ok ∙ l ∙ x ∙ sym (labels_more c.loop-i.i c.labels_start-start.result c.bytes-bytes.result.now)
