use Rattle.std.proofs.Common.{◌+◌, ◌*◌, Some, ap, sym, ◌∙◌, arith}
use Rattle.rv_machine.specs.Image.{code_len, statics_len, label_at, label_count}
use Rattle.rv_machine.proofs.Public.{label_past, label_within}
use Rattle.assembler.proofs.image.Image.label.Goals as goal

pub returns-then-label_count-i-clause-value : goal.returns-then-label_count-i-clause-value
returns-then-label_count-i-clause-value c =
    let bytes = c.args.self.now in
    sym (label_past (label_count bytes) (64 + statics_len bytes + code_len bytes) c.args.i bytes (omega arith))

pub returns-clause-value : goal.returns-clause-value
returns-clause-value c =
    let bytes = c.args.self.now in
    let start = 64 + statics_len bytes + code_len bytes in
    let b = ap (λ xs. label_at xs (c.labels_start.result + 8 * c.args.i)) c.bytes-bytes.ensures.value in
    let s = ap (λ at. label_at bytes (at + 8 * c.args.i)) c.labels_start.ensures.value in
    ap Some (c.label_at.ensures ∙ b ∙ s) ∙ sym (label_within (label_count bytes) start c.args.i bytes (omega arith))
