use Rattle.std.proofs.Common.{ℕ, ◌++◌, get_or, slice_get, sym, ap, ◌∙◌}
use Rattle.grift_base.specs.declared.places.LabelId.{LabelId}
use Rattle.blame_audit.specs.Texts.{label_line}
use Rattle.blame_audit.proofs.Lines.{lines_more}
use Rattle.blame_audit.proofs.texts.audit_text.Goals as goal

-- stands for an element where there is none
abbrev nowhere : LabelId
nowhere = record { 0 = 0 }

pub loop-label-preserved : goal.loop-label-preserved
loop-label-preserved c =
    let safe = c.as_slice-label-items.result.now in
    let here : ℕ = (get_or safe c.loop-label.label-index nowhere).0 in
    c.in_ok-write_line.ensures
    ∙ ap (λ line. c.loop-label.text ++ label_line line) c.get.ensures
    ∙ ap (λ (n : ℕ). c.loop-label.text ++ label_line (slice_get c.args.elab.now.labels n)) c.from.ensures
    ∙ ap (λ lines. lines ++ label_line (slice_get c.args.elab.now.labels here)) c.loop-label.invariant
    ∙ sym (lines_more c.args.elab.now.labels safe c.loop-label.label-index nowhere c.loop-label-test.true)
