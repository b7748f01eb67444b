use Rattle.std.proofs.Common.{◌≡◌, take}
use Rattle.blame_audit.specs.Texts.{label_lines}
use Rattle.blame_audit.specs.Views.{labels_of}
use Rattle.blame_audit.proofs.texts.audit_text.Given as goal

abbrev pub invariant-loop-label : goal.invariant-loop-label
invariant-loop-label l = l.text ≡ label_lines l.elab.labels (labels_of (take l.label-index l.label-items))
