use Rattle.std.proofs.Common.{◌≡◌}
use Rattle.insert_steps.specs.Views.{entries_of}
use Rattle.blame_audit.specs.SafeLabels.{safe_labels}
use Rattle.blame_audit.specs.Views.{labels_of}
use Rattle.blame_audit.proofs.audits.audit.Given as goal

abbrev pub invariant-loop-label : goal.invariant-loop-label
invariant-loop-label l = labels_of l.safe ≡ safe_labels l.types (entries_of l.elab.casts) l.label
