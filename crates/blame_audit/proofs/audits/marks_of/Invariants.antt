use Rattle.std.proofs.Common.{◌≡◌, true, take, replicate}
use Rattle.insert_steps.specs.Views.{entries_of}
use Rattle.blame_audit.specs.Known.{AreUp}
use Rattle.blame_audit.specs.Marks.{marked}
use Rattle.blame_audit.proofs.audits.marks_of.Given as goal

abbrev pub invariant-loop-entry : goal.invariant-loop-entry
invariant-loop-entry l = record {
  known : AreUp l.types l.known;
  marks : l.marks.items ≡ marked l.types (entries_of (take l.entry-index l.casts)) (replicate l.labels true);
}
