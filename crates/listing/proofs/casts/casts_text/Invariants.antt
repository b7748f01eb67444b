use Rattle.std.proofs.Common.{◌≡◌, take}
use Rattle.insert_steps.specs.Views.{entries_of}
use Rattle.listing.specs.CastLines.{entry_lines}
use Rattle.coercion_norm.specs.CoercionTables.{FitsTypes}
use Rattle.listing.proofs.casts.casts_text.Given as goal

abbrev pub invariant-loop-entry : goal.invariant-loop-entry
invariant-loop-entry l = record {
  text : l.listing.text ≡ entry_lines l.types l.elab.labels (entries_of l.elab.casts)
      (entries_of (take l.entry-index l.entry-items));
  fits : FitsTypes l.types l.listing.table;
}
