use Rattle.std.proofs.Common.{◌≡◌, ℕ, List, ◌++◌, Some, None, get_or, sym, ap, ◌∙◌}
use Rattle.std.specs.Prelude.{slice_get, option_map}
use Rattle.std.proofs.lemmas.Option.{slice_get-map, slice_get-get_or}
use Rattle.insert_steps.specs.Views.{entries_of, entry_of}
use Rattle.insert_steps.specs.declared.casts.CastEntry.{CastEntry}
use Rattle.insert_steps.specs.declared.casts.CastEntry.TheVariants.{Cast}
use Rattle.listing.specs.CastLines.{entry_line}
use Rattle.listing.proofs.CastLemmas.{one_entry_more}
use Rattle.listing.proofs.casts.casts_text.Goals as goal

-- stands for an element where there is none
abbrev nothing : CastEntry
nothing = Cast (record { 0 = 0 }) (record { 0 = 0 }) (record { 0 = 0 }) None

pub write_entry-requires-clause-entry : goal.write_entry-requires-clause-entry
write_entry-requires-clause-entry c =
    let casts = c.as_slice-entry-items.result.now in
    let k : ℕ = c.loop-entry.entry-index in
    let here : slice_get casts k ≡ Some (get_or casts k nothing) =
    slice_get-get_or casts k nothing c.loop-entry-test.true in (
      k,
      c.requires k (entry_of (get_or casts k nothing))
          (ap (λ (l : List CastEntry). slice_get (entries_of l) k) (sym c.as_slice-entry-items.ensures)
          ∙ slice_get-map entry_of casts k ∙ ap (option_map entry_of) here),
    )

pub loop-entry-preserved : goal.loop-entry-preserved
loop-entry-preserved c =
    let casts = c.as_slice-entry-items.result.now in
    let entries = entries_of c.args.elab.now.casts in
    record {
      text = c.in_ok-write_entry.ensures.line
          ∙ ap (λ (l : List ℕ). l ++ entry_line c.args.types.now c.args.elab.now.labels entries
          (entry_of (get_or casts c.loop-entry.entry-index nothing))) c.loop-entry.invariant.text
          ∙ sym (one_entry_more c.args.types.now c.args.elab.now.labels entries casts c.loop-entry.entry-index nothing
          c.loop-entry-test.true);
      fits = c.in_ok-write_entry.ensures.fits;
    }
