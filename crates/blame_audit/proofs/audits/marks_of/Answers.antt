use Rattle.std.proofs.Common.{ℕ, true, length, take, replicate, sym, ap, ◌∙◌, subst, None, get_or, List, rules}
use Rattle.insert_steps.specs.declared.casts.CastEntry.{CastEntry}
use Rattle.insert_steps.specs.declared.casts.CastEntry.TheVariants.{Cast}
use Rattle.insert_steps.specs.Views.{entries_of, entry_of}
use Rattle.blame_audit.specs.SafeLabels.{spoils}
use Rattle.blame_audit.specs.Marks.{NamesKnown, spoil}
use Rattle.blame_audit.proofs.Marks.{entry_at, marks_length, marked_more}
use Rattle.blame_audit.proofs.audits.marks_of.Goals as goal

-- stands for an element where there is none
abbrev nothing : CastEntry
nothing = Cast (record { 0 = 0 }) (record { 0 = 0 }) (record { 0 = 0 }) None

pub mark-requires-clause-entry : goal.mark-requires-clause-entry
mark-requires-clause-entry c =
    let entry = get_or c.args.casts.now c.loop-entry.entry-index nothing in
    let gone : List CastEntry = take c.loop-entry.entry-index c.args.casts.now in
    subst (λ (n : ℕ). NamesKnown n (length c.args.types.now) (entry_of entry))
    (sym (marks_length c.args.types.now (entries_of gone) c.args.labels c.loop-entry.marks.items
    c.loop-entry.invariant.marks))
    (c.requires c.loop-entry.entry-index (entry_of entry) (entry_at c.args.casts.now c.loop-entry.entry-index nothing
    c.loop-entry-test.true))

pub loop-entry-preserved : goal.loop-entry-preserved
loop-entry-preserved c =
    let entry = get_or c.args.casts.now c.loop-entry.entry-index nothing in record {
      known = c.in_ok-mark.ensures.known;
      marks = c.in_ok-mark.ensures.marks
          ∙ ap (λ marks. spoil (spoils c.args.types.now (entry_of entry)) marks) c.loop-entry.invariant.marks
          ∙ sym (marked_more c.args.types.now c.args.casts.now c.loop-entry.entry-index nothing
          (replicate c.args.labels true) c.loop-entry-test.true);
    }

-- (an edit turns this function: with the answer here its refusal takes one run of the prover, and not two)
pub loop-entry-init : goal.loop-entry-init
loop-entry-init c = search rules
