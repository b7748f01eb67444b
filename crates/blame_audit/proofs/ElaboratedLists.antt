-- What the elaboration's list of casts says of its program, and of its safe labels.
use Rattle.std.proofs.Common.{◌≡◌, ◌↔◌, ℕ, ◌<◌, length, refl, subst}
use Rattle.std.specs.Prelude.{Contains}
use Rattle.grift_base.specs.Tables.{HasNoRepeats}
use Rattle.grift_base.specs.Types.{TypeRows}
use Rattle.type_graph.specs.Trees.{AreFinite}
use Rattle.core_calc.specs.Views.{term_of}
use Rattle.surface_trees.specs.Trees.{Expr}
use Rattle.cast_insert.specs.declared.insertion.Elab.{Elab}
use Rattle.cast_rules.specs.Elaboration.{elaborate_program}
use Rattle.cast_rules.specs.Listed.{IsListed}
use Rattle.cast_rules.specs.Making.{Entry, CastFrom, PartOf, Made, Makes, Refuses, Typed}
use Rattle.cast_rules.specs.Claims.{EntryFits}
use Rattle.cast_insert.specs.Outcomes.{Outcome, Elaborates, IsRefused, outcome_of}
use Rattle.cast_rules.specs.Programs.{IsSource}
use Rattle.insert_steps.specs.Views.{entries_of}
use Rattle.cast_rules.proofs.Public.{entries_elaborated, elaborated_programs_list_their_casts}
use Rattle.blame_audit.specs.Claims.{IsElaborated, NeverBlames, CastsStayUp, TellsNoSafeBlame, program_over}
use Rattle.blame_audit.specs.Claims.{safe_labels_in}
use Rattle.blame_audit.specs.Marks.{NamesKnown, AllNameKnown}
use Rattle.blame_audit.specs.SafeLabels.{IsSafe}
use Rattle.blame_audit.proofs.Marks.{safe_labels_are_exact}
use Rattle.blame_audit.proofs.NoVerdicts.{no_verdict_blames_a_safe_label}
use Rattle.blame_audit.proofs.RunsGoUp.{safe_labels_are_never_blamed, safe_labels_stay_up}

-- an entry that fits names a label and types that are there
names_known : (labels types place : ℕ) (entry : Entry) → EntryFits labels types place entry →
    NamesKnown labels types entry
names_known labels types place (CastFrom label from to inside) fits = (fits.0, fits.1, fits.2)
names_known labels types place (PartOf label k) fits = fits

-- what is known of an outcome that elaborates
abbrev AreKnown : Outcome → Type 0
AreKnown (Elaborates term type types labels casts) =
    IsListed casts term × AllNameKnown (length labels) (length types) casts
AreKnown (IsRefused kind place) = Unit {0}

outcome_known : (source : Expr) → IsSource source → AreKnown (outcome_of (elaborate_program source))
outcome_known source was_read = by_answer (elaborate_program source) refl
  where
    by_answer : (made : Made Typed) → elaborate_program source ≡ made → AreKnown (outcome_of made)
    by_answer (Makes e after) is = (
      elaborated_programs_list_their_casts source e after is,
      λ place entry at. names_known (length after.labels) (length after.types) place entry
          (entries_elaborated source e after was_read is place entry at),
    )
    by_answer (Refuses kind place last) is = tt

module _ (types : TypeRows) (elab : Elab) (is : IsElaborated types elab) where
  known : IsListed (entries_of elab.casts) (term_of elab.core)
      × AllNameKnown (length elab.labels) (length types) (entries_of elab.casts)
  known = subst AreKnown is.made (outcome_known is.source is.was_read)

  -- each entry names a label and types that are there
  pub entries_name_known : AllNameKnown (length elab.labels) (length types) (entries_of elab.casts)
  entries_name_known = known.1

  module _ (finite : AreFinite types) where
    -- what is listed is safe
    pub listed_labels_are_exact : (p : ℕ) → Contains (safe_labels_in types elab) p
        ↔ ((p < length elab.labels) × IsSafe types (entries_of elab.casts) p)
    listed_labels_are_exact p =
        safe_labels_are_exact types finite (entries_of elab.casts) (length elab.labels) entries_name_known
        (safe_labels_in types elab) refl p

    -- ... and never blamed
    pub listed_labels_are_never_blamed : (p : ℕ) → Contains (safe_labels_in types elab) p →
        NeverBlames (program_over types elab) p × CastsStayUp (program_over types elab) p
    listed_labels_are_never_blamed p listed =
        let safe = ((listed_labels_are_exact p).0 listed).1 in (
          safe_labels_are_never_blamed (program_over types elab) (entries_of elab.casts) p known.0 safe,
          safe_labels_stay_up (program_over types elab) (entries_of elab.casts) p known.0 safe,
        )

    -- ... nor told as the verdict of a run
    pub no_verdict_blames_a_listed_label : HasNoRepeats elab.labels → TellsNoSafeBlame types elab
    no_verdict_blames_a_listed_label distinct p place listed at =
        no_verdict_blames_a_safe_label (program_over types elab) (entries_of elab.casts) p place known.0
        ((listed_labels_are_exact p).0 listed).1 distinct at
