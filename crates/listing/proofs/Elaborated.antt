-- The entries of an elaborated program name labels and types that there are.
use Rattle.std.proofs.Common.{◌≡◌, ℕ, List, refl, subst}
use Rattle.grift_base.specs.Types.{TypeRows}
use Rattle.grift_base.specs.declared.places.Pos.{Pos}
use Rattle.core_calc.specs.Terms.{Term}
use Rattle.surface_trees.specs.Trees.{Expr}
use Rattle.cast_rules.specs.Elaboration.{elaborate_program}
use Rattle.cast_rules.specs.Making.{Entry, Made, Makes, Refuses, Typed}
use Rattle.cast_insert.specs.Outcomes.{Outcome, Elaborates, IsRefused, outcome_of}
use Rattle.cast_rules.specs.Programs.{IsSource}
use Rattle.cast_rules.proofs.Public.{entries_elaborated}
use Rattle.listing.specs.CastLines.{EntriesFit}

-- what is known of an outcome that elaborates
abbrev AreKnown : Outcome → Type 0
AreKnown (Elaborates term type types labels entries) = EntriesFit types labels entries
AreKnown (IsRefused kind place) = Unit {0}

-- what the elaboration of a program that was read makes fits `casts_text`
pub elaborated_entries_fit : (source : Expr) (term : Term) (type : ℕ) (types : TypeRows) (labels : List Pos)
    (entries : List Entry) → IsSource source
    → outcome_of (elaborate_program source) ≡ Elaborates term type types labels entries
    → EntriesFit types labels entries
elaborated_entries_fit source term type types labels entries was_read is =
    subst AreKnown is (by_answer (elaborate_program source) refl)
  where
    by_answer : (made : Made Typed) → elaborate_program source ≡ made → AreKnown (outcome_of made)
    by_answer (Makes e after) made = entries_elaborated source e after was_read made
    by_answer (Refuses kind place last) made = tt
