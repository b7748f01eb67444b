-- No verdict of a run is the blame of a safe label.
use Rattle.std.proofs.Common.{◌≡◌, ◌≢◌, ℕ, zero, suc, ◌<◌, List, [], ◌∷◌, length, Option, Some, None, sym, ap, ◌∙◌}
use Rattle.std.proofs.Common.{arith, slice_get}
use Rattle.std.specs.Prelude.{option_map}
use Rattle.run_laws.specs.Runs.{Ending, Verdict as EndsWith, Wrong}
use Rattle.grift_base.specs.Tables.{HasNoRepeats}
use Rattle.grift_base.specs.declared.places.Pos.{Pos}
use Rattle.grift_base.specs.declared.verdicts.Trap.{Trap}
use Rattle.grift_base.specs.declared.verdicts.Answer.{Answer}
use Rattle.grift_base.specs.declared.verdicts.Verdict.{Verdict}
use Rattle.grift_base.specs.declared.verdicts.Verdict.TheVariants.{Answer as AnswerVerdict, Blame, Trap as TrapVerdict}
use Rattle.core_calc.specs.Calculus.{CalcEnd, Answered, Blamed, Trapped, NoStep, blame_at, ending_of, Program, calc}
use Rattle.core_calc.proofs.Public.{none_is_not_some}
use Rattle.cast_rules.specs.Making.{Entry}
use Rattle.cast_rules.specs.Listed.{IsListed}
use Rattle.blame_audit.specs.SafeLabels.{IsSafe}
use Rattle.blame_audit.specs.Claims.{NeverTellsBlame}
use Rattle.blame_audit.proofs.RunsGoUp.{safe_labels_are_never_blamed}

same_place : (a b : Pos) → ◌≡◌ {A = Option (Ending Verdict)} (Some (EndsWith (Blame a))) (Some (EndsWith (Blame b))) →
    a ≡ b
same_place a b e = cc

blames_where : (found : Option Pos) (place : Pos) →
    ◌≡◌ {A = Option (Ending Verdict)} (Some (blame_at found)) (Some (EndsWith (Blame place))) → found ≡ Some place
blames_where (Some other) place e = ap Some (same_place other place e)
blames_where None place e = absurd (no place e)
  where
    no : (place : Pos) → ◌≡◌ {A = Option (Ending Verdict)} (Some Wrong) (Some (EndsWith (Blame place))) → ⊥
    no place e = cc

there_below : (labels : List Pos) (k : ℕ) (place : Pos) → slice_get labels k ≡ Some place → k < length labels
there_below [] k place e = absurd (none_is_not_some place e)
there_below (first ∷ labels) zero place e = omega arith
there_below (first ∷ labels) (suc k) place e = let below = there_below labels k place e in omega arith

module _ (labels : List Pos) (distinct : HasNoRepeats labels) (p : ℕ) (place : Pos)
    (is_there : slice_get labels p ≡ Some place) where
  other_verdict : (ended : Option CalcEnd) → ended ≢ Some (Blamed p) →
      option_map (ending_of labels) ended ≢ Some (EndsWith (Blame place))
  other_verdict None spared e = none_is_not_some (EndsWith (Blame place)) e
  other_verdict (Some (Answered shown)) spared e = no shown place e
    where
      no : (shown : Answer) (place : Pos) → ◌≡◌ {A = Option (Ending Verdict)} (Some (EndsWith (AnswerVerdict shown)))
          (Some (EndsWith (Blame place))) → ⊥
      no shown place e = cc
  other_verdict (Some (Blamed label)) spared e =
      let found = blames_where (slice_get labels label) place e in
      spared (ap (λ k. Some (Blamed k)) (distinct label p (there_below labels label place found)
      (found ∙ sym is_there)))
  other_verdict (Some (Trapped trap)) spared e = no trap place e
    where
      no : (trap : Trap) (place : Pos) → ◌≡◌ {A = Option (Ending Verdict)} (Some (EndsWith (TrapVerdict trap)))
          (Some (EndsWith (Blame place))) → ⊥
      no trap place e = cc
  other_verdict (Some NoStep) spared e = no place e
    where
      no : (place : Pos) → ◌≡◌ {A = Option (Ending Verdict)} (Some Wrong) (Some (EndsWith (Blame place))) → ⊥
      no place e = cc

pub no_verdict_blames_a_safe_label : (program : Program) (entries : List Entry) (p : ℕ) (place : Pos) →
    IsListed entries program.term → IsSafe program.types entries p → HasNoRepeats program.labels →
    slice_get program.labels p ≡ Some place → NeverTellsBlame program place
no_verdict_blames_a_safe_label program entries p place listed safe distinct is_there input n =
    other_verdict program.labels distinct p place is_there (calc program input n).shown.ended
    (safe_labels_are_never_blamed program entries p listed safe input n)
