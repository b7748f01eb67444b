-- What is claimed of safe labels.
use Rattle.std.specs.Prelude.{◌≡◌, ◌≢◌, ℕ, List, length, Some, Contains, slice_get}
use Rattle.run_laws.specs.Runs.{Verdict as EndsWith}
use Rattle.grift_base.specs.Types.{TypeRows}
use Rattle.grift_base.specs.declared.places.Pos.{Pos}
use Rattle.grift_base.specs.declared.verdicts.Verdict.TheVariants.{Blame}
use Rattle.core_calc.specs.Calculus.{Blamed, Program, calc}
use Rattle.core_calc.specs.Views.{term_of}
use Rattle.surface_trees.specs.Trees.{Expr}
use Rattle.cast_insert.specs.declared.insertion.Elab.{Elab}
use Rattle.cast_rules.specs.Elaboration.{elaborate_program}
use Rattle.cast_insert.specs.Outcomes.{Elaborates, outcome_of}
use Rattle.cast_rules.specs.Programs.{IsSource}
use Rattle.insert_steps.specs.Views.{entries_of}
use Rattle.blame_audit.specs.CastsGoUp.{StateGoesUp}
use Rattle.blame_audit.specs.SafeLabels.{safe_labels}

-- ---- programs

-- these are what the elaboration of a program that was read makes, with this table of types
pub record IsElaborated (types : TypeRows) (elab : Elab) : Type 0 where
  pub source : Expr
  pub was_read : IsSource source
  pub made : outcome_of (elaborate_program source)
      ≡ Elaborates (term_of elab.core) elab.ty.0 types elab.labels (entries_of elab.casts)

-- the elaborated program over its types
abbrev pub program_over : TypeRows → Elab → Program
program_over types elab = record { term = term_of elab.core; types = types; labels = elab.labels }

-- its safe labels, in order
abbrev pub safe_labels_in : TypeRows → Elab → List ℕ
safe_labels_in types elab = safe_labels types (entries_of elab.casts) (length elab.labels)

-- ---- runs

-- no state of the program's run, on whatever input, has ended by a blame of this label
abbrev pub NeverBlames : Program → ℕ → Type 0
NeverBlames program p = (input : List ℕ) (n : ℕ) → (calc program input n).shown.ended ≢ Some (Blamed p)

-- no run of the program, on whatever input, has the blame of this place as its verdict
abbrev pub NeverTellsBlame : Program → Pos → Type 0
NeverTellsBlame program place = (input : List ℕ) (n : ℕ) → (calc program input n).ending ≢ Some (EndsWith (Blame place))

-- every cast of this label in every state of the run goes up
abbrev pub CastsStayUp : Program → ℕ → Type 0
CastsStayUp program p = (input : List ℕ) (n : ℕ) → StateGoesUp program.types p (calc program input n).shown

-- no run of an elaborated program has the blame of a safe label's place as its verdict
abbrev pub TellsNoSafeBlame : TypeRows → Elab → Type 0
TellsNoSafeBlame types elab =
    (p : ℕ) (place : Pos) → Contains (safe_labels_in types elab) p → slice_get elab.labels p ≡ Some place
    → NeverTellsBlame (program_over types elab) place
