-- What a text comes to: the elaboration of the program that it reads as, or its first refusal.
use Rattle.std.specs.Prelude.{◌≡◌, ◌⊎◌, ℕ, List}
use Rattle.grift_base.specs.declared.places.Pos.{Pos}
use Rattle.grift_base.specs.declared.refusals.Refusal.{Refusal}
use Rattle.grift_base.specs.declared.refusals.RefusalKind.{RefusalKind}
use Rattle.grift_base.specs.declared.refusals.FrontFault.{FrontFault}
use Rattle.grift_base.specs.declared.refusals.FrontFault.TheVariants.{Refused, OutOfMemory}
use Rattle.sexpr_reader.specs.Datum.{Datums}
use Rattle.sexpr_reader.specs.Grammar.{Reads}
use Rattle.sexpr_reader.specs.Refused.{IsRefused as HasRefusedTokens}
use Rattle.form_table.specs.Marked.{all_marked, how_many}
use Rattle.surface_trees.specs.Trees.{Expr}
use Rattle.form_table.specs.Walking.{Refuses}
use Rattle.form_table.specs.TopWalk.{walk_program}
use Rattle.form_table.specs.Programs.{AreExpr, AreNoProgram}
use Rattle.cast_rules.specs.Elaboration.{elaborate_program}
use Rattle.cast_insert.specs.Outcomes.{Outcome, Elaborates, IsRefused, outcome_of}
use Rattle.cast_rules.specs.Programs.{IsSource}

-- the text reads as the forms of a program, and this is its expression
pub record ReadsAs (text : List ℕ) (program : Expr) : Type 0 where
  pub datums : Datums
  pub reads : Reads text datums
  pub forms : AreExpr (all_marked datums) program

-- the text reads as so many forms of a program, and this is its expression
pub record IsProgramOf (text : List ℕ) (program : Expr) (forms : ℕ) : Type 0 where
  pub reads : ReadsAs text program
  pub count : forms ≡ how_many (all_marked reads.datums)

-- the program that the text reads as is elaborated, or refused, so
pub record ElaboratesTo (text : List ℕ) (outcome : Outcome) : Type 0 where
  pub program : Expr
  pub reads : ReadsAs text program
  pub outcome_is : outcome_of (elaborate_program program) ≡ outcome

-- the s-expressions that the text reads as are no program, and this is the first refusal on the way through them
pub record HasRefusedForms (text : List ℕ) (r : Refusal) : Type 0 where
  pub datums : Datums
  pub reads : Reads text datums
  pub none : AreNoProgram (all_marked datums)
  pub first : walk_program (all_marked datums) ≡ Refuses r.kind r.pos

abbrev pub refusal_at : RefusalKind → Pos → Refusal
refusal_at kind place = record { kind = kind; pos = place }

-- the outcome of a text: its program elaborated, or a refusal of its tokens, else of its forms, else of its elaboration
abbrev pub HasOutcome : List ℕ → Outcome → Type 0
HasOutcome text (Elaborates term type types labels casts) =
    ElaboratesTo text (Elaborates term type types labels casts)
HasOutcome text (IsRefused kind place) =
    HasRefusedTokens text (refusal_at kind place)
    ⊎ (HasRefusedForms text (refusal_at kind place) ⊎ ElaboratesTo text (IsRefused kind place))

-- a refusal is that of the text; memory may run out at any text
abbrev pub IsFault : List ℕ → FrontFault → Type 0
IsFault text (Refused r) = HasOutcome text (IsRefused r.kind r.pos)
IsFault text OutOfMemory = Unit {0}

-- ---- laws of all texts

-- each text has an outcome
abbrev pub EachHasOutcome : Type 0
EachHasOutcome = (text : List ℕ) → (outcome : Outcome) × HasOutcome text outcome

-- and no more than one
abbrev pub OutcomesAreOne : Type 0
OutcomesAreOne =
    (text : List ℕ) (first second : Outcome) → HasOutcome text first → HasOutcome text second → first ≡ second

-- the program that a text reads as can be elaborated
abbrev pub ProgramsAreSources : Type 0
ProgramsAreSources =
    (text : List ℕ) (datums : Datums) (program : Expr) → Reads text datums → AreExpr (all_marked datums) program →
    IsSource program
