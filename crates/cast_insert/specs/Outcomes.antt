-- What a call that elaborates a program answers.
use Rattle.std.specs.Prelude.{◌≡◌, ℕ, List, [], Result, Ok, Err}
use Rattle.grift_base.specs.Types.{TypeRows}
use Rattle.grift_base.specs.declared.places.Pos.{Pos}
use Rattle.grift_base.specs.declared.refusals.RefusalKind.{RefusalKind}
use Rattle.grift_base.specs.declared.refusals.FrontFault.{FrontFault}
use Rattle.grift_base.specs.declared.refusals.FrontFault.TheVariants.{Refused, OutOfMemory}
use Rattle.core_calc.specs.Terms.{Term}
use Rattle.core_calc.specs.Views.{term_of}
use Rattle.cast_insert.specs.declared.insertion.Elab.{Elab}
use Rattle.cast_rules.specs.Making.{Entry, Made, Makes, Refuses, Typed}
use Rattle.insert_steps.specs.Views.{entries_of}

-- a program: its term, its type, and the tables that it made; or its first refusal
pub data Outcome : Type 0 where
  Elaborates : Term → ℕ → TypeRows → List Pos → List Entry → Outcome
  IsRefused : RefusalKind → Pos → Outcome

abbrev pub outcome_of : Made Typed → Outcome
outcome_of (Makes e work) = Elaborates e.term e.type work.types work.labels work.casts
outcome_of (Refuses kind place last) = IsRefused kind place

-- the answer is the defined outcome, with this table of types, unless memory runs out
abbrev pub Inserts : Result Elab FrontFault → TypeRows → Made Typed → Type 0
Inserts (Ok elab) types defined =
    outcome_of defined ≡ Elaborates (term_of elab.core) elab.ty.0 types elab.labels (entries_of elab.casts)
Inserts (Err (Refused refusal)) types defined = outcome_of defined ≡ IsRefused refusal.kind refusal.pos
Inserts (Err OutOfMemory) types defined = Unit {0}

-- the rows of types that were formed until the end, or until the refusal
abbrev pub formed_rows : Made Typed → TypeRows
formed_rows (Makes e work) = work.types
formed_rows (Refuses kind place last) = last.types

-- the rows of an empty table after a fault: those that were formed until the refusal, and none where memory runs out
abbrev pub HasRowsAfter : FrontFault → TypeRows → Made Typed → Type 0
HasRowsAfter (Refused refusal) types defined = types ≡ formed_rows defined
HasRowsAfter OutOfMemory types defined = types ≡ []
