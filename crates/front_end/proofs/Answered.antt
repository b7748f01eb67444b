-- What the call that elaborates a text answers.
use Rattle.std.proofs.Common.{◌≡◌, ℕ, List, inr, sym, subst}
use Rattle.std.specs.Prelude.{Result, Err, IfErr}
use Rattle.grift_base.specs.Types.{TypeRows}
use Rattle.grift_base.specs.declared.refusals.FrontFault.{FrontFault}
use Rattle.grift_base.specs.declared.refusals.FrontFault.TheVariants.{Refused, OutOfMemory}
use Rattle.sexpr_reader.specs.Datum.{Datums}
use Rattle.sexpr_reader.specs.Grammar.{Reads}
use Rattle.form_table.specs.Marked.{all_marked}
use Rattle.surface_trees.specs.Trees.{Expr}
use Rattle.form_table.specs.Programs.{AreExpr}
use Rattle.cast_rules.specs.Elaboration.{elaborate_program}
use Rattle.cast_insert.specs.Outcomes.{Outcome, outcome_of, Inserts}
use Rattle.front_end.specs.Texts.{ReadsAs, ElaboratesTo, IsFault}

pub read_as : (text : List ℕ) (datums : Datums) (program : Expr) → Reads text datums
    → AreExpr (all_marked datums) program → ReadsAs text program
read_as text datums program reads forms = record { datums = datums; reads = reads; forms = forms }

pub elaborates : (text : List ℕ) (program : Expr) (outcome : Outcome) → ReadsAs text program
    → outcome_of (elaborate_program program) ≡ outcome → ElaboratesTo text outcome
elaborates text program outcome reads is = record { program = program; reads = reads; outcome_is = is }

-- a fault of the elaboration is one of the text
is_fault : (text : List ℕ) (program : Expr) (types : TypeRows) (fault : FrontFault) → ReadsAs text program
    → Inserts (Err fault) types (elaborate_program program) → IsFault text fault
is_fault text program types (Refused refusal) reads h = inr (inr (elaborates text program _ reads h))
is_fault text program types OutOfMemory reads h = tt

pub fault_given : (text : List ℕ) (program : Expr) (types : TypeRows) {S : Type 0} (result : Result S FrontFault)
    (fault : FrontFault) → result ≡ Err fault → ReadsAs text program
    → Inserts (Err fault) types (elaborate_program program) → IfErr result (IsFault text)
fault_given text program types {S} result fault e reads h =
    subst (λ (r : Result S FrontFault). IfErr r (IsFault text)) (sym e) (is_fault text program types fault reads h)
