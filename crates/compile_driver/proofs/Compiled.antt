-- What is said of a source that is elaborated: it is a program.
use Rattle.std.proofs.Common.{◌≡◌, ℕ, List, length}
use Rattle.core_calc.specs.Calculus.{Program}
use Rattle.core_calc.specs.Typing.{ProgramTermHasType}
use Rattle.surface_trees.specs.Trees.{Expr}
use Rattle.cast_rules.specs.Making.{Entry}
use Rattle.cast_rules.specs.Elaboration.{elaborate_program}
use Rattle.cast_insert.specs.Outcomes.{Elaborates, outcome_of}
use Rattle.front_end.specs.Texts.{ReadsAs}
use Rattle.compile_driver.specs.Compiling.{HasProgram}

module _ (text : List ℕ) (source : Expr) (reads : ReadsAs text source) (program : Program) (type : ℕ)
    (casts : List Entry)
    (is : outcome_of (elaborate_program source)
    ≡ Elaborates program.term type program.types program.labels casts) where
  pub is_program : ProgramTermHasType program.types (length program.labels) program.term type
      → HasProgram text program
  is_program typed = record {
    type = type;
    casts = casts;
    elaborated = record { program = source; reads = reads; outcome_is = is };
    typed = typed;
  }
