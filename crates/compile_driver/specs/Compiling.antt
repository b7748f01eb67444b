-- What an image is to its source.
use Rattle.std.specs.Prelude.{◌≡◌, ℕ, List, [], length}
use Rattle.grift_base.specs.Types.{TypeRows}
use Rattle.run_laws.specs.Runs.{Follows}
use Rattle.rv_machine.specs.Start.{IsRegionSize, IsStackSize}
use Rattle.rv_machine.specs.Mach.{mach}
use Rattle.core_calc.specs.Calculus.{Program, calc}
use Rattle.core_calc.specs.Typing.{ProgramTermHasType}
use Rattle.core_calc.specs.Views.{term_of}
use Rattle.surface_trees.specs.Trees.{Expr}
use Rattle.cast_insert.specs.declared.insertion.Elab.{Elab}
use Rattle.cast_rules.specs.Making.{Entry}
use Rattle.cast_insert.specs.Outcomes.{Elaborates}
use Rattle.insert_steps.specs.Views.{entries_of}
use Rattle.coer_core.specs.Conversion.{casts_in, with_casts}
use Rattle.coer_core.specs.Programs.{tallest_of}
use Rattle.front_end.specs.Texts.{ElaboratesTo, HasOutcome, IsProgramOf}
use Rattle.compile_driver.specs.declared.compiling.Compiled.{Compiled}

-- the program of the calculus that the text is: it elaborates to this term, over these types and labels, and the term
-- is
-- a program term
pub record HasProgram (text : List ℕ) (program : Program) : Type 0 where
  pub type : ℕ
  pub casts : List Entry
  pub elaborated : ElaboratesTo text (Elaborates program.term type program.types program.labels casts)
  pub typed : ProgramTermHasType program.types (length program.labels) program.term type

-- for every region, stack and input, the run of the image follows that of the program
abbrev pub FollowsProgram : List ℕ → Program → Type 0
FollowsProgram image program =
    (region stack : ℕ) (input : List ℕ) → IsRegionSize region → IsStackSize stack
    → Follows (mach image region stack input) (calc program input)

-- an elaborated program over its types
abbrev pub program_over : TypeRows → Elab → Program
program_over types elab = record { term = term_of elab.core; types = types; labels = elab.labels }

-- the program that was compiled
abbrev pub program_of : Compiled → Program
program_of compiled = program_over compiled.types compiled.elab

-- the greatest height of the coercions of the casts of a program, each cast once
abbrev pub tallest_in : Program → ℕ
tallest_in program = tallest_of program.types (with_casts [] (casts_in program.term))

-- what is told of a source beside its image: its elaboration, how many forms it has, and how high its coercions are
pub record IsTold (text : List ℕ) (compiled : Compiled) : Type 0 where
  pub elaborated : HasOutcome text (Elaborates (term_of compiled.elab.core) compiled.elab.ty.0 compiled.types
      compiled.elab.labels (entries_of compiled.elab.casts))
  pub source : Expr
  pub forms : IsProgramOf text source compiled.forms
  pub tallest : compiled.tallest ≡ tallest_in (program_of compiled)
