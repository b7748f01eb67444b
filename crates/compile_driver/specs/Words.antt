-- What a program over words is to its source.
use Rattle.std.specs.Prelude.{◌≡◌, ℕ, ◌+◌, ◌^◌, ◌≤◌, true, List}
use Rattle.rv_machine.specs.Image.{statics_len, code_len}
use Rattle.core_calc.specs.Calculus.{Program}
use Rattle.low_ir.specs.Closed.{is_closed}
use Rattle.low_ir.specs.Views.{procs_of}
use Rattle.low_ir.specs.declared.programs.LowProgram.{LowProgram}
use Rattle.reg_assign.specs.Images.{IsImageOfWords}
use Rattle.compile_driver.specs.Bounds.{KeepsAccount}
use Rattle.compile_driver.specs.Compiling.{FollowsProgram, HasProgram, tallest_in}
use Rattle.compile_driver.specs.Space.{KeepsSpace}

-- Words that stand for a program of the calculus: they are closed, and each image of them with the program's labels,
-- whose statics and code have at most 2^33 bytes, follows the program, keeps its storage as it has to be, and keeps
-- within the program's account.
pub record StandsFor (low : LowProgram) (program : Program) : Type 0 where
  pub closed : is_closed (procs_of low.procs) low.entry ≡ true
  pub images : (image : List ℕ)
      → IsImageOfWords image (procs_of low.procs) low.entry low.statics.words program.labels
      → statics_len image + code_len image ≤ 2 ^ 33
      → FollowsProgram image program × KeepsSpace image program.types (tallest_in program) × KeepsAccount image program

-- they stand for the program that a text is
pub record AreWordsOf (text : List ℕ) (low : LowProgram) : Type 0 where
  pub program : Program
  pub has : HasProgram text program
  pub stands : StandsFor low program
