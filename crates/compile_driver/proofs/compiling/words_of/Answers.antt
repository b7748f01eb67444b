use Rattle.std.proofs.lemmas.Result.{err_from_is_err_and}
use Rattle.insert_steps.specs.Views.{entries_of}
use Rattle.surface_trees.specs.Views.{expr_of}
use Rattle.compile_driver.specs.Compiling.{program_over}
use Rattle.compile_driver.proofs.Compiled.{is_program}
use Rattle.compile_driver.proofs.compiling.words_of.Goals as goal

pub returns-clause-words : goal.returns-clause-words
returns-clause-words c =
    let source = c.in_ok-source.source in
    record {
      program = program_over source.types source.elab;
      has = is_program c.args.text.now (expr_of source.program.body) c.in_ok-source.ensures.program.reads
          (program_over source.types source.elab) source.elab.ty.0 (entries_of source.elab.casts)
          c.in_ok-source.ensures.elaborated c.in_ok-source.ensures.typed;
      stands = c.in_ok-words.ensures.stands;
    }

pub returns-in_err-words-clause-refused : goal.returns-in_err-words-clause-refused
returns-in_err-words-clause-refused c =
    let exit = err_from_is_err_and c.from_residual-in_err-words.result c.from_residual-in_err-words.ensures.1 in
    rw (exit.1, exit.2) tt
