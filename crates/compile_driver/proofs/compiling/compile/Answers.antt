use Rattle.std.proofs.Common.{rules}
use Rattle.std.proofs.lemmas.Result.{err_from_is_err_and}
use Rattle.insert_steps.specs.Views.{entries_of}
use Rattle.surface_trees.specs.Views.{expr_of}
use Rattle.compile_driver.specs.Compiling.{program_over}
use Rattle.compile_driver.proofs.Compiled.{is_program}
use Rattle.compile_driver.proofs.compiling.compile.Goals as goal

pub returns-clause-source : goal.returns-clause-source
returns-clause-source c =
    let done = c.in_ok-done.done in
    is_program c.args.text.now (expr_of done.program.body) c.in_ok-done.ensures.program.reads
    (program_over done.types done.elab) done.elab.ty.0 (entries_of done.elab.casts) c.in_ok-done.ensures.elaborated
    c.in_ok-done.ensures.typed

pub returns-in_err-made-clause-refused : goal.returns-in_err-made-clause-refused
returns-in_err-made-clause-refused c =
    let exit = err_from_is_err_and c.from_residual-in_err-made.result c.from_residual-in_err-made.ensures.1 in
    rw (exit.1, exit.2) tt

-- (an edit turns this function: with the answers here its refusal takes one run of the prover, and not two)

pub returns-clause-told : goal.returns-clause-told
returns-clause-told c = search rules

pub returns-clause-follows : goal.returns-clause-follows
returns-clause-follows c = c.in_ok-made.ensures.follows

pub returns-clause-space : goal.returns-clause-space
returns-clause-space c = c.in_ok-made.ensures.space

pub returns-clause-account : goal.returns-clause-account
returns-clause-account c = c.in_ok-made.ensures.account
