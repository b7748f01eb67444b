use Rattle.std.proofs.Common.{Global, ℕ, List, Option, ap, subst}
use Rattle.std.specs.Prelude.{Err}
use Rattle.std.specs.Borrow.{Bor}
use Rattle.std.proofs.lemmas.Result.{err_from_is_err_and}
use Rattle.grift_base.specs.Shelf.{Loads}
use Rattle.grift_cli.specs.Calls.{input_file}
use Rattle.command_words.specs.ReadCommands.{name_bytes}
use Rattle.grift_cli.proofs.Loading.{file_fails, input_fails}
use Rattle.grift_cli.proofs.loads.load_files.Goals as goal

pub returns-in_err-load : goal.returns-in_err-load
returns-in_err-load g c =
    let exit = err_from_is_err_and c.from_residual.result c.from_residual.ensures.1 in
    rw (exit.1, exit.2) (file_fails _ (record { name = c.args.file.now; most = c.args.most })
    (input_file (name_bytes c.args.input)) c.in_err-load.field-0.0 c.in_err-load.ensures.loads
    c.in_err-load.ensures.names c.in_err-load.ensures.count)

pub returns-in_err-load-in-Some : goal.returns-in_err-load-in-Some
returns-in_err-load-in-Some g c =
    let fault = c.in_err-load-in-Some.field-0.0 in
    let name = c.in-Some.name.now in
    let exit = err_from_is_err_and c.from_residual-in_err-load-in-Some.result
    c.from_residual-in_err-load-in-Some.ensures.1 in
    rw (exit.1, exit.2) (input_fails _ (record { name = c.args.file.now; most = c.args.most })
    c.in_ok-load.field-0.items
    (record { short = c.in_ok-load.ensures.loads.0; held = c.in_ok-load.ensures.loads.1 }) _ _
    c.in_ok-load.ensures.names c.in_ok-load.ensures.count (input_file (name_bytes c.args.input))
    (record { name = name; most = 1048576 }) fault
    (ap (λ (i : Option (Bor (List ℕ))). input_file (name_bytes i)) c.in-Some.is)
    (subst (λ told. Loads {Z = Global} told 1048576 (Err fault)) (c.in_ok-load.ensures.kept name)
    c.in_err-load-in-Some.ensures.loads)
    c.in_err-load-in-Some.ensures.names c.in_err-load-in-Some.ensures.count)
