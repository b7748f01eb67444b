use Rattle.std.proofs.Common.{map, string_bytes, codes, sym}
use Rattle.command_words.specs.ReadCommands.{name_bytes}
use Rattle.command_words.proofs.ReadingOptions.{at_end, some_texts}
use Rattle.command_words.proofs.ReadingCommands.{is_exec, no_input, no_limits, nothing_fits, exec_may_have_options}
use Rattle.command_words.proofs.ReadingCommands.{run_is_not_exec}
use Rattle.command_words.proofs.commands.exec_of.Goals as goal

pub returns-in_err-limits : goal.returns-in_err-limits
returns-in_err-limits c words e = rw c.from_residual.ensures (
    no_limits words (map string_bytes c.args.options.now) (codes "exec") c.args.file.now e exec_may_have_options
    c.in_err-limits.ensures)

pub returns-in_err-input : goal.returns-in_err-input
returns-in_err-input c words e = rw c.from_residual-in_err-input.ensures (
    no_input words (map string_bytes c.args.options.now) _ (codes "exec") c.args.file.now c.in_ok-limits.limits e
    exec_may_have_options c.in_ok-limits.ensures c.in_err-input.ensures)

pub returns-then-not-is_empty : goal.returns-then-not-is_empty
returns-then-not-is_empty c words e =
    nothing_fits words (map string_bytes c.args.options.now) _ _ (codes "exec") c.args.file.now c.in_ok-limits.limits
    (name_bytes c.in_ok-input.input) e exec_may_have_options c.in_ok-limits.ensures c.in_ok-input.ensures
    (λ exec image. absurd (run_is_not_exec (sym exec)))
    (λ exec. some_texts string_bytes c.in_ok-input.rest.now c.if-not-is_empty.ensures)

pub returns : goal.returns
returns c words e =
    is_exec words (map string_bytes c.args.options.now) _ c.args.file.now c.in_ok-limits.limits
    (name_bytes c.in_ok-input.input) e c.requires c.in_ok-limits.ensures
    (at_end string_bytes (codes "--input") _ (name_bytes c.in_ok-input.input) c.in_ok-input.rest.now
    c.if-not-is_empty.ensures c.in_ok-input.ensures)
