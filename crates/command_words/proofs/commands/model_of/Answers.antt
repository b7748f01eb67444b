use Rattle.std.proofs.Common.{map, string_bytes, codes}
use Rattle.command_words.specs.ReadCommands.{name_bytes}
use Rattle.command_words.proofs.ReadingOptions.{at_end, some_texts}
use Rattle.command_words.proofs.ReadingCommands.{is_model, more_than_model, no_model_input, no_steps}
use Rattle.command_words.proofs.commands.model_of.Goals as goal

pub returns-in_err-steps : goal.returns-in_err-steps
returns-in_err-steps c words e = rw c.from_residual.ensures (
    no_steps words (map string_bytes c.args.options.now) c.args.file.now e c.in_err-steps.ensures)

pub returns-in_err-input : goal.returns-in_err-input
returns-in_err-input c words e = rw c.from_residual-in_err-input.ensures (
    no_model_input words (map string_bytes c.args.options.now) _ c.args.file.now c.in_ok-steps.steps e
    c.in_ok-steps.ensures c.in_err-input.ensures)

pub returns-then-not-is_empty : goal.returns-then-not-is_empty
returns-then-not-is_empty c words e =
    more_than_model words (map string_bytes c.args.options.now) _ _ c.args.file.now c.in_ok-steps.steps
    (name_bytes c.in_ok-input.input) e c.in_ok-steps.ensures c.in_ok-input.ensures
    (some_texts string_bytes c.in_ok-input.rest.now c.if-not-is_empty.ensures)

pub returns : goal.returns
returns c words e =
    is_model words (map string_bytes c.args.options.now) _ c.args.file.now c.in_ok-steps.steps
    (name_bytes c.in_ok-input.input) e c.requires c.in_ok-steps.ensures
    (at_end string_bytes (codes "--input") _ (name_bytes c.in_ok-input.input) c.in_ok-input.rest.now
    c.if-not-is_empty.ensures c.in_ok-input.ensures)
