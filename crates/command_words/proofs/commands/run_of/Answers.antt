use Rattle.std.proofs.Common.{[], map, string_bytes, codes}
use Rattle.command_words.specs.ReadCommands.{name_bytes}
use Rattle.command_words.proofs.ReadingOptions.{at_end, some_texts, whole_name}
use Rattle.command_words.proofs.ReadingCommands.{is_run, more_than_image, no_input, no_limits, no_tail, nothing_fits}
use Rattle.command_words.proofs.ReadingCommands.{run_is_not_exec, run_may_have_options}
use Rattle.command_words.proofs.commands.run_of.Goals as goal

pub returns-in_err-limits : goal.returns-in_err-limits
returns-in_err-limits c words e = rw c.from_residual.ensures (
    no_limits words (map string_bytes c.args.options.now) (codes "run") c.args.file.now e run_may_have_options
    c.in_err-limits.ensures)

pub returns-in_err-input : goal.returns-in_err-input
returns-in_err-input c words e = rw c.from_residual-in_err-input.ensures (
    no_input words (map string_bytes c.args.options.now) _ (codes "run") c.args.file.now c.in_ok-limits.limits e
    run_may_have_options c.in_ok-limits.ensures c.in_err-input.ensures)

pub returns-in_err-image : goal.returns-in_err-image
returns-in_err-image c words e = rw c.from_residual-in_err-image.ensures (
    nothing_fits words (map string_bytes c.args.options.now) _ _ (codes "run") c.args.file.now c.in_ok-limits.limits
    (name_bytes c.in_ok-input.input) e run_may_have_options c.in_ok-limits.ensures c.in_ok-input.ensures
    (λ run. no_tail _ _ _ c.flag_after-space.ensures
    (λ image m. c.in_err-image.ensures image [] (whole_name (codes "--image") _ image m)))
    (λ run empty. run_is_not_exec run))

pub returns-then-not-is_empty : goal.returns-then-not-is_empty
returns-then-not-is_empty c words e =
    nothing_fits words (map string_bytes c.args.options.now) _ _ (codes "run") c.args.file.now c.in_ok-limits.limits
    (name_bytes c.in_ok-input.input) e run_may_have_options c.in_ok-limits.ensures c.in_ok-input.ensures
    (λ run. no_tail _ _ _ c.flag_after-space.ensures (λ image. more_than_image _ _ _ image c.in_ok-image.ensures
    (some_texts string_bytes c.in_ok-image.rest.now c.if-not-is_empty.ensures)))
    (λ run empty. run_is_not_exec run)

pub returns : goal.returns
returns c words e =
    is_run words (map string_bytes c.args.options.now) _ _ _ c.args.file.now c.in_ok-limits.limits
    (name_bytes c.in_ok-input.input) c.flag_after-space.result.0 (name_bytes c.in_ok-image.image) e c.requires
    c.in_ok-limits.ensures c.in_ok-input.ensures c.flag_after-space.ensures
    (at_end string_bytes (codes "--image") _ (name_bytes c.in_ok-image.image) c.in_ok-image.rest.now
    c.if-not-is_empty.ensures c.in_ok-image.ensures)
