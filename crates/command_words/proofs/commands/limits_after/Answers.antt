use Rattle.std.proofs.Common.{map, string_bytes}
use Rattle.command_words.proofs.ReadingLimits.{no_stack, no_steps}
use Rattle.command_words.proofs.commands.limits_after.Goals as goal

pub returns-in_err-region : goal.returns-in_err-region
returns-in_err-region c =
    rw c.from_residual.ensures (λ limits rest front. c.in_err-region.ensures limits.region front.after_region
    front.region)

pub returns-in_err-stack : goal.returns-in_err-stack
returns-in_err-stack c = rw c.from_residual-in_err-stack.ensures (λ limits rest.
    no_stack (map string_bytes c.args.words.now) _ rest c.in_ok-region.region c.in_ok-region.ensures
    c.in_err-stack.ensures limits)

pub returns-in_err-steps : goal.returns-in_err-steps
returns-in_err-steps c = rw c.from_residual-in_err-steps.ensures (λ limits rest.
    no_steps (map string_bytes c.args.words.now) _ _ rest c.in_ok-region.region c.in_ok-stack.stack
    c.in_ok-region.ensures c.in_ok-stack.ensures c.in_err-steps.ensures limits)
