use Rattle.std.proofs.Common.{map, string_bytes, subst}
use Rattle.command_words.specs.Commands.{IsCommand}
use Rattle.command_words.specs.ReadCommands.{command_of, name_bytes}
use Rattle.command_words.proofs.ReadingCommands.{image_given, none_without_image}
use Rattle.command_words.proofs.commands.image_name.Goals as goal

pub returns-in_err-image : goal.returns-in_err-image
returns-in_err-image c =
    rw c.from_residual.ensures (none_without_image (map string_bytes c.args.words.now) c.in_err-image.ensures)

pub returns : goal.returns
returns c =
    let run = c.in-Run in
    image_given (map string_bytes c.args.words.now) run.file.now
    (record { region = run.region; stack = run.stack; steps = run.steps }) (name_bytes run.input) run.space run.image
    (subst (λ command. IsCommand (map string_bytes c.args.words.now) (command_of command)) run.is
    c.in_ok-image.ensures)
