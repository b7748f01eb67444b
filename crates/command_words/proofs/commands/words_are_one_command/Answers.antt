use Rattle.command_words.proofs.ReadingCommands.{one_command}
use Rattle.command_words.proofs.commands.words_are_one_command.Goals as goal

pub returns : goal.returns
returns c = one_command
