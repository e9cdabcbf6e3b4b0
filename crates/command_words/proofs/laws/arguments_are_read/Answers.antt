use Rattle.command_words.proofs.ArgumentsLaws.{arguments_again, arguments_found}
use Rattle.command_words.proofs.laws.arguments_are_read.Goals as goal

pub returns : goal.returns
returns c = record { found = arguments_found; again = arguments_again }
