use Rattle.command_words.proofs.ArgumentsLaws.{one_list}
use Rattle.command_words.proofs.laws.one_list_of_arguments.Goals as goal

pub returns : goal.returns
returns c = one_list
