use Rattle.example_laws.proofs.EntryLaws.{entries_are_example}
use Rattle.example_laws.proofs.laws.entries_are_of_the_source.Goals as goal

pub returns : goal.returns
returns c = entries_are_example
