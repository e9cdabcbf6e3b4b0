use Rattle.example_laws.proofs.RefusalLaws.{only_memory}
use Rattle.example_laws.proofs.laws.demands_are_not_refused.Goals as goal

pub returns : goal.returns
returns c = λ classes seed e few refusal. only_memory classes seed few e refusal
