use Rattle.candidate_laws.proofs.Numbers.{numbers_apart}
use Rattle.candidate_laws.proofs.objects.numbers_are_apart.Goals as goal

pub returns : goal.returns
returns c = numbers_apart
