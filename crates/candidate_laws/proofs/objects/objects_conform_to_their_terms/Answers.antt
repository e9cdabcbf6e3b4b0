use Rattle.candidate_laws.proofs.Numbers.{object_of_term}
use Rattle.candidate_laws.proofs.objects.objects_conform_to_their_terms.Goals as goal

pub returns : goal.returns
returns c = object_of_term
