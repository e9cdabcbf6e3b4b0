use Rattle.repair_laws.proofs.ObjectLaws.{one_object_one_term}
use Rattle.repair_laws.proofs.objects.different_terms_have_different_objects.Goals as goal

pub returns : goal.returns
returns c = λ program m terms t u n valid tells closed has a b. one_object_one_term program m terms valid tells closed t u n has a b
