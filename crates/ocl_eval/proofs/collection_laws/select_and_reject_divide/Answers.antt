use Rattle.ocl_eval.proofs.MemberLaws.{divided}
use Rattle.ocl_eval.proofs.collection_laws.select_and_reject_divide.Goals as goal

pub returns : goal.returns
returns c = divided
