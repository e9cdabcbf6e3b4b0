use Rattle.xmi_profile.proofs.ExternLaws.{numbers_of_all}
use Rattle.xmi_profile.proofs.fault_laws.objects_are_numbered.Goals as goal

pub returns : goal.returns
returns c = numbers_of_all
