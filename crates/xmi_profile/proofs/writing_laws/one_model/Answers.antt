use Rattle.xmi_profile.proofs.written.OneModel.{one_content, one_spelled_model}
use Rattle.xmi_profile.proofs.writing_laws.one_model.Goals as goal

pub returns-clause-tree : goal.returns-clause-tree
returns-clause-tree c = one_content

pub returns-clause-bytes : goal.returns-clause-bytes
returns-clause-bytes c = one_spelled_model
