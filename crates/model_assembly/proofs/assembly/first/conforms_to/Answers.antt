use Rattle.model_assembly.proofs.assembling.FaultLaws.{conforms_same}
use Rattle.model_assembly.proofs.assembly.first.conforms_to.Goals as goal

pub returns : goal.returns
returns c = conforms_same c.args.meta.now c.args.class.0 c.args.d.0 c.requires c.conforms.result c.conforms.ensures
