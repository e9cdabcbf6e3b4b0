use Rattle.mof_metamodel.proofs.WellLemmas.{stands_first}
use Rattle.mof_metamodel.proofs.laws.first_fault_stands.Goals as goal

pub returns : goal.returns
returns c = stands_first c.args._desc.now c.args._fault.now.kind c.args._fault.now.name
