use Rattle.mof_metamodel.proofs.WellLemmas.{well_where_none}
use Rattle.mof_metamodel.proofs.laws.well_where_no_fault.Goals as goal

pub returns : goal.returns
returns c = well_where_none c.args._desc.now
