use Rattle.mof_metamodel.proofs.WellLemmas.{ok_where_well}
use Rattle.mof_metamodel.proofs.meta.MetaModel.new.Goals as goal

pub returns-clause-only : goal.returns-clause-only
returns-clause-only c well = ok_where_well c.args.desc c.checked.result c.checked.ensures.fault well
