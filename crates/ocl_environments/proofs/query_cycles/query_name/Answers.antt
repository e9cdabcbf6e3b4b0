use Rattle.ocl_environments.proofs.QueryCallLemmas.{name_read}
use Rattle.ocl_environments.proofs.query_cycles.query_name.Goals as goal

pub returns : goal.returns
returns c = name_read c.duplicate.result c.args.queries.now c.args.place c.index-queries-place.result c.requires c.index-queries-place.is c.duplicate.ensures
