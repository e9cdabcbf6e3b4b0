use Rattle.ocl_environments.proofs.ModelLemmas.{table_made}
use Rattle.ocl_environments.proofs.extents.alone_models.Goals as goal

pub returns : goal.returns
returns c = λ count none.
    table_made c.args.models.now c.each_alone.result count c.args.table.now c.meet_all.new.table none c.meet_all.ensures.long c.meet_all.ensures.met c.each_alone.ensures
