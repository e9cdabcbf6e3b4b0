use Rattle.object_tables.proofs.ConditionLemmas.{class-exactly}
use Rattle.object_tables.proofs.model.Model.is_of_class.Goals as goal

pub returns : goal.returns
returns c = class-exactly c.args.self.now c.args.o.0 c.class_of.result.0 c.args.class.0 c.meta.result.now c.conforms.result c.class_of.ensures.class c.meta.ensures c.conforms.ensures
