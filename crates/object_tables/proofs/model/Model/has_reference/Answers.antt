use Rattle.object_tables.proofs.ConditionLemmas.{reference-exactly}
use Rattle.object_tables.proofs.model.Model.has_reference.Goals as goal

pub returns : goal.returns
returns c = reference-exactly c.args.self.now c.args.o.0 c.args.p.0 c.type_at.result c.is_class.result (c.has_property.ensures.0 c.if-not-has_property.false) c.type_at.ensures.type_is c.is_class.ensures
