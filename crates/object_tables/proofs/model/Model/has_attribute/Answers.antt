use Rattle.object_tables.proofs.ConditionLemmas.{attribute-exactly}
use Rattle.object_tables.proofs.model.Model.has_attribute.Goals as goal

pub returns : goal.returns
returns c = attribute-exactly c.args.self.now c.args.o.0 c.args.p.0 c.type_at.result c.is_class.result (c.has_property.ensures.0 c.if-not-has_property.false) c.type_at.ensures.type_is c.is_class.ensures
