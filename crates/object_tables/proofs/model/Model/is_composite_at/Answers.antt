use Rattle.object_tables.proofs.ConditionLemmas.{known_at}
use Rattle.object_tables.proofs.model.Model.is_composite_at.Goals as goal

pub prop-requires : goal.prop-requires
prop-requires c = known_at c.args.self.now c.args.o.0 c.args.p.0 c.meta.result.now c.meta.ensures c.requires
