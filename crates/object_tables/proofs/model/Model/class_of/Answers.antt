use Rattle.object_tables.proofs.ModelLemmas.{class_facts}
use Rattle.object_tables.proofs.model.Model.class_of.Goals as goal

pub returns-clause-within : goal.returns-clause-within
returns-clause-within c = (class_facts _ _ _ _ c.args.o.0 c.in-Some.named.now _ c.self.invariant.tied c.self.view_is c.in-Some.ensures).0

pub returns-clause-concrete : goal.returns-clause-concrete
returns-clause-concrete c = (class_facts _ _ _ _ c.args.o.0 c.in-Some.named.now _ c.self.invariant.tied c.self.view_is c.in-Some.ensures).1
