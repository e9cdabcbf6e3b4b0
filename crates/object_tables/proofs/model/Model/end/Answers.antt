use Rattle.object_tables.proofs.WholeLemmas.{few_seen}
use Rattle.object_tables.proofs.model.Model.end.Goals as goal

pub returns-clause-few : goal.returns-clause-few
returns-clause-few c = few_seen _ _ _ _ _ c.self.invariant c.self.view_is
