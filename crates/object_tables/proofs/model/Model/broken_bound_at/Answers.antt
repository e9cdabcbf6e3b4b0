use Rattle.object_tables.proofs.ContainerLemmas.{place_known}
use Rattle.object_tables.proofs.model.Model.broken_bound_at.Goals as goal

pub bounds-lower-requires : goal.bounds-lower-requires
bounds-lower-requires c = place_known _ _ _ _ _ _ c.self.view_is c.requires

pub returns-then-count-lower-clause-none : goal.returns-then-count-lower-clause-none
returns-then-count-lower-clause-none c = tt

pub returns-in-Some-clause-none : goal.returns-in-Some-clause-none
returns-in-Some-clause-none c = tt
