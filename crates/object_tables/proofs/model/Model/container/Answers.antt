use Rattle.std.proofs.Common.{ℕ}
use Rattle.object_tables.specs.Kept.{Kept}
use Rattle.object_tables.specs.Models.{ModelData, IsLive, IsContainedIn, IsReferenceOf}
use Rattle.object_tables.proofs.ModelLemmas.{live_from_class}
use Rattle.object_tables.proofs.ContainerLemmas.{container_reference, top_from_both, if_some, if_none}
use Rattle.object_tables.proofs.model.Model.container.Goals as goal

-- a container is live
container_live : (m : ModelData) (o a p : ℕ) → Kept m → IsContainedIn m o a p → IsLive m a
container_live m o a p kept h = let r : IsReferenceOf m a p = container_reference m o a p kept h in live_from_class m a r.class r.class_is

pub returns-in-Some-clause-reference : goal.returns-in-Some-clause-reference
returns-in-Some-clause-reference c = container_reference _ _ _ _ c.end.ensures.kept c.in-Some.ensures.contained

pub returns-in-None-clause-reference : goal.returns-in-None-clause-reference
returns-in-None-clause-reference c = if_some c.named_container.result (λ r. container_reference _ _ _ _ c.end.ensures.kept) c.named_container.ensures.contained

pub returns-in-None-clause-top : goal.returns-in-None-clause-top
returns-in-None-clause-top c = if_none c.named_container.result (top_from_both _ _ c.in-None.ensures.none) c.named_container.ensures.none

pub returns-in-Some-clause-live : goal.returns-in-Some-clause-live
returns-in-Some-clause-live c = container_live _ _ _ _ c.end.ensures.kept c.in-Some.ensures.contained

pub returns-in-None-clause-live : goal.returns-in-None-clause-live
returns-in-None-clause-live c = if_some c.named_container.result (λ r. container_live _ _ _ _ c.end.ensures.kept) c.named_container.ensures.contained
