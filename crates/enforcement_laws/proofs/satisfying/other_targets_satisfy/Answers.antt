use Rattle.std.specs.Prelude.{List}
use Rattle.std.proofs.Common.{subst}
use Rattle.object_tables.specs.Models.{ModelData}
use Rattle.qvtr_semantics.specs.Calls.{RelationCall}
use Rattle.qvtr_semantics.specs.Satisfaction.{Satisfied}
use Rattle.qvtr_semantics.specs.Chains.{Chain, IsCyclic, IsDeep}
use Rattle.repair_semantics.specs.Candidates.{candidate}
use Rattle.repair_laws.specs.Repairs.{with_target}
use Rattle.enforcement_laws.proofs.Replacing.{target_there, target_again, enforced_moved, demands_moved}
use Rattle.enforcement_laws.proofs.satisfying.other_targets_satisfy.Goals as goal

pub returns-clause-satisfied : goal.returns-clause-satisfied
returns-clause-satisfied c = λ metas program sources before m d can target are valid same room sound.
    subst (λ (xs : List ModelData). Satisfied program xs) (target_again program sources before m target (candidate program m d.list))
    (c.made_models_satisfy.ensures.satisfied metas program (with_target program sources m) m d
    (enforced_moved program sources before m target metas can same valid.kept) (target_there program sources before m target) valid
    (demands_moved program sources before m target metas can same d are) room sound)

pub returns-clause-chains : goal.returns-clause-chains
returns-clause-chains c = λ metas program sources before m d can target are valid same room sound.
    subst (λ (xs : List ModelData). (chain : List RelationCall) → Chain program xs chain → (¬ IsCyclic chain) × (¬ IsDeep chain))
    (target_again program sources before m target (candidate program m d.list))
    (c.made_models_satisfy.ensures.chains metas program (with_target program sources m) m d
    (enforced_moved program sources before m target metas can same valid.kept) (target_there program sources before m target) valid
    (demands_moved program sources before m target metas can same d are) room sound)
