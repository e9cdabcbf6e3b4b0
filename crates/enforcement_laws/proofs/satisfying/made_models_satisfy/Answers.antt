use Rattle.object_tables.specs.Models.{ModelData}
use Rattle.qvtr_semantics.specs.Calls.{RelationCall}
use Rattle.qvtr_semantics.specs.Satisfaction.{Satisfied}
use Rattle.qvtr_semantics.specs.Chains.{Chain, IsCyclic, IsDeep}
use Rattle.std.specs.Prelude.{List}
use Rattle.repair_laws.specs.Repairs.{with_target}
use Rattle.enforcement_laws.proofs.Repairing.{repair, of_demands}
use Rattle.enforcement_laws.proofs.satisfying.made_models_satisfy.Goals as goal

pub returns-clause-satisfied : goal.returns-clause-satisfied
returns-clause-satisfied c = λ metas program models m d can target valid are room sound.
    of_demands metas program models m d can target are (λ (made : ModelData). Satisfied program (with_target program models made))
    (c.repaired_models_satisfy.ensures.satisfied metas program models m d.entries (repair metas program models m d can target are valid room sound))

pub returns-clause-chains : goal.returns-clause-chains
returns-clause-chains c = λ metas program models m d can target valid are room sound.
    of_demands metas program models m d can target are
    (λ (made : ModelData). (chain : List RelationCall) → Chain program (with_target program models made) chain → (¬ IsCyclic chain) × (¬ IsDeep chain))
    (c.repaired_models_satisfy.ensures.chains metas program models m d.entries (repair metas program models m d can target are valid room sound))
