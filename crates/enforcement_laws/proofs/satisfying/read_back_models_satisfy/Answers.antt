use Rattle.std.specs.Prelude.{List}
use Rattle.std.proofs.Common.{subst}
use Rattle.object_tables.specs.Models.{ModelData}
use Rattle.qvtr_semantics.specs.Calls.{RelationCall}
use Rattle.qvtr_semantics.specs.Satisfaction.{Satisfied}
use Rattle.qvtr_semantics.specs.Chains.{Chain, IsCyclic, IsDeep}
use Rattle.enforcement_laws.proofs.Repairing.{repair, again_by, repair_again, others_again}
use Rattle.enforcement_laws.proofs.satisfying.read_back_models_satisfy.Goals as goal

pub returns-clause-satisfied : goal.returns-clause-satisfied
returns-clause-satisfied c = λ metas program models m d can target valid are room sound n same valid_there room_there.
    let again = again_by metas program models m d can target are (c.repairs_stay.ensures metas program models m d.entries (repair metas program models m d can target are valid room sound)) n same valid_there in
    subst (λ (xs : List ModelData). Satisfied program xs) (others_again metas program models m d can target are n same.meta valid_there room_there again)
    (c.repaired_models_satisfy.ensures.satisfied metas program _ n d.entries (repair_again metas program models m d can target are n same.meta valid_there room_there again))

pub returns-clause-chains : goal.returns-clause-chains
returns-clause-chains c = λ metas program models m d can target valid are room sound n same valid_there room_there.
    let again = again_by metas program models m d can target are (c.repairs_stay.ensures metas program models m d.entries (repair metas program models m d can target are valid room sound)) n same valid_there in
    subst (λ (xs : List ModelData). (chain : List RelationCall) → Chain program xs chain → (¬ IsCyclic chain) × (¬ IsDeep chain))
    (others_again metas program models m d can target are n same.meta valid_there room_there again)
    (c.repaired_models_satisfy.ensures.chains metas program _ n d.entries (repair_again metas program models m d can target are n same.meta valid_there room_there again))
