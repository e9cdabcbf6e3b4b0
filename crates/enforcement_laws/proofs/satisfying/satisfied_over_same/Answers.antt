use Rattle.enforcement_laws.proofs.Replacing.{target_there, agree}
use Rattle.repair_laws.specs.Repairs.{with_target}
use Rattle.enforcement_laws.proofs.satisfying.satisfied_over_same.Goals as goal

pub returns-clause-satisfied : goal.returns-clause-satisfied
returns-clause-satisfied c = λ metas program models m n can target kept same.
    c.same_targets_are_alike.ensures.satisfied metas program models (with_target program models n) m n can.evaluable.well can.enforceable
    (agree program models m n target) target (target_there program models m n target) kept same

pub returns-clause-chains : goal.returns-clause-chains
returns-clause-chains c = λ metas program models m n can target kept same.
    c.same_targets_are_alike.ensures.chains metas program models (with_target program models n) m n can.evaluable.well can.enforceable
    (agree program models m n target) target (target_there program models m n target) kept same
