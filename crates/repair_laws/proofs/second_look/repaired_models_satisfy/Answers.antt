use Rattle.repair_laws.proofs.SecondLook.{made_satisfies, no_bad_chain}
use Rattle.repair_laws.proofs.second_look.repaired_models_satisfy.Goals as goal

pub returns-clause-satisfied : goal.returns-clause-satisfied
returns-clause-satisfied c = made_satisfies

pub returns-clause-chains : goal.returns-clause-chains
returns-clause-chains c = no_bad_chain
