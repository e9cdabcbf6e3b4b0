use Rattle.same_targets.proofs.Twins.{turned_round, turned}
use Rattle.same_targets.proofs.TwinHolds.{satisfied_there}
use Rattle.same_targets.proofs.TwinChains.{chains_there}
use Rattle.same_targets.proofs.SameTwins.{IsTwin, are_twins}
use Rattle.same_targets.proofs.laws.same_targets_are_alike.Goals as goal

pub returns-clause-satisfied : goal.returns-clause-satisfied
returns-clause-satisfied c = λ metas program ms ns m n formed enforceable agree here there kept same satisfied.
    satisfied_there metas program formed enforceable ms ns (IsTwin program ms ns m n agree here there kept same) (are_twins program ms ns m n agree here there kept same) satisfied

pub returns-clause-chains : goal.returns-clause-chains
returns-clause-chains c = λ metas program ms ns m n formed enforceable agree here there kept same none.
    chains_there metas program formed enforceable ns ms (turned_round (IsTwin program ms ns m n agree here there kept same))
    (turned program ms ns (IsTwin program ms ns m n agree here there kept same) (are_twins program ms ns m n agree here there kept same)) none
