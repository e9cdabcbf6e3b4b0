use Rattle.qvtr_types.proofs.FaultMeaning.{item_stands, clauses_told, none_told}
use Rattle.qvtr_types.proofs.laws.expression_faults_are_told.Goals as goal

pub returns-clause-stands : goal.returns-clause-stands
returns-clause-stands c = clauses_told

pub returns-clause-items : goal.returns-clause-items
returns-clause-items c = item_stands

pub returns-clause-none : goal.returns-clause-none
returns-clause-none c = none_told c.args.env.now c.trees_are_typed.ensures.typed
