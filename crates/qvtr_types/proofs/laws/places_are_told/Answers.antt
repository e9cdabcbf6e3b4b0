use Rattle.qvtr_types.proofs.PlaceFaultLaws.{condition_faultless, given_faultless, arguments_faultless}
use Rattle.qvtr_types.proofs.laws.places_are_told.Goals as goal

pub returns-clause-condition : goal.returns-clause-condition
returns-clause-condition c = condition_faultless c.args.env.now c.one_type_is_had.ensures c.typing_is_told.ensures.only c.typing_is_told.ensures.known

pub returns-clause-given : goal.returns-clause-given
returns-clause-given c = given_faultless c.args.env.now c.one_type_is_had.ensures c.typing_is_told.ensures.only c.typing_is_told.ensures.known

pub returns-clause-arguments : goal.returns-clause-arguments
returns-clause-arguments c = arguments_faultless c.args.env.now c.one_type_is_had.ensures c.typing_is_told.ensures.only c.typing_is_told.ensures.known
