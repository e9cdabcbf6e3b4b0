use Rattle.evaluation_laws.proofs.Examples.{text_is, unstorable_is_none, text_is_no_number, literal_is, third_color_is_none, set_is, set_is_no_bag, empty_set_is}
use Rattle.evaluation_laws.proofs.laws.small_values_are_of_their_types.Goals as goal

pub returns-clause-text : goal.returns-clause-text
returns-clause-text c = text_is

pub returns-clause-unstorable : goal.returns-clause-unstorable
returns-clause-unstorable c = unstorable_is_none

pub returns-clause-number : goal.returns-clause-number
returns-clause-number c = text_is_no_number

pub returns-clause-literal : goal.returns-clause-literal
returns-clause-literal c = literal_is

pub returns-clause-beyond : goal.returns-clause-beyond
returns-clause-beyond c = third_color_is_none

pub returns-clause-set : goal.returns-clause-set
returns-clause-set c = set_is

pub returns-clause-bag : goal.returns-clause-bag
returns-clause-bag c = set_is_no_bag

pub returns-clause-empty : goal.returns-clause-empty
returns-clause-empty c = empty_set_is
