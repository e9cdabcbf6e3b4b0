use Rattle.std.specs.Prelude.{Some}
use Rattle.relation_calls.proofs.joins.join_of.Goals as goal

pub join_with-requires-clause-matches : goal.join_with-requires-clause-matches
join_with-requires-clause-matches c = c.requires.told.tables c.in-Call.number (Some c.in-Some.table.now) c.in-Some.ensures
