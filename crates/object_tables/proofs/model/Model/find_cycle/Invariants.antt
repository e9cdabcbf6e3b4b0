use Rattle.object_tables.specs.Climbs.{IsSearched}
use Rattle.object_tables.proofs.model.Model.find_cycle.Given as goal

abbrev pub invariant-loop-o : goal.invariant-loop-o
invariant-loop-o l = IsSearched l.self l.marks.items l.least l.o
