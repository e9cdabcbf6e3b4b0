use Rattle.object_tables.specs.Climbs.{IsGreatestBefore}
use Rattle.object_tables.proofs.model.Model.greatest_depth.Given as goal

abbrev pub invariant-loop-o : goal.invariant-loop-o
invariant-loop-o l = IsGreatestBefore l.self l.depths.items l.greatest l.o
