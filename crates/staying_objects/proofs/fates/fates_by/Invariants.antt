use Rattle.std.proofs.Common.{◌≡◌}
use Rattle.mof_metamodel.specs.Tables.{table}
use Rattle.staying_objects.specs.Fates.{first_fate}
use Rattle.staying_objects.proofs.fates.fates_by.Given as goal

abbrev pub invariant-loop-o : goal.invariant-loop-o
invariant-loop-o l = l.fates ≡ table (first_fate l.repair) l.o
