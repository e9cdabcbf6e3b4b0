use Rattle.std.proofs.Common.{◌≡◌}
use Rattle.mof_metamodel.specs.Tables.{table}
use Rattle.staying_objects.specs.Fates.{stays, AreFates}
use Rattle.staying_objects.proofs.settling.settle_all.Given as goal

abbrev pub invariant-loop-o : goal.invariant-loop-o
invariant-loop-o l = record {
  fates : AreFates l.repair l.fates;
  found : l.found ≡ table (stays l.repair) l.o;
}
