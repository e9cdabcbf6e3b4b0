use Rattle.std.proofs.Common.{◌≡◌}
use Rattle.std.specs.Prelude.{sum_by}
use Rattle.object_tables.specs.Models.{IsLive}
use Rattle.staying_objects.specs.Fates.{target_of, is_deleted, AreFates}
use Rattle.staying_objects.proofs.FateLaws.{weight}
use Rattle.staying_objects.proofs.climbing.put.Given as goal

abbrev pub invariant-loop-fates : goal.invariant-loop-fates
invariant-loop-fates l = record {
  live : IsLive (target_of l.repair) l.at.0;
  fates_are : AreFates l.repair l.fates;
  goes_is : l.goes ≡ is_deleted l.repair l.at.0;
}

abbrev pub decreases-loop-fates : goal.decreases-loop-fates
decreases-loop-fates l = sum_by weight l.fates
