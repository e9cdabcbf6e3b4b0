use Rattle.std.proofs.Common.{◌∙◌}
use Rattle.mof_metamodel.proofs.TableLemmas.{entry_more}
use Rattle.staying_objects.specs.Fates.{stays}
use Rattle.staying_objects.proofs.settling.settle_all.Goals as goal

pub loop-o-preserved : goal.loop-o-preserved
loop-o-preserved c = record {
  fates = c.settle.ensures.fates;
  found =
      c.in_ok-push.ensures.ok
      ∙ entry_more c.loop-o.found (stays c.args.repair.now) c.loop-o.o c.settle.result c.loop-o.invariant.found c.settle.ensures.stays;
}
