use Rattle.std.proofs.Common.{◌∙◌}
use Rattle.mof_metamodel.proofs.TableLemmas.{entry_more}
use Rattle.staying_objects.specs.Fates.{first_fate}
use Rattle.staying_objects.proofs.fates.fates_by.Goals as goal

pub loop-o-preserved : goal.loop-o-preserved
loop-o-preserved c =
    c.in_ok-push.ensures.ok
    ∙ entry_more c.loop-o.fates (first_fate c.args.repair.now) c.loop-o.o c.first_fate.result c.loop-o.invariant c.first_fate.ensures
