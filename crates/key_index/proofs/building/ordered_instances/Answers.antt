use Rattle.std.proofs.Common.{sym, subst}
use Rattle.key_index.specs.Instances.{AreInstances}
use Rattle.key_index.proofs.InstanceLaws.{gathered, moved}
use Rattle.key_index.proofs.building.ordered_instances.Goals as goal

pub returns-clause-instances : goal.returns-clause-instances
returns-clause-instances c =
    let m = c.args.model.now in
    moved m c.in_ok-instances.instances.items c.by_class.result.items c.by_class.ensures.same (subst (AreInstances m) (sym c.in_ok-instances.ensures) (gathered m))
