use Rattle.std.proofs.Common.{arith}
use Rattle.ocl_environments.proofs.MetaLaws.{pushed}
use Rattle.ocl_environments.proofs.metas.Metas.push.Goals as goal

pub invariant_of-self : goal.invariant_of-self
invariant_of-self c =
    pushed c.push.result c.self.inside.metas c.push.new.self c.args.meta c.self.invariant (omega arith) c.class_count-classes.ensures.well c.push.ensures.ok c.push.ensures.err
