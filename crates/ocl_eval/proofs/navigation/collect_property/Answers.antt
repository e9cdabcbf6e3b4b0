use Rattle.std.proofs.lemmas.Result.{IfOk-weaker}
use Rattle.qvtr_semantics.specs.Objects.{property}
use Rattle.ocl_eval.specs.Worlds.{setting_of}
use Rattle.ocl_eval.proofs.CollectLaws.{collected}
use Rattle.ocl_eval.proofs.navigation.collect_property.Goals as goal

pub returns-in-Many : goal.returns-in-Many
returns-in-Many c =
    IfOk-weaker c.iterator_result.result _ _
    (λ out h. collected c.args.x out c.in-Many.kind c.in-Many.elements c.as_slice.result.now c.new-begun.result c.in_ok-progress-in-Many.progress
    (property (setting_of c.args.world.now) c.args.prop.0 c.args.values) c.in-Many.is c.new-begun.ensures c.as_slice.ensures c.in_ok-progress-in-Many.ensures h)
    c.iterator_result.ensures
