use Rattle.model_files.proofs.JsonLaws.{objects_more}
use Rattle.model_files.proofs.json_values.object_values.Goals as goal

pub loop-o-preserved : goal.loop-o-preserved
loop-o-preserved c = objects_more c.args.model.now c.loop-o.o _ _ c.in_ok-push_object.ensures c.loop-o.invariant
