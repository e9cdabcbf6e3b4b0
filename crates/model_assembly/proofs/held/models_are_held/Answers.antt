use Rattle.std.proofs.Common.{subst}
use Rattle.model_assembly.specs.Held.{HasHeldNames}
use Rattle.model_assembly.proofs.HeldLaws.{values_held}
use Rattle.model_assembly.proofs.held.models_are_held.Goals as goal

pub returns : goal.returns
returns c = record {
  names = subst HasHeldNames c.meta.ensures c.learn_names.ensures;
  ids = c.learn_objects.ensures.ids;
  values = values_held c.args.model.now c.end.ensures.kept c.learn_objects.ensures.values;
}
