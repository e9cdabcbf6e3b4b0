use Rattle.std.proofs.Common.{subst}
use Rattle.model_assembly.specs.Held.{IsHeldText}
use Rattle.model_assembly.proofs.HeldLaws.{classes_held, literals_held, props_held}
use Rattle.model_assembly.proofs.held.learn_names.Goals as goal

pub returns : goal.returns
returns c = record {
  metamodel = subst IsHeldText c.name.ensures c.learn_str.ensures;
  classes = classes_held c.args.meta.now c.learn_classes.ensures.classes;
  props = props_held c.args.meta.now c.learn_classes.ensures.props;
  literals = literals_held c.args.meta.now c.learn_enums.ensures;
}
