use Rattle.std.proofs.Common.{ap, ◌∙◌, Some}
use Rattle.std.specs.Option.{option_map}
use Rattle.ocl_environments.specs.declared.classifier.Wanted.TheVariants.{Types}
use Rattle.ocl_environments.specs.Classifiers.{classifier_type}
use Rattle.ocl_environments.proofs.ClassifierIndexLemmas.{one_named}
use Rattle.ocl_environments.proofs.env.Env.named_type.Goals as goal

pub returns-in-Some : goal.returns-in-Some
returns-in-Some c =
    ap Some c.type_of.ensures
    ∙ ap (option_map classifier_type) (one_named c.args.self.now _ c.self.inside.classifiers Types _ _ _ c.args.path.now c.self.invariant.2 c.self.view_is c.as_slice.ensures c.find_path-found.ensures c.in-Some.ensures)

pub returns-in-None : goal.returns-in-None
returns-in-None c =
    ap (option_map classifier_type) (one_named c.args.self.now _ c.self.inside.classifiers Types _ _ _ c.args.path.now c.self.invariant.2 c.self.view_is c.as_slice.ensures c.find_path-found.ensures c.in-None.ensures)
