use Rattle.std.proofs.Common.{ap, ◌∙◌}
use Rattle.std.specs.Option.{option_and_then}
use Rattle.ocl_environments.specs.declared.classifier.Wanted.TheVariants.{Classes}
use Rattle.ocl_environments.specs.Classifiers.{class_alone}
use Rattle.ocl_environments.proofs.ClassifierIndexLemmas.{one_named}
use Rattle.ocl_environments.proofs.env.Env.named_class.Goals as goal

pub returns-in-Some : goal.returns-in-Some
returns-in-Some c =
    c.class_alone.ensures
    ∙ ap (option_and_then class_alone) (one_named c.args.self.now _ c.self.inside.classifiers Classes _ _ _ c.args.path.now c.self.invariant.2 c.self.view_is c.as_slice.ensures c.find_path-found.ensures c.in-Some.ensures)

pub returns-in-None : goal.returns-in-None
returns-in-None c =
    ap (option_and_then class_alone) (one_named c.args.self.now _ c.self.inside.classifiers Classes _ _ _ c.args.path.now c.self.invariant.2 c.self.view_is c.as_slice.ensures c.find_path-found.ensures c.in-None.ensures)
