use Rattle.ocl_environments.proofs.ClassifierIndexLemmas.{literal_named}
use Rattle.ocl_environments.proofs.env.Env.named_literal.Goals as goal

pub returns : goal.returns
returns c = literal_named c.args.self.now _ c.self.inside.classifiers _ _ c.args.path.now c.self.invariant.2 c.self.view_is c.as_slice.ensures c.find_literal.ensures
