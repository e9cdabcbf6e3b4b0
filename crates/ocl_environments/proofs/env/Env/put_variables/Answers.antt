use Rattle.std.proofs.Common.{sym, subst}
use Rattle.std.specs.Prelude.{IsTrue}
use Rattle.std.specs.List.{list_all}
use Rattle.ocl_environments.specs.Environments.{Environment, is_variable}
use Rattle.ocl_environments.proofs.MetaLaws.{other_variables}
use Rattle.ocl_environments.proofs.env.Env.put_variables.Goals as goal

pub invariant_of-self : goal.invariant_of-self
invariant_of-self c = (
  other_variables _ c.args.variables c.self.invariant.0 (subst (λ (e : Environment). IsTrue (list_all (is_variable e) c.args.variables)) (sym c.self.view_is) c.requires.typed) c.requires.few,
  c.self.invariant.1,
  c.self.invariant.2,
)
