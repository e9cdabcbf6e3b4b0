use Rattle.std.proofs.Common.{◌∙◌, sym, subst}
use Rattle.ocl_environments.specs.declared.fault.TypeFault.TheVariants.{UnknownName}
use Rattle.script_scopes.specs.Keys.{StandsInKey}
use Rattle.qvtr_types.proofs.keys.key_class.Goals as goal

pub returns-in_ok-text-in-None-clause-fault : goal.returns-in_ok-text-in-None-clause-fault
returns-in_ok-text-in-None-clause-fault c =
    subst (λ t. StandsInKey c.args.env.now c.args.tree.now (UnknownName t)) (sym c.in_ok-text-in-None.ensures) (StandsInKey.unknown_class (sym c.named_class.ensures ∙ c.in-None.is))
