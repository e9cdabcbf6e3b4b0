use Rattle.std.proofs.Common.{sym, ap, ◌∙◌}
use Rattle.ocl_environments.specs.declared.fault.TypeFault.TheVariants.{UnknownName}
use Rattle.qvtr_types.proofs.items.template_class_of.Goals as goal

pub returns-in_ok-text-in-None-clause-fault : goal.returns-in_ok-text-in-None-clause-fault
returns-in_ok-text-in-None-clause-fault c = (sym c.class_named.ensures ∙ c.in-None.is, ap UnknownName c.in_ok-text-in-None.ensures)
