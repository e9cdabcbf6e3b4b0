use Rattle.std.proofs.Common.{◌∙◌}
use Rattle.mof_metamodel.proofs.NameLemmas.{named_bytes}
use Rattle.xmi_profile.proofs.names.is_named.Goals as goal

pub returns : goal.returns
returns c = c.eq.ensures ∙ named_bytes c.args.name.now c.args.other.now c.utf8.name c.utf8.other
