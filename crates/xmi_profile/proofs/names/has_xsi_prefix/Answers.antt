use Rattle.std.proofs.Common.{◌∙◌}
use Rattle.std.specs.Prelude.{codes}
use Rattle.std.proofs.lemmas.Str.Pattern.{starts_text}
use Rattle.xmi_profile.proofs.Literals.{xsi_prefix}
use Rattle.xmi_profile.proofs.Prefixes.{prefixed}
use Rattle.xmi_profile.proofs.names.has_xsi_prefix.Goals as goal

pub returns : goal.returns
returns c = starts_text c.starts_with.result (codes "xsi:") c.args.name.now c.starts_with.ensures.cases ∙ prefixed (codes "xsi:") c.args.name.now xsi_prefix.0 xsi_prefix.1 c.utf8.name
