use Rattle.std.proofs.Common.{◌∙◌}
use Rattle.std.specs.Prelude.{codes}
use Rattle.std.proofs.lemmas.Str.Pattern.{starts_text}
use Rattle.xmi_profile.proofs.Literals.{xmlns_prefix}
use Rattle.xmi_profile.proofs.Prefixes.{prefixed}
use Rattle.xmi_profile.proofs.names.has_xmlns_prefix.Goals as goal

pub returns : goal.returns
returns c = starts_text c.starts_with.result (codes "xmlns:") c.args.name.now c.starts_with.ensures.cases ∙ prefixed (codes "xmlns:") c.args.name.now xmlns_prefix.0 xmlns_prefix.1 c.utf8.name
