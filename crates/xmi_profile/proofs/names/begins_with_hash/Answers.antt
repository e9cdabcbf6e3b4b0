use Rattle.std.proofs.Common.{◌∙◌}
use Rattle.std.specs.Prelude.{codes}
use Rattle.std.proofs.lemmas.Str.Pattern.{starts_text}
use Rattle.xmi_profile.proofs.Literals.{hash}
use Rattle.xmi_profile.proofs.Prefixes.{prefixed}
use Rattle.xmi_profile.proofs.names.begins_with_hash.Goals as goal

pub returns : goal.returns
returns c = starts_text c.starts_with.result (codes "#") c.args.text.now c.starts_with.ensures.cases ∙ prefixed (codes "#") c.args.text.now hash.0 hash.1 c.utf8.text
