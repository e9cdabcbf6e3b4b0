use Rattle.std.proofs.Common.{◌∙◌}
use Rattle.mof_metamodel.proofs.text.Text.new.Goals as goal
use Rattle.std.proofs.lemmas.Str.{encodes-chars, IsUtf8-string_bytes}

pub returns-clause-bytes : goal.returns-clause-bytes
returns-clause-bytes c = encodes-chars _ (IsUtf8-string_bytes c.in_ok-inner.inner) ∙ c.in_ok-inner.ensures.ok
