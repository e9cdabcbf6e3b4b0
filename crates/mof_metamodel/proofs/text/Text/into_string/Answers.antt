use Rattle.std.proofs.Common.{sym, ◌∙◌, ap}
use Rattle.mof_metamodel.proofs.text.Text.into_string.Goals as goal
use Rattle.std.proofs.lemmas.Str.{encodes-chars, IsUtf8-string_bytes}
use Rattle.std.specs.Prelude.{encode_utf8_all}

pub returns-clause-bytes : goal.returns-clause-bytes
returns-clause-bytes c = sym (encodes-chars _ (IsUtf8-string_bytes c.self.inside.inner)) ∙ ap encode_utf8_all c.self.view_is
