use Rattle.std.proofs.Common.{◌++◌, ◌∙◌, ap}
use Rattle.std.specs.Prelude.{chars}
use Rattle.std.proofs.lemmas.Str.{IsUtf8-string_bytes, chars-append}
use Rattle.mof_metamodel.proofs.text.Text.push_str.Goals as goal

pub returns-clause-ok : goal.returns-clause-ok
returns-clause-ok c = ap chars c.in_ok-push_str.ensures.bytes ∙ chars-append _ c.args.s.now (IsUtf8-string_bytes c.self.inside.inner) ∙ ap (λ cs. cs ++ chars c.args.s.now) c.self.view_is
