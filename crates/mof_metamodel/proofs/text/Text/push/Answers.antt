use Rattle.std.proofs.Common.{◌++◌, [], ◌∷◌, ◌∙◌, ap}
use Rattle.std.specs.Prelude.{chars}
use Rattle.std.proofs.lemmas.Str.{IsUtf8-string_bytes}
use Rattle.mof_metamodel.specs.TextLaws.{chars_push}
use Rattle.mof_metamodel.proofs.text.Text.push.Goals as goal

pub returns-clause-ok : goal.returns-clause-ok
returns-clause-ok c = ap chars c.in_ok-push.ensures.bytes ∙ chars_push _ c.args.c (IsUtf8-string_bytes c.self.inside.inner) c.ranges.c.0 ∙ ap (λ cs. cs ++ c.args.c ∷ []) c.self.view_is
