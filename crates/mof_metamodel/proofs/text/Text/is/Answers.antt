use Rattle.std.proofs.Common.{sym, ◌∙◌, ap}
use Rattle.std.specs.Prelude.{chars}
use Rattle.std.specs.Cmp.Lexicographic.{bytes_decides}
use Rattle.std.proofs.lemmas.Str.{IsUtf8-string_bytes}
use Rattle.mof_metamodel.specs.TextLaws.{bytes_same}
use Rattle.mof_metamodel.proofs.text.Text.is.Goals as goal

pub returns : goal.returns
returns c = (
  λ h. sym c.self.view_is ∙ ap chars (sym c.as_str.ensures.value ∙ (bytes_decides c.as_str.result.now c.args.s.now).0 (sym c.eq.ensures ∙ h)),
  λ h. c.eq.ensures ∙ (bytes_decides c.as_str.result.now c.args.s.now).1 (c.as_str.ensures.value ∙ bytes_same _ _ (IsUtf8-string_bytes c.self.inside.inner) c.utf8.s (c.self.view_is ∙ h)),
)
