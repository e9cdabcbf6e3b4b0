use Rattle.std.proofs.Common.{sym, ◌∙◌, ap}
use Rattle.std.specs.Prelude.{length, ◌==◌, chars}
use Rattle.std.proofs.lemmas.Str.{encodes-chars}
use Rattle.mof_metamodel.specs.TextLaws.{empty_same}
use Rattle.xmi_text.proofs.writer.is_empty.Goals as goal

-- a text has no character where it has no byte
pub returns : goal.returns
returns c = c.is_empty.ensures ∙ ap (λ bs. length bs == 0) (sym (encodes-chars c.args.text.now c.utf8.text)) ∙ empty_same (chars c.args.text.now)
