use Rattle.std.proofs.Common.{ap, ◌∙◌}
use Rattle.std.specs.Str.{chars}
use Rattle.std.proofs.lemmas.Str.{chars-nil}
use Rattle.model_assembly.proofs.texts.empty_text.Goals as goal

-- no byte is no character
pub returns : goal.returns
returns c = c.from_string.ensures.characters ∙ ap chars c.new.ensures.bytes ∙ chars-nil
