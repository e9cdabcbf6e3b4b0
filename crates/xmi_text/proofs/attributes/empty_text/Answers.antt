use Rattle.std.proofs.Common.{◌≡◌, [], refl, ap, ◌∙◌}
use Rattle.std.specs.Str.{chars}
use Rattle.xmi_text.proofs.attributes.empty_text.Goals as goal

no_characters : chars [] ≡ []
unfolding chars
no_characters = refl

-- no byte is no character
pub returns : goal.returns
returns c = c.from_string.ensures.characters ∙ ap chars c.new.ensures.bytes ∙ no_characters
