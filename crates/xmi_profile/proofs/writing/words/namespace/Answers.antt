use Rattle.xmi_profile.proofs.WritingTexts.{address_characters}
use Rattle.xmi_profile.proofs.writing.words.namespace.Goals as goal

pub returns : goal.returns
returns c = address_characters
