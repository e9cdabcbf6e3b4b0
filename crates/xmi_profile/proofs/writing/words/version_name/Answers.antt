use Rattle.xmi_profile.proofs.WritingTexts.{version_characters}
use Rattle.xmi_profile.proofs.writing.words.version_name.Goals as goal

pub returns : goal.returns
returns c = version_characters
