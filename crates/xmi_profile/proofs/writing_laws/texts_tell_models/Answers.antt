use Rattle.xmi_profile.proofs.written.Reading.{same_text}
use Rattle.xmi_profile.proofs.writing_laws.texts_tell_models.Goals as goal

pub returns : goal.returns
returns c = same_text
