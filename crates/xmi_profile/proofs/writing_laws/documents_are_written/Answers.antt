use Rattle.xmi_profile.proofs.written.Documents.{canon_markup}
use Rattle.xmi_profile.proofs.writing_laws.documents_are_written.Goals as goal

pub returns : goal.returns
returns c m k held = canon_markup m held k
