use Rattle.xmi_profile.proofs.ListedDocuments.{listed_document}
use Rattle.xmi_profile.proofs.listing_laws.documents_are_listed.Goals as goal

pub returns : goal.returns
returns c = listed_document
