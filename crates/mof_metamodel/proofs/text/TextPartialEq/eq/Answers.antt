use Rattle.mof_metamodel.specs.TextLaws.{equal_encodings}
use Rattle.mof_metamodel.proofs.text.TextPartialEq.eq.Goals as goal

pub returns : goal.returns
returns c = rw equal_encodings (cc)
