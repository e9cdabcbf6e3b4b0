use Rattle.xmi_profile.proofs.written.Naming.{class_read, prop_read}
use Rattle.xmi_profile.proofs.writing_laws.names_are_read_back.Goals as goal

pub returns-clause-classes : goal.returns-clause-classes
returns-clause-classes c meta n well l concrete_is = class_read meta well n l concrete_is

pub returns-clause-properties : goal.returns-clause-properties
returns-clause-properties c meta n p well l has = prop_read meta well n p l has
