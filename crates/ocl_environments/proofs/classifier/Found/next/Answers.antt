use Rattle.std.proofs.Common.{ap, sym}
use Rattle.ocl_environments.specs.declared.classifier.Found.{Found}
use Rattle.ocl_environments.specs.Finding.{next_found}
use Rattle.ocl_environments.proofs.classifier.Found.next.Goals as goal

pub returns-in-One : goal.returns-in-One
returns-in-One c = ap (λ (f : Found). next_found f c.args.c) (sym c.in-One.is)
