use Rattle.model_assembly.proofs.assembling.FirstLaws.{part_there, part_put}
use Rattle.model_assembly.proofs.assembly.first.contradicts.Goals as goal

pub returns-in-Some-clause-parts : goal.returns-in-Some-clause-parts
returns-in-Some-clause-parts c = part_there c.args.parts.now c.args.part c.in-Some.other c.in-Some.is

pub returns-in-None-clause-parts : goal.returns-in-None-clause-parts
returns-in-None-clause-parts c = part_put c.args.parts.now c.args.part c.in-None.is
