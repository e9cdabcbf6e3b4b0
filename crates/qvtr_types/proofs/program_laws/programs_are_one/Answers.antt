use Rattle.qvtr_types.proofs.one_program.Programs.{programs_are_one}
use Rattle.qvtr_types.proofs.program_laws.programs_are_one.Goals as goal

pub returns : goal.returns
returns c = λ metas script target p q well none. programs_are_one metas script target well none p q
