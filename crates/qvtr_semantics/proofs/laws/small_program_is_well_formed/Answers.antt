use Rattle.qvtr_semantics.proofs.WellFormedAnswers.{small_program_is_well_formed}
use Rattle.qvtr_semantics.proofs.laws.small_program_is_well_formed.Goals as goal

pub returns : goal.returns
returns c = small_program_is_well_formed
