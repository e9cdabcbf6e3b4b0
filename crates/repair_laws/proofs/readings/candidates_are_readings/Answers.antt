use Rattle.repair_semantics.specs.Demands.{demanded_terms}
use Rattle.repair_laws.proofs.DemandedLaws.{has_object}
use Rattle.repair_laws.proofs.CandidateReading.{all_stand, reads}
use Rattle.repair_laws.proofs.readings.candidates_are_readings.Goals as goal

pub returns-clause-reads : goal.returns-clause-reads
returns-clause-reads c = reads

pub returns-clause-objects : goal.returns-clause-objects
returns-clause-objects c = λ program m demands t has. has_object program m (demanded_terms demands) t has

pub returns-clause-stand : goal.returns-clause-stand
returns-clause-stand c = all_stand
