use Rattle.qvtr_types.proofs.NameFaultLaws.{one_fault, no_fault}
use Rattle.qvtr_types.proofs.laws.one_name_fault.Goals as goal

pub returns-clause-one : goal.returns-clause-one
returns-clause-one c = one_fault

pub returns-clause-none : goal.returns-clause-none
returns-clause-none c = no_fault
