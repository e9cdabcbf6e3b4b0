use Rattle.model_files.proofs.EmofLaws.{no_fault}
use Rattle.model_files.proofs.emof.emof_metamodel.Goals as goal

pub unreachable-requires : goal.unreachable-requires
unreachable-requires c = no_fault _ _ _ _ c.in_ok-description.ensures c.new.ensures.only c.in-Err-Fault.is c.in-Err-Fault.field-0-is

pub unreachable-unreachable : goal.unreachable-unreachable
unreachable-unreachable c = no_fault _ _ _ _ c.in_ok-description.ensures c.new.ensures.only c.in-Err-Fault.is c.in-Err-Fault.field-0-is
