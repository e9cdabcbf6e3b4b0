use Rattle.example_models.proofs.TableLaws.{no_fault}
use Rattle.example_models.proofs.descriptions.metamodel.Goals as goal

pub unreachable-requires : goal.unreachable-requires
unreachable-requires c = no_fault _ _ _ _ c.requires c.new.ensures.only c.in-Err-Fault.is c.in-Err-Fault.field-0-is

pub unreachable-unreachable : goal.unreachable-unreachable
unreachable-unreachable c = no_fault _ _ _ _ c.requires c.new.ensures.only c.in-Err-Fault.is c.in-Err-Fault.field-0-is
