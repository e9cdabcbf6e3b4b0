-- The words that faults of types are printed with, as bytes.
use Rattle.std.specs.Prelude.{ℕ, List, codes}
use Rattle.ocl_environments.specs.declared.fault.TypeFault.{TypeFault}
use Rattle.ocl_environments.specs.declared.fault.TypeFault.TheVariants as faults

abbrev pub fault_word : TypeFault → List ℕ
fault_word (faults.WrongType wanted found) = codes "WrongType"
fault_word (faults.UnknownName name) = codes "UnknownName"
fault_word (faults.WrongCount name) = codes "WrongCount"
fault_word (faults.ModelMix name) = codes "ModelMix"
fault_word (faults.QueryCycle name) = codes "QueryCycle"
fault_word (faults.DuplicateName name) = codes "DuplicateName"
fault_word (faults.Unbound name) = codes "Unbound"
fault_word (faults.WhenCycle name) = codes "WhenCycle"
fault_word (faults.CallShape name) = codes "CallShape"
fault_word (faults.KeyShape name) = codes "KeyShape"
fault_word (faults.UnknownModel name) = codes "UnknownModel"
