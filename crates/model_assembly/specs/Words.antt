-- The words that are printed of the kinds of faults.
use Rattle.std.specs.Prelude.{ℕ, List, codes}
use Rattle.model_assembly.specs.declared.fault.ModelFault.{ModelFault}
use Rattle.model_assembly.specs.declared.fault.ModelFault.TheVariants as faults

-- a kind's word, in UTF-8
abbrev pub fault_word : ModelFault → List ℕ
fault_word (faults.UnknownClass name) = codes "UnknownClass"
fault_word (faults.UnknownProperty id prop) = codes "UnknownProperty"
fault_word (faults.WrongValue id prop) = codes "WrongValue"
fault_word (faults.DuplicateId id) = codes "DuplicateId"
fault_word (faults.Dangling id prop reference) = codes "Dangling"
fault_word (faults.TwoContainers id) = codes "TwoContainers"
fault_word (faults.Mismatch id prop other other_prop) = codes "Mismatch"
fault_word (faults.Invalid breach id) = codes "Invalid"
fault_word (faults.Limit kind) = codes "Limit"
