-- Errors of readers as errors of a file.
use Rattle.mof_metamodel.specs.declared.desc.MetaDesc.{MetaDesc}
use Rattle.xmi_profile.specs.declared.fault.XmiError.{XmiError}
use Rattle.xmi_profile.specs.declared.fault.XmiError.TheVariants as xmi
use Rattle.model_assembly.specs.declared.filed.Filed.{Filed}
use Rattle.model_assembly.specs.AssemblyReferences.{IsTold}
use Rattle.model_files.specs.declared.fault.FileError.{FileError}
use Rattle.model_files.specs.declared.fault.FileError.TheVariants as errors
use Rattle.model_files.specs.declared.fault.JsonFault.TheVariants as faults

abbrev pub error_of : XmiError → FileError
error_of (xmi.Text fault) = errors.Text fault
error_of (xmi.Content fault) = errors.Content fault
error_of xmi.NoMemory = errors.NoMemory

-- the fault is that of each tree that writes what a value of JSON writes
abbrev pub IsToldError : MetaDesc → Filed → FileError → Type 0
IsToldError meta f (errors.Json (faults.Content fault)) = IsTold meta f fault
IsToldError meta f errors.NoMemory = Unit {0}
IsToldError meta f e = ⊥
