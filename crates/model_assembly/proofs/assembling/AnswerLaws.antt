-- What is answered on lists.
use Rattle.std.proofs.Common.{Err}
use Rattle.mof_metamodel.specs.declared.desc.MetaDesc.{MetaDesc}
use Rattle.object_tables.specs.Kept.{Kept}
use Rattle.object_tables.specs.Models.{ModelData}
use Rattle.model_assembly.specs.declared.assembly.check.AssemblyError.{AssemblyError}
use Rattle.model_assembly.specs.declared.assembly.check.AssemblyError.TheVariants as errors
use Rattle.model_assembly.specs.declared.filed.Filed.{Filed}
use Rattle.model_assembly.specs.Assembled.{Assembles, IsContent, IsWhole}
use Rattle.model_assembly.specs.AssemblyChecks.{IsRefusedBy}
use Rattle.model_assembly.proofs.assembling.ContentLaws.{fault_told}

pub refused_by : (meta : MetaDesc) (f : Filed) (m : ModelData) (e : AssemblyError) → IsWhole meta f → IsContent meta f m → Kept m → IsRefusedBy m e → Assembles meta f (Err e)
refused_by meta f m (errors.Content fault) whole content kept h = fault_told meta f m fault whole content kept h
refused_by meta f m errors.NoMemory whole content kept h = tt
