-- What a model must be besides: valid (MOF 2.5.1, 12.4 and UML 2.5.1, 7.5.3), and within the limit on its depth.
use Rattle.std.specs.Prelude.{◌≡◌, ℕ, ◌<◌, ◌≤◌, List, Option, None, Some}
use Rattle.object_tables.specs.declared.limit.TheConstants.{MAX_DEPTH}
use Rattle.object_tables.specs.declared.breach.Breach.{Breach}
use Rattle.object_tables.specs.declared.limit.LimitKind.TheVariants as limits
use Rattle.object_tables.specs.Containment.{IsDepth}
use Rattle.object_tables.specs.Models.{ModelData, IsLive, id_at}
use Rattle.object_tables.specs.Validity.{Valid, IsFirstBreach}
use Rattle.model_assembly.specs.declared.assembly.check.AssemblyError.{AssemblyError}
use Rattle.model_assembly.specs.declared.assembly.check.AssemblyError.TheVariants as errors
use Rattle.model_assembly.specs.declared.fault.ModelFault.{ModelFault}
use Rattle.model_assembly.specs.declared.fault.ModelFault.TheVariants as faults

-- the fault names the breach and the identifier of its object
abbrev pub IsInvalidBy : ModelData → Breach → ModelFault → Type 0
IsInvalidBy m breach fault = (id : List ℕ) × (fault ≡ faults.Invalid breach id) × (id_at m breach.object.0 ≡ Some id)

-- an object is too deep
pub record HasTooDeep (m : ModelData) : Type 0 where
  pub object : ℕ
  pub live : IsLive m object
  pub depth : ℕ
  pub depth_is : IsDepth m object depth
  pub deep : MAX_DEPTH < depth

pub record IsSoundModel (m : ModelData) : Type 0 where
  pub valid : Valid m
  pub depth : (o d : ℕ) → IsLive m o → IsDepth m o d → d ≤ MAX_DEPTH

-- the first breach of the model is told, or else that it is too deep
pub data IsFaultOf (m : ModelData) (fault : ModelFault) : Type 0 where
  by_breach : (breach : Breach) → IsFirstBreach m breach → IsInvalidBy m breach fault → IsFaultOf m fault
  by_depth : fault ≡ faults.Limit limits.Depth → Valid m → HasTooDeep m → IsFaultOf m fault

abbrev pub IsModelFault : ModelData → Option ModelFault → Type 0
IsModelFault m None = IsSoundModel m
IsModelFault m (Some fault) = IsFaultOf m fault

abbrev pub IsRefusedBy : ModelData → AssemblyError → Type 0
IsRefusedBy m (errors.Content fault) = IsFaultOf m fault
IsRefusedBy m errors.NoMemory = Unit {0}
