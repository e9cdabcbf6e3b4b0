-- What an enforcement makes of the target among models, and that nothing stands against it but memory (QVT 1.3, sections 7.2 and 7.10.2).
use Rattle.std.specs.Prelude.{◌≡◌, ◌≤◌, List, length, Some, slice_get}
use Rattle.mof_metamodel.specs.declared.desc.MetaDesc.{MetaDesc}
use Rattle.object_tables.specs.Models.{ModelData}
use Rattle.object_tables.specs.Validity.{Valid}
use Rattle.qv_syntax.specs.declared.program.Program.{Program}
use Rattle.repair_semantics.specs.declared.report.Report.{Report}
use Rattle.repair_semantics.specs.Candidates.{candidate}
use Rattle.repair_semantics.specs.Reports.{IsReport}
use Rattle.repair_laws.specs.Repairs.{with_target}
use Rattle.entry_finding.specs.Premises.{CanBeEnforced}
use Rattle.demand_set.specs.declared.demand_error.DemandError.{DemandError}
use Rattle.demand_set.specs.declared.demand_error.DemandError.TheVariants as demands
use Rattle.demand_set.specs.DemandSets.{DemandData, IsDemandSet, IsRefusal}
use Rattle.enforce_mode.specs.Made.{IsSound}

-- the target is valid, and there are numbers for further objects
pub record IsReadable (m : ModelData) : Type 0 where
  pub valid : Valid m
  pub numbers : length m.objects ≤ 3_999_000_000

-- what is demanded of the target of the models
pub record IsDemanded (program : Program) (models : List ModelData) (target : ModelData) (d : DemandData) : Type 0 where
  pub target_is : slice_get models program.target ≡ Some target
  pub are : IsDemandSet program models d

-- nothing is refused of the models: no demands but for want of memory, and what is demanded makes a sound model
pub record IsUnrefused (program : Program) (models : List ModelData) : Type 0 where
  pub demanded : (e : DemandError) → IsRefusal program models e → e ≡ demands.NoMemory
  pub sound : (target : ModelData) (d : DemandData) → IsDemanded program models target d → IsSound (candidate program target d.list)

-- the target became what is demanded of it, which is sound, and the report says what that changed
pub record IsRepaired (program : Program) (before after : List ModelData) (report : Report) : Type 0 where
  pub target : ModelData
  pub demands : DemandData
  pub demanded : IsDemanded program before target demands
  pub sound : IsSound (candidate program target demands.list)
  pub after_is : after ≡ with_target program before (candidate program target demands.list)
  pub report_is : IsReport program target demands.list report

-- an enforcement made the target of these models, from one that was readable
pub record IsAfter (program : Program) (models : List ModelData) : Type 0 where
  pub metas : List MetaDesc
  pub before : List ModelData
  pub report : Report
  pub can : CanBeEnforced metas program before
  pub readable : (m : ModelData) → slice_get before program.target ≡ Some m → IsReadable m
  pub repaired : IsRepaired program before models report
