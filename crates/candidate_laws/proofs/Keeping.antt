-- The model that enforcement makes keeps what every model keeps, where its demands can be placed in the target.
use Rattle.std.specs.Prelude.{List}
use Rattle.object_tables.specs.Models.{ModelData}
use Rattle.object_tables.specs.Kept.{Kept}
use Rattle.object_tables.proofs.KeptLemmas.{both_ways}
use Rattle.qv_syntax.specs.declared.program.Program.{Program}
use Rattle.repair_semantics.specs.declared.demand.Demand.{Demand}
use Rattle.repair_semantics.specs.Candidates.{candidate}
use Rattle.candidate_laws.specs.Placing.{Placeable}
use Rattle.candidate_laws.proofs.ValuesKept.{well_attribute, well_reference}
use Rattle.candidate_laws.proofs.LinksKept.{one_way, one_container}
use Rattle.candidate_laws.proofs.ObjectsKept.{well_object, one_object}

module _ (program : Program) (m : ModelData) (demands : List Demand) (placeable : Placeable program m demands) where
  pub made_kept : Kept (candidate program m demands)
  made_kept = record {
    well = placeable.kept.well;
    objects = well_object program m demands placeable;
    identifiers = one_object program m demands placeable;
    attributes = λ o p a. well_attribute program m demands placeable o p a.class a.class_is a.has a.attribute;
    references = λ o p r. well_reference program m demands placeable o p r.class r.class_is r.has r.reference;
    opposites = both_ways (candidate program m demands) placeable.kept.well (one_way program m demands placeable);
    containers = one_container program m demands placeable;
  }
