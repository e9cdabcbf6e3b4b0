-- What ties a value of JSON to the tree of elements that writes the same: where the value has the form of a model, no more objects than
-- a model may have and no fault that is told by its place, the tree has no fault at a place, and its model or its first fault is that
-- of the value. So links, their orders and the faults of references are looked for in one way for both forms.
use Rattle.std.specs.Prelude.{ℕ, ◌≤◌, List}
use Rattle.serde_json.specs.Data.{Data}
use Rattle.mof_metamodel.specs.declared.desc.MetaDesc.{MetaDesc}
use Rattle.object_tables.specs.declared.limit.TheConstants.{MAX_OBJECTS}
use Rattle.mof_metamodel.specs.WellMeta.{WellMeta}
use Rattle.object_tables.specs.Models.{ModelData}
use Rattle.model_assembly.specs.declared.fault.ModelFault.{ModelFault}
use Rattle.model_assembly.specs.Faults.{StandsAt}
use Rattle.model_assembly.specs.FirstFault.{IsFirstFault, IsModel}
use Rattle.model_assembly.specs.Source.{object_count}
use Rattle.model_files.specs.JsonContent.{source_of, SpellsModel, IsFirstContentFault}
use Rattle.model_files.specs.JsonFaults.{HasObjects}

abbrev pub NothingStands : MetaDesc → Type 0
NothingStands meta = WellMeta meta → (bytes : List ℕ) (d : Data) → HasObjects meta bytes d → (fault : ModelFault) (place : ℕ) → ¬ StandsAt (source_of meta d) fault place

abbrev pub HasFewObjects : MetaDesc → Type 0
HasFewObjects meta = WellMeta meta → (bytes : List ℕ) (d : Data) → HasObjects meta bytes d → object_count (source_of meta d) ≤ MAX_OBJECTS

abbrev pub ModelsAreSpelled : MetaDesc → Type 0
ModelsAreSpelled meta = (bytes : List ℕ) (d : Data) → HasObjects meta bytes d → (m : ModelData) → IsModel (source_of meta d) m → SpellsModel meta d m

abbrev pub FaultsAreTold : MetaDesc → Type 0
FaultsAreTold meta =
    WellMeta meta → (bytes : List ℕ) (d : Data) → HasObjects meta bytes d → (fault : ModelFault) → IsFirstFault (source_of meta d) fault → IsFirstContentFault meta d fault
