-- The model that a file writes: before the partners are put in order, and after that.
use Rattle.std.specs.Prelude.{◌≡◌, ℕ, ◌<◌, List, length}
use Rattle.mof_metamodel.specs.declared.desc.MetaDesc.{MetaDesc}
use Rattle.object_tables.specs.Models.{ModelData, class_at, id_at, values_at, partners_at}
use Rattle.model_assembly.specs.declared.filed.Filed.{Filed}
use Rattle.model_assembly.specs.declared.assembly.naming.Naming.{Naming}
use Rattle.model_assembly.specs.AssemblyLinks.{IsLinkedTo}
use Rattle.model_assembly.specs.AssemblyNamings.{at}
use Rattle.model_assembly.specs.AssemblyObjects.{bare_model}
use Rattle.model_assembly.specs.AssemblyOrders.{distinct_targets, StandByNumber}
use Rattle.model_assembly.specs.AssemblyReferences.{IsSourceOf}
use Rattle.model_assembly.specs.AssemblyValues.{HasValues}
use Rattle.model_assembly.specs.Filed.{IsReferenceIn}
use Rattle.model_assembly.specs.Links.{AreOrdered}
use Rattle.model_assembly.specs.Source.{Source}

-- the model n is the model m but for its links
pub record IsSameButLinks (m n : ModelData) : Type 0 where
  pub meta : n.meta ≡ m.meta
  pub count : length n.objects ≡ length m.objects
  pub classes : (o : ℕ) → class_at n o ≡ class_at m o
  pub ids : (o : ℕ) → id_at n o ≡ id_at m o
  pub values : (o p : ℕ) → values_at n o p ≡ values_at m o p

-- the objects of the file have its values, each once, and the pairs are those that are named from either end
pub record IsLinkedModel (meta : MetaDesc) (f : Filed) (xs : List Naming) (m : ModelData) : Type 0 where
  pub start : ModelData
  pub values : HasValues (bare_model meta f.classes f.ids) f.values start
  pub links : IsLinkedTo start xs (length xs) m
  pub by_number : StandByNumber xs m
  pub same : IsSameButLinks start m

-- and where an object names some, its partners stand in the order in which they are named
pub record IsOrderedModel (meta : MetaDesc) (f : Filed) (xs : List Naming) (m : ModelData) : Type 0 where
  pub linked : IsLinkedModel meta f xs m
  pub orders : (i : ℕ) → i < length xs → partners_at m (at xs i).object (at xs i).property ≡ distinct_targets xs (at xs i).object (at xs i).property

-- and in each source that writes this, the partners stand in the order in which they are written
abbrev pub StandsAsWritten : MetaDesc → Filed → ModelData → Type 0
StandsAsWritten meta f m = (s : Source) → IsSourceOf s meta f → (o p : ℕ) → IsReferenceIn s o p → AreOrdered s m o p
