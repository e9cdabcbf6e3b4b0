-- The objects that a file writes, as a model without values and links (XMI 2.5.1, 7.6: an object for each element; MOF 2.5.1, 12.4:
-- instances of classes that aren't abstract).
use Rattle.std.specs.Prelude.{◌≡◌, ◌≢◌, ℕ, ◌<◌, ◌≤◌, false, List, [], ◌∷◌, length, All, AllPairs, IsTrue, Option, Some}
use Rattle.mof_metamodel.specs.declared.desc.MetaDesc.{MetaDesc}
use Rattle.mof_metamodel.specs.declared.desc.ClassId.{ClassId}
use Rattle.object_tables.specs.declared.limit.TheConstants.{MAX_OBJECTS}
use Rattle.mof_metamodel.specs.Characters.{is_identifier_text}
use Rattle.mof_metamodel.specs.Metamodels.{class_count, class_at as meta_class}
use Rattle.object_tables.specs.Objects.{Object}
use Rattle.object_tables.specs.Models.{ModelData, new_object}

-- classes and identifiers of objects that a model may have: at most MAX_OBJECTS, of concrete classes, each with an identifier of its own
pub record AreObjects (meta : MetaDesc) (classes : List ClassId) (ids : List (List ℕ)) : Type 0 where
  pub same : length classes ≡ length ids
  pub few : length ids ≤ MAX_OBJECTS
  pub within : All (λ c. c.0 < class_count meta) classes
  pub concrete : All (λ c. (meta_class meta c.0).is_abstract ≡ false) classes
  pub identifiers : All (λ id. IsTrue (is_identifier_text id)) ids
  pub distinct : AllPairs (λ x y. x ≢ y) ids

-- an object for each class and identifier, without values and partners
abbrev pub new_objects : MetaDesc → List ClassId → List (List ℕ) → List (Option Object)
new_objects meta [] ids = []
new_objects meta (c ∷ cs) [] = []
new_objects meta (c ∷ cs) (id ∷ ids) = Some (new_object meta c.0 id) ∷ new_objects meta cs ids

abbrev pub bare_model : MetaDesc → List ClassId → List (List ℕ) → ModelData
bare_model meta classes ids = record { meta = meta; objects = new_objects meta classes ids }
