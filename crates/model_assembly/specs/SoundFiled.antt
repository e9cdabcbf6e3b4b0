-- What holds besides of the lists to which the elements of a document are filed, where no fault stands at a place: values are of their
-- properties' types (UML 2.5.1, 7.5.3), classes have instances (MOF 2.5.1, 12.4), and each object has an identifier of its own
-- (XMI 2.5.1, 7.6).
use Rattle.std.specs.Prelude.{◌≡◌, ◌≢◌, ◌<◌, true, false, length, All, AllPairs}
use Rattle.mof_metamodel.specs.declared.desc.ClassId.{ClassId}
use Rattle.mof_metamodel.specs.declared.desc.MetaDesc.{MetaDesc}
use Rattle.mof_metamodel.specs.Characters.{is_identifier_text}
use Rattle.mof_metamodel.specs.Metamodels.{class_count, class_at, type_of}
use Rattle.object_tables.specs.Models.{is_value_of}
use Rattle.model_assembly.specs.declared.filed.Filed.{Filed}
use Rattle.model_assembly.specs.declared.filed.WrittenValue.{WrittenValue}

abbrev pub IsTyped : MetaDesc → WrittenValue → Type 0
IsTyped meta v = is_value_of meta (type_of meta v.property.0) v.value ≡ true

abbrev pub HasInstances : MetaDesc → ClassId → Type 0
HasInstances meta c = (c.0 < class_count meta) × ((class_at meta c.0).is_abstract ≡ false)

pub record IsSoundFiled (meta : MetaDesc) (f : Filed) : Type 0 where
  pub typed : All (IsTyped meta) f.values
  pub classes : All (HasInstances meta) f.classes
  pub same : length f.classes ≡ length f.ids
  pub identifiers : All (λ id. is_identifier_text id ≡ true) f.ids
  pub distinct : AllPairs (λ x y. x ≢ y) f.ids
