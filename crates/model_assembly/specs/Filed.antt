-- What a file writes as flat lists: identifiers and classes by object, values, and what stands at references (XMI 2.5.1, 7.10).
use Rattle.std.specs.Prelude.{◌≡◌, ◌⊎◌, ◌↔◌, ℕ, ◌<◌, true, false, List, [], ◌∷◌, map, filter_map, Contains, Option, None, Some, if◌then◌else◌}
use Rattle.mof_metamodel.specs.declared.desc.ClassId.{ClassId}
use Rattle.mof_metamodel.specs.Metamodels.{type_of}
use Rattle.object_tables.specs.Models.{is_class_type}
use Rattle.object_tables.specs.declared.value.Value.{Value}
use Rattle.model_assembly.specs.declared.filed.Filed.{Filed}
use Rattle.model_assembly.specs.declared.filed.WrittenValue.{WrittenValue}
use Rattle.model_assembly.specs.declared.filed.WrittenReference.{WrittenReference}
use Rattle.model_assembly.specs.declared.filed.Mention.{Mention}
use Rattle.model_assembly.specs.Content.{written_values}
use Rattle.model_assembly.specs.Links.{speaks}
use Rattle.model_assembly.specs.Profile.{props_or_none}
use Rattle.model_assembly.specs.References.{Target, target_text}
use Rattle.model_assembly.specs.Source.{Source, all_ids, all_classes, object_count, class_of, id_of, is_at, target_number, targets_at}
use Rattle.model_assembly.specs.Values.{without_repeats}

-- the property is an attribute, or a reference, of the object's class
pub record IsAttributeIn (s : Source) (o p : ℕ) : Type 0 where
  pub object : o < object_count s
  pub has : Contains (props_or_none s.meta (class_of s o)) p
  pub data_type : is_class_type (type_of s.meta p) ≡ false

pub record IsReferenceIn (s : Source) (o p : ℕ) : Type 0 where
  pub object : o < object_count s
  pub has : Contains (props_or_none s.meta (class_of s o)) p
  pub class_type : is_class_type (type_of s.meta p) ≡ true

-- the values of an object at an attribute, in the order in which they stand in the list
abbrev pub value_at : ℕ → ℕ → WrittenValue → Option Value
value_at o p v = if is_at o p v.object v.property.0 then Some v.value else None

abbrev pub filed_values : List WrittenValue → ℕ → ℕ → List Value
filed_values vs o p = filter_map (value_at o p) vs

-- what an object writes at a reference: the number of the object that is named, and how it is printed
abbrev pub reference_at : ℕ → ℕ → WrittenReference → Option (Option ℕ × List ℕ)
reference_at o p r = if is_at o p r.object r.property.0 then Some (r.target, r.text) else None

abbrev pub filed_references : List WrittenReference → ℕ → ℕ → List (Option ℕ × List ℕ)
filed_references rs o p = filter_map (reference_at o p) rs

abbrev pub reference_of : Source → Target → Option ℕ × List ℕ
reference_of s target = (target_number s target, target_text (id_of s) target)

-- the object writes the reference: it names something there, or it is mentioned
pub data IsSaid (f : Filed) (o p : ℕ) : Type 0 where
  by_target : (r : WrittenReference) → Contains f.references r → is_at o p r.object r.property.0 ≡ true → IsSaid f o p
  by_mention : (m : Mention) → Contains f.mentions m → is_at o p m.object m.property.0 ≡ true → IsSaid f o p

-- the lists are what the elements of a source write
pub record IsFiled (s : Source) (f : Filed) : Type 0 where
  pub ids : f.ids ≡ all_ids s
  pub classes : map (λ c. Some c.0) f.classes ≡ all_classes s
  pub values : (o p : ℕ) → IsAttributeIn s o p → without_repeats (filed_values f.values o p) ≡ written_values s o p
  pub value_place : (v : WrittenValue) → Contains f.values v → IsAttributeIn s v.object v.property.0
  pub references : (o p : ℕ) → IsReferenceIn s o p → filed_references f.references o p ≡ map (reference_of s) (targets_at s o p)
  pub reference_place : (r : WrittenReference) → Contains f.references r → IsReferenceIn s r.object r.property.0
  pub speaking : (o p : ℕ) → IsReferenceIn s o p → (speaks s o p ≡ true) ↔ IsSaid f o p
  pub mention_place : (m : Mention) → Contains f.mentions m → IsReferenceIn s m.object m.property.0
