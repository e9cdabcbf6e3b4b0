-- What is known of lists that some source writes in which no fault stands at a place.
use Rattle.std.proofs.Common.{◌≡◌, ℕ, ◌<◌, ◌≤◌, false, length, sym, ◌∙◌, subst}
use Rattle.std.specs.Prelude.{All, Contains}
use Rattle.std.proofs.lemmas.List.Elements.{All-weaker, All-contains_itself}
use Rattle.mof_metamodel.specs.declared.desc.MetaDesc.{MetaDesc}
use Rattle.mof_metamodel.specs.declared.desc.ClassId.{ClassId}
use Rattle.object_tables.specs.declared.limit.TheConstants.{MAX_OBJECTS}
use Rattle.mof_metamodel.specs.Metamodels.{class_count, class_at, props_of}
use Rattle.object_tables.specs.Models.{IsAttributeOf}
use Rattle.model_assembly.specs.declared.filed.Filed.{Filed}
use Rattle.model_assembly.specs.declared.filed.WrittenReference.{WrittenReference}
use Rattle.model_assembly.specs.declared.filed.WrittenValue.{WrittenValue}
use Rattle.model_assembly.specs.Assembled.{IsWhole}
use Rattle.model_assembly.specs.AssemblyEntries.{class_in, IsReferenceAt}
use Rattle.model_assembly.specs.AssemblyObjects.{AreObjects, bare_model}
use Rattle.model_assembly.specs.AssemblyReferences.{MayBeAssembled}
use Rattle.model_assembly.specs.AssemblyValues.{AreValuesOf}
use Rattle.model_assembly.specs.Filed.{IsFiled, IsAttributeIn}
use Rattle.model_assembly.specs.SoundFiled.{HasInstances, IsSoundFiled}
use Rattle.model_assembly.specs.Source.{Source, class_of}
use Rattle.std.proofs.lemmas.Option.{same_Some}
use Rattle.model_assembly.proofs.assembling.SpotLaws.{class_known, class_counted, has_class, places_listed}
use Rattle.model_assembly.proofs.assembling.StartLaws.{class_of_bare}

objects_sound : (meta : MetaDesc) (f : Filed) → IsSoundFiled meta f → length f.ids ≤ MAX_OBJECTS → AreObjects meta f.classes f.ids
objects_sound meta f h few = record {
  same = h.same;
  few = few;
  within = All-weaker (HasInstances meta) (λ (c : ClassId). c.0 < class_count meta) (λ c g. g.0) f.classes h.classes;
  concrete = All-weaker (HasInstances meta) (λ (c : ClassId). (class_at meta c.0).is_abstract ≡ false) (λ c g. g.1) f.classes h.classes;
  identifiers = h.identifiers;
  distinct = h.distinct;
}

pub may_be_assembled : (meta : MetaDesc) (f : Filed) → IsWhole meta f → MayBeAssembled meta f
may_be_assembled meta f h = record {
  objects = objects_sound meta f h.sound h.few;
  references = subst (λ d. All (λ (r : WrittenReference). IsReferenceAt d f.classes r.object r.property.0) f.references) h.writes.meta (places_listed h.source f h.writes.filed);
}

-- an attribute of an object's class, said by the source and of the object without values
attribute_of_bare : (s : Source) (f : Filed) → IsFiled s f → length f.classes ≡ length f.ids → (o p : ℕ) → IsAttributeIn s o p → IsAttributeOf (bare_model s.meta f.classes f.ids) o p
attribute_of_bare s f h n o p r =
    let k = has_class s.meta (class_of s o) p r.has in
    let l = class_counted s f h o k.0 k.1 in
    let same : k.0 ≡ (class_in f.classes o).0 = same_Some k.0 (class_in f.classes o).0 (sym k.1 ∙ class_known s f h o l) in
    record {
      class = (class_in f.classes o).0;
      class_is = class_of_bare s.meta f.classes f.ids o n l;
      has = subst (λ c. Contains (props_of s.meta c) p) same k.2;
      attribute = r.data_type;
    }

pub are_values : (meta : MetaDesc) (f : Filed) → IsWhole meta f → AreValuesOf (bare_model meta f.classes f.ids) f.values
are_values meta f h = record {
  attributes = subst (λ d. All (λ (v : WrittenValue). IsAttributeOf (bare_model d f.classes f.ids) v.object v.property.0) f.values) h.writes.meta
      (All-weaker (Contains f.values) (λ (v : WrittenValue). IsAttributeOf (bare_model h.source.meta f.classes f.ids) v.object v.property.0)
      (λ v c. attribute_of_bare h.source f h.writes.filed h.sound.same v.object v.property.0 (h.writes.filed.value_place v c)) f.values (All-contains_itself f.values));
  typed = h.sound.typed;
}
