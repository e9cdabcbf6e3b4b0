-- What holds at each property of an object's class, or of all objects.
use Rattle.std.proofs.Common.{◌≡◌, ℕ, ◌<◌, Bool, true, false, List, length, get_or, refl, sym, ◌∙◌, ap, subst, arith, Some}
use Rattle.std.specs.Prelude.{Contains}
use Rattle.std.proofs.lemmas.List.{get_or-map, length-map}
use Rattle.std.proofs.lemmas.List.Elements.{Contains-get_or}
use Rattle.mof_metamodel.proofs.Facts.{contains_map}
use Rattle.mof_metamodel.specs.declared.desc.MetaDesc.{MetaDesc}
use Rattle.mof_metamodel.specs.declared.desc.PropId.{PropId}
use Rattle.mof_metamodel.specs.Metamodels.{props_of, type_of}
use Rattle.mof_metamodel.specs.Tables.{prop_numbers}
use Rattle.object_tables.specs.Models.{ModelData, IsLive, class_at, is_class_type, IsReferenceOf, IsAttributeOf}
use Rattle.object_tables.specs.Validity.{IsPropertyOf}
use Rattle.object_tables.proofs.ContainmentLemmas.{live-below}
use Rattle.object_tables.proofs.ModelLemmas.{live_from_class, same_class}

pub property_of_reference : (m : ModelData) (o p : ℕ) → IsReferenceOf m o p → IsPropertyOf m o p
property_of_reference m o p r = record { class = r.class; class_is = r.class_is; has = r.has }

pub property_of_attribute : (m : ModelData) (o p : ℕ) → IsAttributeOf m o p → IsPropertyOf m o p
property_of_attribute m o p a = record { class = a.class; class_is = a.class_is; has = a.has }

-- a property that is no attribute is a reference
pub reference_otherwise : (m : ModelData) (o p : ℕ) → IsPropertyOf m o p → (IsAttributeOf m o p → ⊥) → IsReferenceOf m o p
reference_otherwise m o p property other = by (is_class_type (type_of m.meta p)) refl
  where
    by : (t : Bool) → is_class_type (type_of m.meta p) ≡ t → IsReferenceOf m o p
    by true e = record { class = property.class; class_is = property.class_is; has = property.has; reference = e }
    by false e = absurd (other (record { class = property.class; class_is = property.class_is; has = property.has; attribute = e }))

-- an object that has a property is live
pub live_by_property : (m : ModelData) (o p : ℕ) → IsPropertyOf m o p → IsLive m o
live_by_property m o p property = live_from_class m o property.class property.class_is

-- the properties of a class, by a description that is the same
pub by_description : (d e : MetaDesc) (c : ℕ) (props : List PropId) → prop_numbers props ≡ props_of d c → d ≡ e → prop_numbers props ≡ props_of e c
by_description d e c props numbers same = numbers ∙ ap (λ z. props_of z c) same

-- the property at a place of a class
abbrev pub prop_in : List PropId → ℕ → ℕ
prop_in props k = (get_or props k (record { 0 = 0 })).0

-- the property stands at a place of the class
pub place_of : (m : ModelData) (o c : ℕ) (props : List PropId) (p : ℕ) → class_at m o ≡ Some c → prop_numbers props ≡ props_of m.meta c
    → IsPropertyOf m o p
    → (k : ℕ) × (k < length props) × (prop_in props k ≡ p)
place_of m o c props p is e property =
    let same : props_of m.meta property.class ≡ prop_numbers props =
    ap (props_of m.meta) (same_class m o property.class c property.class_is is) ∙ sym e in
    let (k, l, g) = subst (λ xs. Contains xs p) same property.has in
    let len = length-map props (λ x. x.0) in
    let within : k < length props = omega arith in
    (k, within, sym (get_or-map (λ x. x.0) props k (record { 0 = 0 }) p within) ∙ g)

-- what holds at each place of the class holds at each property of the object
pub each_property : (m : ModelData) (o c : ℕ) (props : List PropId) (P : ℕ → Type 0) → class_at m o ≡ Some c → prop_numbers props ≡ props_of m.meta c
    → ((k : ℕ) → k < length props → P (prop_in props k)) → (p : ℕ) → IsPropertyOf m o p → P p
each_property m o c props P is e each p property = let (k, l, same) = place_of m o c props p is e property in subst P same (each k l)

-- and what stands at a place is a property of the object
pub placed_property : (m : ModelData) (o c k : ℕ) (props : List PropId) → class_at m o ≡ Some c → prop_numbers props ≡ props_of m.meta c
    → k < length props
    → IsPropertyOf m o (prop_in props k)
placed_property m o c k props is e l = record {
  class = c;
  class_is = is;
  has = subst (λ xs. Contains xs (prop_in props k)) e
      (contains_map (λ x. x.0) props (get_or props k (record { 0 = 0 })) (Contains-get_or props k (record { 0 = 0 }) l));
}

-- an object that has a property is below the end
pub object_below : (m : ModelData) (o p : ℕ) → IsPropertyOf m o p → o < length m.objects
object_below m o p property = live-below m o (live_by_property m o p property)
