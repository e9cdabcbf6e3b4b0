-- What models with the same objects have in common.
use Rattle.std.proofs.Common.{◌≡◌, ℕ, refl, sym, ◌∙◌, subst, true, false}
use Rattle.std.specs.Prelude.{Contains}
use Rattle.mof_metamodel.specs.declared.desc.MetaDesc.{MetaDesc}
use Rattle.mof_metamodel.specs.Metamodels.{props_of, type_of}
use Rattle.object_tables.specs.Objects.{Slot}
use Rattle.object_tables.specs.Models.{ModelData, IsLive, is_class_type, ConformsTo, IsReferenceOf, IsAttributeOf, IsPartnerFor, with_slot}
use Rattle.object_tables.specs.Models.{with_object_slot}
use Rattle.object_tables.specs.Validity.{IsPropertyOf}
use Rattle.object_tables.proofs.ListLemmas.{length-update_at}
use Rattle.object_tables.proofs.ModelLemmas.{live_from_class, live_class}
use Rattle.object_tables.proofs.SlotLemmas.{class-with_slot, id-with_slot}
use Rattle.model_filling.specs.Counterparts.{HasObjectsOf}

pub objects_same : (m : ModelData) → HasObjectsOf m m
objects_same m = record { meta = refl; count = refl; classes = λ o. refl; identifiers = λ o. refl }

pub objects_back : (m n : ModelData) → HasObjectsOf m n → HasObjectsOf n m
objects_back m n h = record { meta = sym h.meta; count = sym h.count; classes = λ o. sym (h.classes o); identifiers = λ o. sym (h.identifiers o) }

pub objects_through : (m n q : ModelData) → HasObjectsOf m n → HasObjectsOf n q → HasObjectsOf m q
objects_through m n q g h = record {
  meta = g.meta ∙ h.meta;
  count = g.count ∙ h.count;
  classes = λ o. g.classes o ∙ h.classes o;
  identifiers = λ o. g.identifiers o ∙ h.identifiers o;
}

pub objects_between : (m n q : ModelData) → HasObjectsOf m n → HasObjectsOf q n → HasObjectsOf m q
objects_between m n q g h = objects_through m n q g (objects_back q n h)

-- ---- what is one of an object of the one model is one of it in the other

pub live_there : (m n : ModelData) (o : ℕ) → HasObjectsOf m n → IsLive m o → IsLive n o
live_there m n o h live = let (c, is) = live_class m o live in live_from_class n o c (sym (h.classes o) ∙ is)

pub property_there : (m n : ModelData) (o p : ℕ) → HasObjectsOf m n → IsPropertyOf m o p → IsPropertyOf n o p
property_there m n o p h r = record {
  class = r.class;
  class_is = sym (h.classes o) ∙ r.class_is;
  has = subst (λ (d : MetaDesc). Contains (props_of d r.class) p) h.meta r.has;
}

pub reference_there : (m n : ModelData) (o p : ℕ) → HasObjectsOf m n → IsReferenceOf m o p → IsReferenceOf n o p
reference_there m n o p h r = record {
  class = r.class;
  class_is = sym (h.classes o) ∙ r.class_is;
  has = subst (λ (d : MetaDesc). Contains (props_of d r.class) p) h.meta r.has;
  reference = subst (λ (d : MetaDesc). is_class_type (type_of d p) ≡ true) h.meta r.reference;
}

pub attribute_there : (m n : ModelData) (o p : ℕ) → HasObjectsOf m n → IsAttributeOf m o p → IsAttributeOf n o p
attribute_there m n o p h r = record {
  class = r.class;
  class_is = sym (h.classes o) ∙ r.class_is;
  has = subst (λ (d : MetaDesc). Contains (props_of d r.class) p) h.meta r.has;
  attribute = subst (λ (d : MetaDesc). is_class_type (type_of d p) ≡ false) h.meta r.attribute;
}

pub partner_there : (m n : ModelData) (p b : ℕ) → HasObjectsOf m n → IsPartnerFor m p b → IsPartnerFor n p b
partner_there m n p b h r = record {
  class = r.class;
  class_is = sym (h.classes b) ∙ r.class_is;
  conforms = subst (λ (d : MetaDesc). ConformsTo d r.class (type_of d p)) h.meta r.conforms;
}

-- ---- edits that leave the objects

pub objects-with_slot : (m : ModelData) (o p : ℕ) (f : Slot → Slot) → HasObjectsOf (with_slot m o p f) m
objects-with_slot m o p f = record {
  meta = refl;
  count = length-update_at m.objects o (with_object_slot m.meta p f);
  classes = class-with_slot m o p f;
  identifiers = id-with_slot m o p f;
}
