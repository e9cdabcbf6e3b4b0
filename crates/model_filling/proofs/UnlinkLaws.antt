-- A model without its links, and how a model comes to it.
use Rattle.std.proofs.Common.{◌≡◌, ◌≢◌, ℕ, zero, suc, List, [], ◌∷◌, get_or, map, refl, sym, ◌∙◌, ap, subst, arith, Option, Some, None}
use Rattle.std.specs.Prelude.{AllPairs, Contains, option_map}
use Rattle.std.proofs.lemmas.List.{length-map}
use Rattle.mof_metamodel.specs.declared.desc.MetaDesc.{MetaDesc}
use Rattle.mof_metamodel.proofs.Facts.{nothing_in}
use Rattle.object_tables.specs.Objects.{Object}
use Rattle.object_tables.specs.Kept.{Kept, IsWellObject}
use Rattle.object_tables.specs.Models.{ModelData, object_at, no_slot, slot_in, slot_number, values_at, partners_at, IsReferenceOf}
use Rattle.object_tables.specs.Models.{IsSlotOf, unlinked}
use Rattle.object_tables.proofs.EqualLaws.{models_equal}
use Rattle.object_tables.proofs.KeptEdits.{kept_unlinked}
use Rattle.object_tables.proofs.KeptLemmas.{sound_of, slotted_of}
use Rattle.object_tables.proofs.SlotLemmas.{slot_at, IsSlotted}
use Rattle.model_filling.specs.Counterparts.{HasObjectsOf}
use Rattle.model_filling.specs.Unlinked.{slot_without_links, object_without_links, without_links, HasNoLinks, Loses}
use Rattle.model_filling.proofs.CounterpartLaws.{objects_same, objects_through, objects_between, reference_there, attribute_there}
use Rattle.model_filling.proofs.LinkLaws.{objects-unlinked, values-unlinked, before-unlinked}
use Rattle.model_filling.proofs.MemberLaws.{empty_from}

-- ---- what is left at each number

mapped_at : {X Y : Type 0} (f : X → Y) (xs : List X) (k : ℕ) (d : X) → get_or (map f xs) k (f d) ≡ f (get_or xs k d)
mapped_at f [] k d = refl
mapped_at f (x ∷ xs) zero d = refl
mapped_at f (x ∷ xs) (suc k) d = mapped_at f xs k d

object_left : (m : ModelData) (o : ℕ) → object_at (without_links m) o ≡ object_without_links (object_at m o)
object_left m o = mapped_at object_without_links m.objects o None

class_left : (x : Option Object) → option_map (λ ob. ob.class) (object_without_links x) ≡ option_map (λ ob. ob.class) x
class_left None = refl
class_left (Some object) = refl

id_left : (x : Option Object) → option_map (λ ob. ob.id) (object_without_links x) ≡ option_map (λ ob. ob.id) x
id_left None = refl
id_left (Some object) = refl

slot_left : (meta : MetaDesc) (p : ℕ) (x : Option Object) → slot_in meta p (object_without_links x) ≡ slot_without_links (slot_in meta p x)
slot_left meta p None = refl
slot_left meta p (Some object) = mapped_at slot_without_links object.slots (slot_number meta object.class p) no_slot

slot-without_links : (m : ModelData) (o p : ℕ) → slot_at (without_links m) o p ≡ slot_without_links (slot_at m o p)
slot-without_links m o p = ap (slot_in m.meta p) (object_left m o) ∙ slot_left m.meta p (object_at m o)

pub values-without_links : (m : ModelData) (o p : ℕ) → values_at (without_links m) o p ≡ values_at m o p
values-without_links m o p = ap (λ s. s.values) (slot-without_links m o p)

pub partners-without_links : (m : ModelData) (o p : ℕ) → partners_at (without_links m) o p ≡ []
partners-without_links m o p = ap (λ s. s.partners) (slot-without_links m o p)

-- the objects are the same
pub objects-without_links : (m : ModelData) → HasObjectsOf (without_links m) m
objects-without_links m = record {
  meta = refl;
  count = length-map m.objects object_without_links;
  classes = λ o. ap (option_map (λ ob. ob.class)) (object_left m o) ∙ class_left (object_at m o);
  identifiers = λ o. ap (option_map (λ ob. ob.id)) (object_left m o) ∙ id_left (object_at m o);
}

-- no link is left
pub none_linked : (m : ModelData) → HasNoLinks (without_links m)
none_linked m p a b h = nothing_in b (subst (λ (xs : List ℕ). Contains xs b) (partners-without_links m a p) h)

-- ---- what is kept

object_well : (meta : MetaDesc) (x : Option Object) (new : Object) → ((old : Object) → x ≡ Some old → IsWellObject meta old)
    → object_without_links x ≡ Some new → IsWellObject meta new
object_well meta None new h e = absurd cc
object_well meta (Some old) new h e =
    subst (IsWellObject meta) same
    (record { class = w.class; concrete = w.concrete; identifier = w.identifier; slots = length-map old.slots slot_without_links ∙ w.slots })
  where
    w : IsWellObject meta old
    w = h old refl

    same : record old { slots = map slot_without_links old.slots } ≡ new
    same = cc

pub kept_without_links : (m : ModelData) → Kept m → Kept (without_links m)
kept_without_links m k = record {
  well = k.well;
  objects = λ o new e. object_well m.meta (object_at m o) new (k.objects o) (sym (object_left m o) ∙ e);
  identifiers = λ a b id ea eb. k.identifiers a b id (sym (same.identifiers a) ∙ ea) (sym (same.identifiers b) ∙ eb);
  attributes = λ o p a. record {
    values = subst (IsSlotOf m.meta p) (sym (values-without_links m o p)) (k.attributes o p (attribute_there (without_links m) m o p same a)).values;
    partners = partners-without_links m o p;
  };
  references = λ o p r. record {
    values = values-without_links m o p ∙ (k.references o p (reference_there (without_links m) m o p same r)).values;
    partners = λ b h. absurd (none_linked m p o b h);
    distinct = subst (AllPairs (λ x y. x ≢ y)) (sym (partners-without_links m o p)) (λ i j d l h. absurd (omega (arith, l)));
  };
  opposites = λ p q a b e. ((λ h. absurd (none_linked m p a b h)), (λ h. absurd (none_linked m q b a h)));
  containers = λ o a b p q g h. absurd (none_linked m p a o g.linked);
}
  where
    same : HasObjectsOf (without_links m) m
    same = objects-without_links m

-- ---- how a model loses links

pub loses_nothing : (m : ModelData) → Kept m → Loses m m
loses_nothing m k = record { kept = k; objects = objects_same m; values = λ o p. refl; links = λ p a b h. h }

pub loses_through : (m n q : ModelData) → Loses m n → Loses n q → Loses m q
loses_through m n q g h = record {
  kept = h.kept;
  objects = objects_through q n m h.objects g.objects;
  values = λ o p. h.values o p ∙ g.values o p;
  links = λ p a b l. g.links p a b (h.links p a b l);
}

pub loses_one : (m : ModelData) (p a b : ℕ) → Kept m → Loses m (unlinked m p a b)
loses_one m p a b k = record {
  kept = kept_unlinked m p a b k;
  objects = objects-unlinked m p a b;
  values = λ o q. values-unlinked m p a b o q slotted;
  links = λ r x y h. before-unlinked m p a b r x y slotted h;
}
  where
    slotted : IsSlotted m
    slotted = slotted_of m (sound_of m k)

-- where there was no partner, there is none
pub still_none : (m n : ModelData) (o p : ℕ) → Loses m n → partners_at m o p ≡ [] → partners_at n o p ≡ []
still_none m n o p h none = empty_from (partners_at n o p) (λ b l. nothing_in b (subst (λ (xs : List ℕ). Contains xs b) none (h.links p o b l)))

-- a model that has lost all links is the one without links
pub all_lost : (m n : ModelData) → Kept m → Loses m n → ((o p : ℕ) → IsReferenceOf m o p → partners_at n o p ≡ []) → n ≡ without_links m
all_lost m n k h none = models_equal u n (record {
  meta = h.objects.meta;
  count = through.count;
  classes = through.classes;
  identifiers = through.identifiers;
  values = λ o p a. h.values o p ∙ sym (values-without_links m o p);
  partners = λ o p r. none o p (reference_there u m o p (objects-without_links m) r) ∙ sym (partners-without_links m o p);
}) (kept_without_links m k) h.kept
  where
    u : ModelData
    u = without_links m

    through : HasObjectsOf n u
    through = objects_between n m u h.objects (objects-without_links m)
