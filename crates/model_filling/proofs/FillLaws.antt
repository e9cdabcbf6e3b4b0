-- How a model comes to hold the values and links of the wanted one.
use Rattle.std.proofs.Common.{◌≡◌, ℕ, ◌<◌, List, length, get_or, map, refl, sym, ◌∙◌, ap, subst, Some, true, inl, inr}
use Rattle.std.specs.Prelude.{Contains}
use Rattle.std.proofs.lemmas.List.{get_or_default}
use Rattle.mof_metamodel.specs.declared.desc.MetaDesc.{MetaDesc}
use Rattle.mof_metamodel.specs.Metamodels.{prop_at, opposite_of}
use Rattle.std.proofs.lemmas.List.Elements.{Contains-get_or}
use Rattle.mof_metamodel.proofs.Facts.{nothing_in, contains_map}
use Rattle.object_tables.specs.declared.value.ObjId.{ObjId}
use Rattle.object_tables.specs.declared.value.Value.{Value}
use Rattle.object_tables.specs.Objects.{Slot}
use Rattle.object_tables.specs.Kept.{Kept}
use Rattle.object_tables.specs.Models.{ModelData, values_at, partners_at, IsLinked, IsReferenceOf, IsAttributeOf, IsPartnerFor, IsSlotOf}
use Rattle.object_tables.specs.Models.{IsContainedIn, IsFree, linked, with_values}
use Rattle.object_tables.proofs.KeptEdits.{kept_linked, kept_with_values}
use Rattle.object_tables.proofs.KeptLemmas.{sound_of, slotted_of, linked_partner}
use Rattle.object_tables.proofs.ListLemmas.{Contains-from_map}
use Rattle.object_tables.proofs.SlotLemmas.{IsSlotted, slot_cases, slot_here}
use Rattle.model_filling.specs.Counterparts.{HasObjectsOf}
use Rattle.model_filling.specs.Unlinked.{HasNoLinks}
use Rattle.model_filling.specs.Filling.{IsPartOf, IsLinkedOnce, IsFilledAt, Fills}
use Rattle.model_filling.proofs.CounterpartLaws.{objects_back, objects_through, reference_there, attribute_there, partner_there, objects-with_slot}
use Rattle.model_filling.proofs.LinkLaws.{partners-with_slot, linked_by, objects-linked, values-linked, still-linked, now-linked, among-linked}

pub slotted_part : (n m : ModelData) → IsPartOf n m → IsSlotted m
slotted_part n m h = slotted_of m (sound_of m h.kept)

-- a model without links is a part
pub part_begin : (n m : ModelData) → Kept n → Kept m → HasObjectsOf m n → HasNoLinks m → IsPartOf n m
part_begin n m whole kept same none = record { whole = whole; kept = kept; objects = same; links = λ p a b h. absurd (none p a b h) }

pub fills_nothing : (n m : ModelData) → IsPartOf n m → Fills n m m
fills_nothing n m h = record { part = h; still = λ o p f. f }

pub fills_through : (n a b c : ModelData) → Fills n a b → Fills n b c → Fills n a c
fills_through n a b c g h = record { part = h.part; still = λ o p f. h.still o p (g.still o p f) }

-- ---- a link of the wanted model

wanted_opposite : (n m : ModelData) (p q a b : ℕ) → IsPartOf n m → IsLinked n p a b → opposite_of m.meta p ≡ Some q → IsLinked n q b a
wanted_opposite n m p q a b h pair e = (h.whole.opposites p q a b (ap (λ d. opposite_of d p) (sym h.objects.meta) ∙ e)).0 pair

contained_there : (n m : ModelData) (o a p : ℕ) → IsPartOf n m → (prop_at m.meta p).composite ≡ true → IsLinked n p a o → IsContainedIn n o a p
contained_there n m o a p h whole pair = record { composite = ap (λ d. (prop_at d p).composite) (sym h.objects.meta) ∙ whole; linked = pair }

-- it may be made: a container that its part had would be one in the wanted model, and so the same
pub free_to_link : (n m : ModelData) (p a b : ℕ) → IsPartOf n m → IsLinked n p a b → (IsLinked m p a b → ⊥) → IsFree m p a b
free_to_link n m p a b h pair new = record {
  part = λ whole x r c. (
      let (ex, er) = h.whole.containers b x a r p (contained_there n m b x r h c.composite (h.links r x b c.linked))
      (contained_there n m b a p h whole pair) in
      new (linked_by m r p x b a b (sym er) (sym ex) refl c.linked));
  whole = λ q e whole x r c. (
      let back = wanted_opposite n m p q a b h pair e in
      let (ex, er) = h.whole.containers a x b r q (contained_there n m a x r h c.composite (h.links r x a c.linked))
      (contained_there n m a b q h whole back) in
      new ((h.kept.opposites p q a b e).1 (linked_by m r q x a b a (sym er) (sym ex) refl c.linked)));
}

pub wanted_partner : (n m : ModelData) (p a b : ℕ) → IsPartOf n m → IsLinked n p a b → IsPartnerFor m p b
wanted_partner n m p a b h pair = partner_there n m p b (objects_back m n h.objects) (linked_partner n p a b (sound_of n h.whole) pair)

pub linked_fills : (n m : ModelData) (p a b : ℕ) → IsPartOf n m → IsReferenceOf m a p → IsLinked n p a b → (IsLinked m p a b → ⊥)
    → Fills n m (linked m p a b)
linked_fills n m p a b h r pair new = record {
  part = record {
    whole = h.whole;
    kept = kept_linked m p a b h.kept r (wanted_partner n m p a b h pair) new (free_to_link n m p a b h pair new);
    objects = objects_through (linked m p a b) m n (objects-linked m p a b) h.objects;
    links = among-linked n m p a b slotted h.links pair (λ q e. wanted_opposite n m p q a b h pair e);
  };
  still = λ o q f. record {
    values = values-linked m p a b o q slotted ∙ f.values;
    links = λ c l. still-linked m p a b q o c slotted (f.links c l);
  };
}
  where
    slotted : IsSlotted m
    slotted = slotted_part n m h

-- ---- values of the wanted model

pub wanted_values : (n m : ModelData) (o p : ℕ) (values : List Value) → IsPartOf n m → IsAttributeOf m o p → values ≡ values_at n o p
    → IsSlotOf m.meta p values
wanted_values n m o p values h a e =
    subst (λ (d : MetaDesc). IsSlotOf d p values) (sym h.objects.meta)
    (subst (IsSlotOf n.meta p) (sym e) (h.whole.attributes o p (attribute_there m n o p h.objects a)).values)

pub values_fill : (n m : ModelData) (o p : ℕ) (values : List Value) → IsPartOf n m → IsAttributeOf m o p → values ≡ values_at n o p
    → Fills n m (with_values m o p values)
values_fill n m o p values h a e = record {
  part = record {
    whole = h.whole;
    kept = kept_with_values m o p values h.kept a (wanted_values n m o p values h a e);
    objects = objects_through new m n (objects-with_slot m o p f) h.objects;
    links = λ r x y l. h.links r x y (subst (λ (ys : List ℕ). Contains ys y) (partners-with_slot m o p f x r slotted (λ s. refl)) l);
  };
  still = λ i q g. record {
    values = elim (slot_cases m o p f i q slotted) [
      | inl same ↦ ap (λ s. s.values) same ∙ g.values
      | inr (ei, eq, same) ↦ ap (λ s. s.values) same ∙ e ∙ ap (λ z. values_at n z p) (sym ei) ∙ ap (values_at n i) (sym eq)
    ];
    links = λ c l. subst (λ (ys : List ℕ). Contains ys c) (sym (partners-with_slot m o p f i q slotted (λ s. refl))) (g.links c l);
  };
}
  where
    f : Slot → Slot
    f s = record s { values = values }

    new : ModelData
    new = with_values m o p values

    slotted : IsSlotted m
    slotted = slotted_part n m h

pub values_filled : (n m : ModelData) (o p : ℕ) (values : List Value) → IsPartOf n m → IsAttributeOf m o p → values ≡ values_at n o p
    → IsFilledAt n (with_values m o p values) o p
values_filled n m o p values h a e = record {
  values = ap (λ s. s.values) (slot_here m o p a.class (λ s. record s { values = values }) (slotted_part n m h) a.class_is a.has) ∙ e;
  links = λ b l.
      absurd (nothing_in b (subst (λ (ys : List ℕ). Contains ys b) (h.whole.attributes o p (attribute_there m n o p h.objects a)).partners l));
}

-- ---- partners of the wanted model

-- what has the items of a list of the partners lists them
pub listed : (n : ModelData) (o p : ℕ) (items partners : List ObjId) → items ≡ partners → map (λ b. b.0) partners ≡ partners_at n o p
    → map (λ b. b.0) items ≡ partners_at n o p
listed n o p items partners same e = ap (map (λ b. b.0)) same ∙ e

-- what is listed is a link of the wanted model
pub listed_wanted : (n : ModelData) (o p k : ℕ) (os : List ObjId) (d : ObjId) → map (λ b. b.0) os ≡ partners_at n o p → k < length os
    → IsLinked n p o (get_or os k d).0
listed_wanted n o p k os d e l =
    subst (λ (ys : List ℕ). Contains ys (get_or os k d).0) e
    (contains_map (λ b. b.0) os (get_or os k d) (Contains-get_or os k d l))

-- where each that is listed is a partner, the reference is filled
pub listed_filled : (n m : ModelData) (o p : ℕ) (os : List ObjId) (d : ObjId) → IsPartOf n m → IsReferenceOf m o p
    → map (λ b. b.0) os ≡ partners_at n o p
    → ((k : ℕ) → k < length os → IsLinked m p o (get_or os k d).0) → IsFilledAt n m o p
listed_filled n m o p os d h r e all = record {
  values = (h.kept.references o p r).values ∙ sym (h.whole.references o p (reference_there m n o p h.objects r)).values;
  links = λ b l. (
      let (x, (k, within, is), eb) = Contains-from_map (λ b. b.0) os b (subst (λ (ys : List ℕ). Contains ys b) (sym e) l) in
      let there : (get_or os k d).0 ≡ b = ap (λ (z : ObjId). z.0) (get_or_default os k d x within ∙ is) ∙ eb in
      subst (λ (z : ℕ). IsLinked m p o z) there (all k within));
}

-- ---- a pair that was there, or is made

pub once_fills : (n m new : ModelData) (p a b : ℕ) → IsPartOf n m → IsReferenceOf m a p → IsLinked n p a b → IsLinkedOnce m p a b new → Fills n m new
once_fills n m new p a b h r pair (inl (there, same)) = subst (Fills n m) (sym same) (fills_nothing n m h)
once_fills n m new p a b h r pair (inr (absent, made)) = subst (Fills n m) (sym made) (linked_fills n m p a b h r pair absent)

pub once_linked : (n m new : ModelData) (p a b : ℕ) → IsPartOf n m → IsReferenceOf m a p → IsLinkedOnce m p a b new → IsLinked new p a b
once_linked n m new p a b h r (inl (there, same)) = subst (λ (z : ModelData). IsLinked z p a b) (sym same) there
once_linked n m new p a b h r (inr (absent, made)) =
    subst (λ (z : ModelData). IsLinked z p a b) (sym made) (now-linked m p a b (slotted_part n m h) r)

-- the other pairs are still there
pub still_linked : (m new : ModelData) (p a b : ℕ) → IsLinkedOnce m p a b new → IsSlotted m → (c : ℕ) → IsLinked m p a c → IsLinked new p a c
still_linked m new p a b (inl (there, same)) s c l = subst (λ (z : ModelData). IsLinked z p a c) (sym same) l
still_linked m new p a b (inr (absent, made)) s c l = subst (λ (z : ModelData). IsLinked z p a c) (sym made) (still-linked m p a b p a c s l)
