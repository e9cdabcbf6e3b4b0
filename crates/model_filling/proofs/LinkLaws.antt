-- What a link and an unlink leave: the objects and values, and which pairs.
use Rattle.std.proofs.Common.{◌≡◌, ℕ, ◌<◌, ◌≤◌, [], ◌∷◌, ◌++◌, length, refl, sym, ◌∙◌, ap, subst, arith, Option, Some, None, inl, inr}
use Rattle.mof_metamodel.specs.Metamodels.{props_of, opposite_of}
use Rattle.object_tables.specs.Objects.{Slot}
use Rattle.object_tables.specs.Models.{ModelData, values_at, partners_at, IsLinked, IsReferenceOf, with_slot, with_partner, without_partner}
use Rattle.object_tables.specs.Models.{without_number, at_opposite, linked, unlinked}
use Rattle.object_tables.proofs.SlotLemmas.{slot_at, IsSlotted, object_before, slot_cases, slot_here, linked-with_partner, still-with_partner}
use Rattle.object_tables.proofs.SlotLemmas.{now-with_partner, linked-without_partner}
use Rattle.model_filling.specs.Counterparts.{HasObjectsOf}
use Rattle.model_filling.proofs.CounterpartLaws.{objects_through, objects-with_slot}
use Rattle.model_filling.proofs.MemberLaws.{length-without_number, length-without_member}

-- ---- one slot changed

pub slotted-with_slot : (m : ModelData) (o p : ℕ) (f : Slot → Slot) → IsSlotted m → IsSlotted (with_slot m o p f)
slotted-with_slot m o p f s i object is =
    let (old, was, same) = object_before m o p f i object is in
    same.slots ∙ s i old was ∙ ap (λ c. length (props_of m.meta c)) (sym same.class)

-- an edit of the partners alone leaves the values
pub values-with_slot : (m : ModelData) (o p : ℕ) (f : Slot → Slot) (i q : ℕ) → IsSlotted m → ((s : Slot) → (f s).values ≡ s.values)
    → values_at (with_slot m o p f) i q ≡ values_at m i q
values-with_slot m o p f i q s same = elim (slot_cases m o p f i q s) [
  | inl e ↦ ap (λ z. z.values) e
  | inr (_, _, e) ↦ ap (λ z. z.values) e ∙ same (slot_at m i q)
]

-- an edit of the values alone leaves the partners
pub partners-with_slot : (m : ModelData) (o p : ℕ) (f : Slot → Slot) (i q : ℕ) → IsSlotted m → ((s : Slot) → (f s).partners ≡ s.partners)
    → partners_at (with_slot m o p f) i q ≡ partners_at m i q
partners-with_slot m o p f i q s same = elim (slot_cases m o p f i q s) [
  | inl e ↦ ap (λ z. z.partners) e
  | inr (_, _, e) ↦ ap (λ z. z.partners) e ∙ same (slot_at m i q)
]

pub linked_by : (m : ModelData) (p q a b x y : ℕ) → q ≡ p → x ≡ a → y ≡ b → IsLinked m p a b → IsLinked m q x y
linked_by m p q a b x y ep ea eb h =
    subst (λ (z : ℕ). IsLinked m z x y) (sym ep) (subst (λ (z : ℕ). IsLinked m p z y) (sym ea) (subst (λ (z : ℕ). IsLinked m p a z) (sym eb) h))

-- one partner more, one less
abbrev gaining : ℕ → Slot → Slot
gaining b s = record s { partners = s.partners ++ b ∷ [] }

abbrev losing : ℕ → Slot → Slot
losing b s = record s { partners = without_number b s.partners }

-- ---- a link

objects_by : (m : ModelData) (p a b : ℕ) (o : Option ℕ) → HasObjectsOf (at_opposite with_partner (with_partner m a p b) o b a) m
objects_by m p a b None = objects-with_slot m a p (gaining b)
objects_by m p a b (Some q) =
    objects_through (with_partner (with_partner m a p b) b q a) (with_partner m a p b) m (objects-with_slot (with_partner m a p b) b q (gaining a))
    (objects-with_slot m a p (gaining b))

pub objects-linked : (m : ModelData) (p a b : ℕ) → HasObjectsOf (linked m p a b) m
objects-linked m p a b = objects_by m p a b (opposite_of m.meta p)

values_by : (m : ModelData) (p a b : ℕ) (o : Option ℕ) (i q : ℕ) → IsSlotted m
    → values_at (at_opposite with_partner (with_partner m a p b) o b a) i q ≡ values_at m i q
values_by m p a b None i q s = values-with_slot m a p (gaining b) i q s (λ z. refl)
values_by m p a b (Some r) i q s =
    values-with_slot (with_partner m a p b) b r (gaining a) i q (slotted-with_slot m a p (gaining b) s) (λ z. refl)
    ∙ values-with_slot m a p (gaining b) i q s (λ z. refl)

pub values-linked : (m : ModelData) (p a b i q : ℕ) → IsSlotted m → values_at (linked m p a b) i q ≡ values_at m i q
values-linked m p a b i q s = values_by m p a b (opposite_of m.meta p) i q s

still_by : (m : ModelData) (p a b : ℕ) (o : Option ℕ) (r x y : ℕ) → IsSlotted m → IsLinked m r x y
    → IsLinked (at_opposite with_partner (with_partner m a p b) o b a) r x y
still_by m p a b None r x y s h = still-with_partner m p a b r x y s h
still_by m p a b (Some q) r x y s h =
    still-with_partner (with_partner m a p b) q b a r x y (slotted-with_slot m a p (gaining b) s) (still-with_partner m p a b r x y s h)

-- the pairs before are still there
pub still-linked : (m : ModelData) (p a b r x y : ℕ) → IsSlotted m → IsLinked m r x y → IsLinked (linked m p a b) r x y
still-linked m p a b r x y s h = still_by m p a b (opposite_of m.meta p) r x y s h

now_by : (m : ModelData) (p a b : ℕ) (o : Option ℕ) → IsSlotted m → IsLinked (with_partner m a p b) p a b
    → IsLinked (at_opposite with_partner (with_partner m a p b) o b a) p a b
now_by m p a b None s h = h
now_by m p a b (Some q) s h = still-with_partner (with_partner m a p b) q b a p a b (slotted-with_slot m a p (gaining b) s) h

-- and the new one
pub now-linked : (m : ModelData) (p a b : ℕ) → IsSlotted m → IsReferenceOf m a p → IsLinked (linked m p a b) p a b
now-linked m p a b s r = now_by m p a b (opposite_of m.meta p) s (now-with_partner m p a b r.class s r.class_is r.has)

-- the pairs with a partner more are among those of another model, where those before and the new one are
among_near : (n m : ModelData) (p a b : ℕ) → IsSlotted m → ((r x y : ℕ) → IsLinked m r x y → IsLinked n r x y) → IsLinked n p a b
    → (r x y : ℕ) → IsLinked (with_partner m a p b) r x y → IsLinked n r x y
among_near n m p a b s old new r x y h = elim (linked-with_partner m p a b r x y s h) [
  | inl g ↦ old r x y g
  | inr (er, ex, ey) ↦ linked_by n p r a b x y er ex ey new
]

among_by : (n m : ModelData) (p a b : ℕ) (o : Option ℕ) → IsSlotted m → opposite_of m.meta p ≡ o → ((r x y : ℕ) → IsLinked m r x y → IsLinked n r x y)
    → IsLinked n p a b
    → ((q : ℕ) → opposite_of m.meta p ≡ Some q → IsLinked n q b a)
    → (r x y : ℕ) → IsLinked (at_opposite with_partner (with_partner m a p b) o b a) r x y → IsLinked n r x y
among_by n m p a b None s is old near far = among_near n m p a b s old near
among_by n m p a b (Some q) s is old near far =
    among_near n (with_partner m a p b) q b a (slotted-with_slot m a p (gaining b) s) (among_near n m p a b s old near) (far q is)

pub among-linked : (n m : ModelData) (p a b : ℕ) → IsSlotted m → ((r x y : ℕ) → IsLinked m r x y → IsLinked n r x y) → IsLinked n p a b
    → ((q : ℕ) → opposite_of m.meta p ≡ Some q → IsLinked n q b a) → (r x y : ℕ) → IsLinked (linked m p a b) r x y → IsLinked n r x y
among-linked n m p a b s old near far = among_by n m p a b (opposite_of m.meta p) s refl old near far

-- ---- an unlink

unlinked_objects_by : (m : ModelData) (p a b : ℕ) (o : Option ℕ) → HasObjectsOf (at_opposite without_partner (without_partner m a p b) o b a) m
unlinked_objects_by m p a b None = objects-with_slot m a p (losing b)
unlinked_objects_by m p a b (Some q) =
    objects_through (without_partner (without_partner m a p b) b q a) (without_partner m a p b) m
    (objects-with_slot (without_partner m a p b) b q (losing a)) (objects-with_slot m a p (losing b))

pub objects-unlinked : (m : ModelData) (p a b : ℕ) → HasObjectsOf (unlinked m p a b) m
objects-unlinked m p a b = unlinked_objects_by m p a b (opposite_of m.meta p)

unlinked_values_by : (m : ModelData) (p a b : ℕ) (o : Option ℕ) (i q : ℕ) → IsSlotted m
    → values_at (at_opposite without_partner (without_partner m a p b) o b a) i q ≡ values_at m i q
unlinked_values_by m p a b None i q s = values-with_slot m a p (losing b) i q s (λ z. refl)
unlinked_values_by m p a b (Some r) i q s =
    values-with_slot (without_partner m a p b) b r (losing a) i q (slotted-with_slot m a p (losing b) s) (λ z. refl)
    ∙ values-with_slot m a p (losing b) i q s (λ z. refl)

pub values-unlinked : (m : ModelData) (p a b i q : ℕ) → IsSlotted m → values_at (unlinked m p a b) i q ≡ values_at m i q
values-unlinked m p a b i q s = unlinked_values_by m p a b (opposite_of m.meta p) i q s

before_by : (m : ModelData) (p a b : ℕ) (o : Option ℕ) (r x y : ℕ) → IsSlotted m
    → IsLinked (at_opposite without_partner (without_partner m a p b) o b a) r x y → IsLinked m r x y
before_by m p a b None r x y s h = linked-without_partner m p a b r x y s h
before_by m p a b (Some q) r x y s h =
    linked-without_partner m p a b r x y s (linked-without_partner (without_partner m a p b) q b a r x y (slotted-with_slot m a p (losing b) s) h)

-- the pairs were there before
pub before-unlinked : (m : ModelData) (p a b r x y : ℕ) → IsSlotted m → IsLinked (unlinked m p a b) r x y → IsLinked m r x y
before-unlinked m p a b r x y s h = before_by m p a b (opposite_of m.meta p) r x y s h

-- no slot gets more partners
no_more : (m : ModelData) (o p b i q : ℕ) → IsSlotted m → length (partners_at (without_partner m o p b) i q) ≤ length (partners_at m i q)
no_more m o p b i q s = elim (slot_cases m o p (losing b) i q s) [
  | inl e ↦ (
      let same : length (partners_at (without_partner m o p b) i q) ≡ length (partners_at m i q) = ap (λ z. length z.partners) e in omega arith)
  | inr (_, _, e) ↦ (
      let same : length (partners_at (without_partner m o p b) i q) ≡ length (without_number b (partners_at m i q)) = ap (λ z. length z.partners) e in
      let fewer = length-without_number b (partners_at m i q) in omega arith)
]

fewer_by : (m : ModelData) (p a b : ℕ) (o : Option ℕ) → IsSlotted m → length (partners_at (without_partner m a p b) a p) < length (partners_at m a p)
    → length (partners_at (at_opposite without_partner (without_partner m a p b) o b a) a p) < length (partners_at m a p)
fewer_by m p a b None s h = h
fewer_by m p a b (Some q) s h = let l = no_more (without_partner m a p b) b q a a p (slotted-with_slot m a p (losing b) s) in omega arith

-- there are fewer partners where the pair was
pub fewer-unlinked : (m : ModelData) (p a b : ℕ) → IsSlotted m → IsReferenceOf m a p → IsLinked m p a b
    → length (partners_at (unlinked m p a b) a p) < length (partners_at m a p)
fewer-unlinked m p a b s r pair = fewer_by m p a b (opposite_of m.meta p) s (
    let here : length (partners_at (without_partner m a p b) a p) ≡ length (without_number b (partners_at m a p)) =
    ap (λ z. length z.partners) (slot_here m a p r.class (losing b) s r.class_is r.has) in
    let fewer = length-without_member b (partners_at m a p) pair in omega arith)
