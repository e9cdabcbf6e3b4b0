-- What every model keeps, in two parts: what is said of each object by itself, and what is said of links.
use Rattle.std.proofs.Common.{◌≡◌, ◌≢◌, ℕ, ◌<◌, ◌⊎◌, List, [], length, refl, ap, sym, ◌∙◌, arith, subst, Some, Bool, true, false, inl, inr}
use Rattle.std.specs.Prelude.{Contains, AllPairs, ◌↔◌, IsTrue}
use Rattle.mof_metamodel.specs.Characters.{is_identifier_text}
use Rattle.mof_metamodel.specs.Metamodels.{class_count, class_at as meta_class, props_of, prop_at, type_of, opposite_of}
use Rattle.mof_metamodel.specs.WellMeta.{WellMeta}
use Rattle.object_tables.specs.Objects.{Object, Slot}
use Rattle.object_tables.specs.Models.{ModelData, object_at, class_at, id_at, is_class_type, IsLinked, IsReferenceOf, IsAttributeOf, IsPartnerFor, IsSlotOf, IsContainedIn, IsTop, with_slot}
use Rattle.object_tables.specs.Kept.{Kept, IsWellObject, IsWellAttribute, IsWellReference}
use Rattle.object_tables.proofs.InheritLemmas.{pair_of_opposites}
use Rattle.object_tables.proofs.SlotLemmas.{slot_at, IsSlotted, class-with_slot, id-with_slot, object_before, slot_cases, linked_at}

-- what is said of each object by itself
pub record IsSound (m : ModelData) : Type 0 where
  pub well : WellMeta m.meta
  pub objects : (o : ℕ) (object : Object) → object_at m o ≡ Some object → IsWellObject m.meta object
  pub identifiers : (a b : ℕ) (id : List ℕ) → id_at m a ≡ Some id → id_at m b ≡ Some id → a ≡ b
  pub attributes : (o p : ℕ) → IsAttributeOf m o p → IsWellAttribute m o p
  pub references : (o p : ℕ) → IsReferenceOf m o p → IsWellReference m o p

pub sound_of : (m : ModelData) → Kept m → IsSound m
sound_of m k = record { well = k.well; objects = k.objects; identifiers = k.identifiers; attributes = k.attributes; references = k.references }

pub slotted_of : (m : ModelData) → IsSound m → IsSlotted m
slotted_of m s o object h = (s.objects o object h).slots

-- ---- links

-- a link is one of a reference of a live object's class, to a partner for it
pub linked_reference : (m : ModelData) (p a b : ℕ) → IsSound m → IsLinked m p a b → IsReferenceOf m a p
linked_reference m p a b s h =
    let (c, hc, hp) = linked_at m p a b (slotted_of m s) h in
    by_kind c hc hp (is_class_type (type_of m.meta p)) refl
  where
    by_kind : (c : ℕ) → class_at m a ≡ Some c → Contains (props_of m.meta c) p → (t : Bool) → is_class_type (type_of m.meta p) ≡ t → IsReferenceOf m a p
    by_kind c hc hp true e = record { class = c; class_is = hc; has = hp; reference = e }
    by_kind c hc hp false e =
        let none = (s.attributes a p (record { class = c; class_is = hc; has = hp; attribute = e })).partners in
        let (k, l, g) = subst (λ (xs : List ℕ). Contains xs b) none h in absurd (omega arith)

pub linked_partner : (m : ModelData) (p a b : ℕ) → IsSound m → IsLinked m p a b → IsPartnerFor m p b
linked_partner m p a b s h = (s.references a p (linked_reference m p a b s h)).partners b h

-- the two ways of an opposite pair are one
pub both_ways : (m : ModelData) → WellMeta m.meta → ((p q a b : ℕ) → opposite_of m.meta p ≡ Some q → IsLinked m p a b → IsLinked m q b a)
    → (p q a b : ℕ) → opposite_of m.meta p ≡ Some q → IsLinked m p a b ↔ IsLinked m q b a
both_ways m w h p q a b e = (h p q a b e, h q p b a (pair_of_opposites m.meta p q w e).back)

-- the links are old ones, or new ones that contain what was top
pub one_container : (m new : ModelData) (New : ℕ → ℕ → ℕ → Type 0) → Kept m → new.meta ≡ m.meta
    → ((p a b : ℕ) → IsLinked new p a b → IsLinked m p a b ⊎ New p a b)
    → ((p a b : ℕ) → New p a b → (prop_at m.meta p).composite ≡ true → IsTop m b)
    → ((p q a b c : ℕ) → New p a c → New q b c → (prop_at m.meta p).composite ≡ true → (prop_at m.meta q).composite ≡ true → (a ≡ b) × (p ≡ q))
    → (o a b p q : ℕ) → IsContainedIn new o a p → IsContainedIn new o b q → (a ≡ b) × (p ≡ q)
one_container m new New k em cases top one o a b p q g h =
    let cp : (prop_at m.meta p).composite ≡ true = ap (λ d. (prop_at d p).composite) (sym em) ∙ g.composite in
    let cq : (prop_at m.meta q).composite ≡ true = ap (λ d. (prop_at d q).composite) (sym em) ∙ h.composite in
    elim (cases p a o g.linked) [
      | inl g' ↦ elim (cases q b o h.linked) [
        | inl h' ↦ k.containers o a b p q (record { composite = cp; linked = g' }) (record { composite = cq; linked = h' })
        | inr h' ↦ absurd (top q b o h' cq a p (record { composite = cp; linked = g' }))
      ]
      | inr g' ↦ elim (cases q b o h.linked) [
        | inl h' ↦ absurd (top p a o g' cp b q (record { composite = cq; linked = h' }))
        | inr h' ↦ one p q a b o g' h' cp cq
      ]
    ]

-- the links are among the old ones
pub no_more_containers : (m new : ModelData) → Kept m → new.meta ≡ m.meta → ((p a b : ℕ) → IsLinked new p a b → IsLinked m p a b)
    → (o a b p q : ℕ) → IsContainedIn new o a p → IsContainedIn new o b q → (a ≡ b) × (p ≡ q)
no_more_containers m new k em old = one_container m new (λ _ _ _. ⊥) k em (λ p a b h. inl (old p a b h)) (λ p a b h c. absurd h) (λ p q a b c g h cp cq. absurd g)

-- ---- one slot changed

-- what is asked of a changed slot
pub record IsGoodSlot (m : ModelData) (o p : ℕ) (slot : Slot) : Type 0 where
  pub attribute : IsAttributeOf m o p → IsSlotOf m.meta p slot.values × (slot.partners ≡ [])
  pub no_values : IsReferenceOf m o p → slot.values ≡ []
  pub partners : IsReferenceOf m o p → (b : ℕ) → Contains slot.partners b → IsPartnerFor m p b
  pub distinct : IsReferenceOf m o p → AllPairs (λ x y. x ≢ y) slot.partners

reference_before : (m : ModelData) (o p : ℕ) (f : Slot → Slot) (i q : ℕ) → IsReferenceOf (with_slot m o p f) i q → IsReferenceOf m i q
reference_before m o p f i q r = record { class = r.class; class_is = sym (class-with_slot m o p f i) ∙ r.class_is; has = r.has; reference = r.reference }

attribute_before : (m : ModelData) (o p : ℕ) (f : Slot → Slot) (i q : ℕ) → IsAttributeOf (with_slot m o p f) i q → IsAttributeOf m i q
attribute_before m o p f i q r = record { class = r.class; class_is = sym (class-with_slot m o p f i) ∙ r.class_is; has = r.has; attribute = r.attribute }

partner_after : (m : ModelData) (o p : ℕ) (f : Slot → Slot) (q b : ℕ) → IsPartnerFor m q b → IsPartnerFor (with_slot m o p f) q b
partner_after m o p f q b r = record { class = r.class; class_is = class-with_slot m o p f b ∙ r.class_is; conforms = r.conforms }

pub sound-with_slot : (m : ModelData) (o p : ℕ) (f : Slot → Slot) → IsSound m → IsGoodSlot m o p (f (slot_at m o p)) → IsSound (with_slot m o p f)
sound-with_slot m o p f s good =
    let new : ModelData = with_slot m o p f in
    let here : (i q : ℕ) → i ≡ o → q ≡ p → IsGoodSlot m i q (f (slot_at m i q)) =
    (λ i q ei eq. subst (λ (z : ℕ). IsGoodSlot m z q (f (slot_at m z q))) (sym ei) (subst (λ (z : ℕ). IsGoodSlot m o z (f (slot_at m o z))) (sym eq) good)) in
    record {
      well = s.well;
      objects = λ i ob h. (let (old, eo, same) = object_before m o p f i ob h in
          let w = s.objects i old eo in
          record {
            class = subst (λ (c : ℕ). c < class_count m.meta) (sym same.class) w.class;
            concrete = ap (λ c. (meta_class m.meta c).is_abstract) same.class ∙ w.concrete;
            identifier = subst (λ (x : List ℕ). IsTrue (is_identifier_text x)) (sym same.id) w.identifier;
            slots = same.slots ∙ w.slots ∙ ap (λ c. length (props_of m.meta c)) (sym same.class);
          });
      identifiers = λ a b id ha hb. s.identifiers a b id (sym (id-with_slot m o p f a) ∙ ha) (sym (id-with_slot m o p f b) ∙ hb);
      attributes = λ i q r. (let r' = attribute_before m o p f i q r in
          elim (slot_cases m o p f i q (slotted_of m s)) [
            | inl e ↦ (let w = s.attributes i q r' in
                record { values = subst (λ (z : Slot). IsSlotOf m.meta q z.values) (sym e) w.values; partners = ap (λ z. z.partners) e ∙ w.partners })
            | inr (ei, eq, e) ↦ (let w = (here i q ei eq).attribute r' in
                record { values = subst (λ (z : Slot). IsSlotOf m.meta q z.values) (sym e) w.0; partners = ap (λ z. z.partners) e ∙ w.1 })
          ]);
      references = λ i q r. (let r' = reference_before m o p f i q r in
          elim (slot_cases m o p f i q (slotted_of m s)) [
            | inl e ↦ (let w = s.references i q r' in
                record {
                  values = ap (λ z. z.values) e ∙ w.values;
                  partners = λ b h. partner_after m o p f q b (w.partners b (subst (λ (z : Slot). Contains z.partners b) e h));
                  distinct = subst (λ (z : Slot). AllPairs (λ x y. x ≢ y) z.partners) (sym e) w.distinct;
                })
            | inr (ei, eq, e) ↦ (let w = here i q ei eq in
                record {
                  values = ap (λ z. z.values) e ∙ w.no_values r';
                  partners = λ b h. partner_after m o p f q b (w.partners r' b (subst (λ (z : Slot). Contains z.partners b) e h));
                  distinct = subst (λ (z : Slot). AllPairs (λ x y. x ≢ y) z.partners) (sym e) (w.distinct r');
                })
          ]);
    }
