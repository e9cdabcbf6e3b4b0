-- Each edit of a model keeps what every model keeps.
use Rattle.std.proofs.Common.{◌≡◌, ◌≢◌, ℕ, ◌<◌, ◌⊎◌, List, [], ◌∷◌, ◌++◌, refl, ap, sym, ◌∙◌, subst, Option, Some, None, Bool, true, false, not, inl, inr}
use Rattle.std.specs.Prelude.{Contains, AllPairs, option_map, ◌==◌}
use Rattle.std.proofs.lemmas.List.Elements.{Contains-get_or, Contains-push_cases}
use Rattle.std.proofs.lemmas.List.Kept.{AllPairs-filter}
use Rattle.std.proofs.lemmas.List.Quantifiers.{all_pairs_push}
use Rattle.mof_metamodel.specs.declared.desc.MetaDesc.{MetaDesc}
use Rattle.mof_metamodel.specs.Metamodels.{class_count, props_of, prop_at, type_of, opposite_of}
use Rattle.object_tables.specs.declared.value.Value.{Value}
use Rattle.object_tables.specs.Objects.{Object, Slot}
use Rattle.object_tables.specs.Models.{ModelData, object_at, class_at, partners_at, is_class_type, IsLinked, IsReferenceOf, IsAttributeOf, IsPartnerFor, IsSlotOf, IsTop, IsFree, with_values, with_order, with_partner, without_partner, without_number, at_opposite, linked, unlinked}
use Rattle.object_tables.specs.Kept.{Kept}
use Rattle.object_tables.proofs.ListLemmas.{Contains-filter}
use Rattle.object_tables.proofs.InheritLemmas.{IsPairOf, pair_of_opposites}
use Rattle.object_tables.proofs.SlotLemmas.{IsSlotted, class-with_slot, slot_cases, linked-with_partner, still-with_partner, now-with_partner, linked-without_partner, gone-without_partner, still-without_partner}
use Rattle.object_tables.proofs.KeptLemmas.{IsSound, sound_of, slotted_of, both_ways, one_container, no_more_containers, sound-with_slot}

-- a property is a reference or an attribute
not_both : (t : Bool) → t ≡ true → t ≡ false → ⊥
not_both t a b = cc

reference_alone : (m : ModelData) (o p : ℕ) → IsReferenceOf m o p → IsAttributeOf m o p → ⊥
reference_alone m o p r a = not_both (is_class_type (type_of m.meta p)) r.reference a.attribute

-- the same links
kept_same_links : (m new : ModelData) → Kept m → new.meta ≡ m.meta → IsSound new → ((p a b : ℕ) → IsLinked new p a b → IsLinked m p a b) → ((p a b : ℕ) → IsLinked m p a b → IsLinked new p a b) → Kept new
kept_same_links m new k em s old still = record {
  well = s.well;
  objects = s.objects;
  identifiers = s.identifiers;
  attributes = s.attributes;
  references = s.references;
  opposites = λ p q a b e. (
    (λ h. still q b a ((k.opposites p q a b (ap (λ d. opposite_of d p) (sym em) ∙ e)).0 (old p a b h))),
    (λ h. still p a b ((k.opposites p q a b (ap (λ d. opposite_of d p) (sym em) ∙ e)).1 (old q b a h))),
  );
  containers = no_more_containers m new k em old;
}

-- ---- values

pub kept_with_values : (m : ModelData) (o p : ℕ) (values : List Value) → Kept m → IsAttributeOf m o p → IsSlotOf m.meta p values → Kept (with_values m o p values)
kept_with_values m o p values k a h =
    let s : IsSound m = sound_of m k in
    let f : Slot → Slot = λ s. record s { values = values } in
    let same : (i q : ℕ) → partners_at (with_values m o p values) i q ≡ partners_at m i q =
    (λ i q. elim (slot_cases m o p f i q (slotted_of m s)) [ inl e ↦ ap (λ z. z.partners) e | inr (_, _, e) ↦ ap (λ z. z.partners) e ]) in
    kept_same_links m (with_values m o p values) k refl
    (sound-with_slot m o p f s (record {
      attribute = λ _. (h, (s.attributes o p a).partners);
      no_values = λ r. absurd (reference_alone m o p r a);
      partners = λ r. absurd (reference_alone m o p r a);
      distinct = λ r. absurd (reference_alone m o p r a);
    }))
    (λ r x y. subst (λ (xs : List ℕ). Contains xs y) (same x r))
    (λ r x y. subst (λ (xs : List ℕ). Contains xs y) (sym (same x r)))

-- ---- another order

pub kept_with_order : (m : ModelData) (o p : ℕ) (order : List ℕ) → Kept m → IsReferenceOf m o p
    → ((b : ℕ) → Contains order b → Contains (partners_at m o p) b) → ((b : ℕ) → Contains (partners_at m o p) b → Contains order b) → AllPairs (λ x y. x ≢ y) order
    → Kept (with_order m o p order)
kept_with_order m o p order k r old still distinct =
    let s : IsSound m = sound_of m k in
    let f : Slot → Slot = λ s. record s { partners = order } in
    kept_same_links m (with_order m o p order) k refl
    (sound-with_slot m o p f s (record {
      attribute = λ a. absurd (reference_alone m o p r a);
      no_values = λ _. (s.references o p r).values;
      partners = λ _ b h. (s.references o p r).partners b (old b h);
      distinct = λ _. distinct;
    }))
    (λ q x y h. elim (slot_cases m o p f x q (slotted_of m s)) [
      | inl e ↦ subst (λ (z : Slot). Contains z.partners y) e h
      | inr (ex, eq, e) ↦ subst (λ (z : ℕ). Contains (partners_at m z q) y) (sym ex) (subst (λ (z : ℕ). Contains (partners_at m o z) y) (sym eq) (old y (subst (λ (z : Slot). Contains z.partners y) e h)))
    ])
    (λ q x y h. elim (slot_cases m o p f x q (slotted_of m s)) [
      | inl e ↦ subst (λ (z : Slot). Contains z.partners y) (sym e) h
      | inr (ex, eq, e) ↦ subst (λ (z : Slot). Contains z.partners y) (sym e) (still y (subst (λ (z : ℕ). Contains (partners_at m z p) y) ex (subst (λ (z : ℕ). Contains (partners_at m x z) y) eq h)))
    ])

-- ---- a link

sound-with_partner : (m : ModelData) (p a b : ℕ) → IsSound m → IsReferenceOf m a p → IsPartnerFor m p b → (IsLinked m p a b → ⊥) → IsSound (with_partner m a p b)
sound-with_partner m p a b s r w new =
    let old = s.references a p r in
    sound-with_slot m a p (λ s. record s { partners = s.partners ++ b ∷ [] }) s (record {
      attribute = λ x. absurd (reference_alone m a p r x);
      no_values = λ _. old.values;
      partners = λ _ c h. elim (Contains-push_cases (partners_at m a p) b c h) [
        | inl g ↦ old.partners c g
        | inr g ↦ subst (IsPartnerFor m p) g w
      ];
      distinct = λ _. all_pairs_push (λ x y. x ≢ y) (partners_at m a p) b old.distinct
          (λ i d l e. new (subst (λ (z : ℕ). Contains (partners_at m a p) z) e (Contains-get_or (partners_at m a p) i d l)));
    })

-- the pair a and b, by the property or by its opposite
abbrev IsThePair : MetaDesc → ℕ → ℕ → ℕ → ℕ → ℕ → ℕ → Type 0
IsThePair meta p a b r x y = ((r ≡ p) × (x ≡ a) × (y ≡ b)) ⊎ ((opposite_of meta p ≡ Some r) × (x ≡ b) × (y ≡ a))

linked_by : (m : ModelData) (p q a b x y : ℕ) → p ≡ q → a ≡ x → b ≡ y → IsLinked m p a b → IsLinked m q x y
linked_by m p q a b x y ep ea eb h =
    subst (λ (z : ℕ). IsLinked m z x y) ep (subst (λ (z : ℕ). IsLinked m p z y) ea (subst (λ (z : ℕ). IsLinked m p a z) eb h))

class_known : (m : ModelData) (o c : ℕ) → IsSound m → class_at m o ≡ Some c → c < class_count m.meta
class_known m o c s h = of_object (object_at m o) refl h where
  of_object : (x : Option Object) → object_at m o ≡ x → option_map (λ ob. ob.class) x ≡ Some c → c < class_count m.meta
  of_object None e g = absurd cc
  of_object (Some ob) e g = let w : ob.class ≡ c = cc in subst (λ (z : ℕ). z < class_count m.meta) w (s.objects o ob e).class

-- one number is looked up
same_number : (x : Option ℕ) (q r : ℕ) → x ≡ Some q → x ≡ Some r → q ≡ r
same_number x q r h g = cc

record IsAfterLink (m new : ModelData) (p a b : ℕ) : Type 0 where
  meta : new.meta ≡ m.meta
  sound : IsSound new
  cases : (r x y : ℕ) → IsLinked new r x y → IsLinked m r x y ⊎ IsThePair m.meta p a b r x y
  still : (r x y : ℕ) → IsLinked m r x y → IsLinked new r x y
  near : IsLinked new p a b
  far : (q : ℕ) → opposite_of m.meta p ≡ Some q → IsLinked new q b a

after_link : (m : ModelData) (p a b : ℕ) (o : Option ℕ) → Kept m → IsReferenceOf m a p → IsPartnerFor m p b → (IsLinked m p a b → ⊥) → opposite_of m.meta p ≡ o
    → IsAfterLink m (at_opposite with_partner (with_partner m a p b) o b a) p a b
after_link m p a b None k r w new e =
    let s : IsSound m = sound_of m k in
    let t : IsSlotted m = slotted_of m s in
    record {
      meta = refl;
      sound = sound-with_partner m p a b s r w new;
      cases = λ q x y h. elim (linked-with_partner m p a b q x y t h) [ inl g ↦ inl g | inr g ↦ inr (inl g) ];
      still = λ q x y h. still-with_partner m p a b q x y t h;
      near = now-with_partner m p a b r.class t r.class_is r.has;
      far = λ q g. absurd (let z : None ≡ Some q = sym e ∙ g in cc);
    }
after_link m p a b (Some q) k r w new e =
    let s : IsSound m = sound_of m k in
    let t : IsSlotted m = slotted_of m s in
    let m1 : ModelData = with_partner m a p b in
    let pair : IsPairOf m.meta p q = pair_of_opposites m.meta p q s.well e in
    let s1 : IsSound m1 = sound-with_partner m p a b s r w new in
    let t1 : IsSlotted m1 = slotted_of m1 s1 in
    let same : (i : ℕ) → class_at m1 i ≡ class_at m i = class-with_slot m a p (λ s. record s { partners = s.partners ++ b ∷ [] }) in
    let has : Contains (props_of m.meta w.class) q = pair.near_has w.class (class_known m b w.class s w.class_is) w.conforms in
    let r1 : IsReferenceOf m1 b q = record { class = w.class; class_is = same b ∙ w.class_is; has = has; reference = pair.far_class } in
    let w1 : IsPartnerFor m1 q a = record { class = r.class; class_is = same a ∙ r.class_is; conforms = pair.far_fits r.class (class_known m a r.class s r.class_is) r.has } in
    let new1 : IsLinked m1 q b a → ⊥ = (λ h. elim (linked-with_partner m p a b q b a t h) [
      | inl g ↦ new ((k.opposites p q a b e).1 g)
      | inr g ↦ pair.other g.0
    ]) in
    record {
      meta = refl;
      sound = sound-with_partner m1 q b a s1 r1 w1 new1;
      cases = λ z x y h. elim (linked-with_partner m1 q b a z x y t1 h) [
        | inl g ↦ elim (linked-with_partner m p a b z x y t g) [ inl g' ↦ inl g' | inr g' ↦ inr (inl g') ]
        | inr g ↦ inr (inr (e ∙ ap Some (sym g.0), g.1, g.2))
      ];
      still = λ z x y h. still-with_partner m1 q b a z x y t1 (still-with_partner m p a b z x y t h);
      near = still-with_partner m1 q b a p a b t1 (now-with_partner m p a b r.class t r.class_is r.has);
      far = λ z g. linked_by (with_partner m1 b q a) q z b a b a (same_number (opposite_of m.meta p) q z e g) refl refl (now-with_partner m1 q b a w.class t1 r1.class_is r1.has);
    }

pub kept_linked : (m : ModelData) (p a b : ℕ) → Kept m → IsReferenceOf m a p → IsPartnerFor m p b → (IsLinked m p a b → ⊥) → IsFree m p a b → Kept (linked m p a b)
kept_linked m p a b k r w unlinked_yet free =
    let new : ModelData = linked m p a b in
    let n : IsAfterLink m new p a b = after_link m p a b (opposite_of m.meta p) k r w unlinked_yet refl in
    record {
      well = n.sound.well;
      objects = n.sound.objects;
      identifiers = n.sound.identifiers;
      attributes = n.sound.attributes;
      references = n.sound.references;
      opposites = both_ways new n.sound.well (λ z y x v e h.
          let e' : opposite_of m.meta z ≡ Some y = ap (λ d. opposite_of d z) (sym n.meta) ∙ e in
          elim (n.cases z x v h) [
            | inl g ↦ n.still y v x ((k.opposites z y x v e').0 g)
            | inr g ↦ elim g [
              | inl (ez, ex, ev) ↦ linked_by new y y b a v x refl (sym ev) (sym ex) (n.far y (ap (opposite_of m.meta) (sym ez) ∙ e'))
              | inr (ez, ex, ev) ↦ linked_by new p y a b v x (same_number (opposite_of m.meta z) p y (pair_of_opposites m.meta p z k.well ez).back e') (sym ev) (sym ex) n.near
            ]
          ]);
      containers = one_container m new (IsThePair m.meta p a b) k n.meta n.cases
          (λ z x y g c. elim g [
            | inl (ez, ex, ey) ↦ subst (IsTop m) (sym ey) (free.part (ap (λ q. (prop_at m.meta q).composite) (sym ez) ∙ c))
            | inr (ez, ex, ey) ↦ subst (IsTop m) (sym ey) (free.whole z ez c)
          ])
          (λ z v x y u g h cz cv. elim g [
            | inl (ez, ex, eu) ↦ elim h [
              | inl (ev, ey, eu') ↦ (ex ∙ sym ey, ez ∙ sym ev)
              | inr (ev, ey, eu') ↦ absurd ((pair_of_opposites m.meta p v k.well ev).one_whole (ap (λ q. (prop_at m.meta q).composite) (sym ez) ∙ cz) cv)
            ]
            | inr (ez, ex, eu) ↦ elim h [
              | inl (ev, ey, eu') ↦ absurd ((pair_of_opposites m.meta p z k.well ez).one_whole (ap (λ q. (prop_at m.meta q).composite) (sym ev) ∙ cv) cz)
              | inr (ev, ey, eu') ↦ (ex ∙ sym ey, same_number (opposite_of m.meta p) z v ez ev)
            ]
          ]);
    }

-- ---- an unlink

sound-without_partner : (m : ModelData) (p a b : ℕ) → IsSound m → IsSound (without_partner m a p b)
sound-without_partner m p a b s = sound-with_slot m a p (λ s. record s { partners = without_number b s.partners }) s (record {
  attribute = λ x. (let old = s.attributes a p x in (old.values, ap (without_number b) old.partners));
  no_values = λ r. (s.references a p r).values;
  partners = λ r c h. (s.references a p r).partners c (Contains-filter (λ x. not (x == b)) (partners_at m a p) c h);
  distinct = λ r. AllPairs-filter (λ x y. x ≢ y) (λ x. not (x == b)) (partners_at m a p) (s.references a p r).distinct;
})

record IsAfterUnlink (m new : ModelData) (p a b : ℕ) : Type 0 where
  meta : new.meta ≡ m.meta
  sound : IsSound new
  old : (r x y : ℕ) → IsLinked new r x y → IsLinked m r x y
  still : (r x y : ℕ) → (IsThePair m.meta p a b r x y → ⊥) → IsLinked m r x y → IsLinked new r x y
  near : IsLinked new p a b → ⊥
  far : (q : ℕ) → opposite_of m.meta p ≡ Some q → IsLinked new q b a → ⊥

after_unlink : (m : ModelData) (p a b : ℕ) (o : Option ℕ) → IsSound m → opposite_of m.meta p ≡ o → IsAfterUnlink m (at_opposite without_partner (without_partner m a p b) o b a) p a b
after_unlink m p a b None s e =
    let t : IsSlotted m = slotted_of m s in
    record {
      meta = refl;
      sound = sound-without_partner m p a b s;
      old = λ r x y h. linked-without_partner m p a b r x y t h;
      still = λ r x y other h. still-without_partner m p a b r x y t (λ er ex ey. other (inl (er, ex, ey))) h;
      near = gone-without_partner m p a b t;
      far = λ q g. absurd (let z : None ≡ Some q = sym e ∙ g in cc);
    }
after_unlink m p a b (Some q) s e =
    let t : IsSlotted m = slotted_of m s in
    let m1 : ModelData = without_partner m a p b in
    let s1 : IsSound m1 = sound-without_partner m p a b s in
    let t1 : IsSlotted m1 = slotted_of m1 s1 in
    record {
      meta = refl;
      sound = sound-without_partner m1 q b a s1;
      old = λ r x y h. linked-without_partner m p a b r x y t (linked-without_partner m1 q b a r x y t1 h);
      still = λ r x y other h. still-without_partner m1 q b a r x y t1 (λ er ex ey. other (inr (e ∙ ap Some (sym er), ex, ey)))
          (still-without_partner m p a b r x y t (λ er ex ey. other (inl (er, ex, ey))) h);
      near = λ h. gone-without_partner m p a b t (linked-without_partner m1 q b a p a b t1 h);
      far = λ z g h. gone-without_partner m1 q b a t1 (linked_by (without_partner m1 b q a) z q b a b a (same_number (opposite_of m.meta p) z q g e) refl refl h);
    }

pub kept_unlinked : (m : ModelData) (p a b : ℕ) → Kept m → Kept (unlinked m p a b)
kept_unlinked m p a b k =
    let new : ModelData = unlinked m p a b in
    let n : IsAfterUnlink m new p a b = after_unlink m p a b (opposite_of m.meta p) (sound_of m k) refl in
    record {
      well = n.sound.well;
      objects = n.sound.objects;
      identifiers = n.sound.identifiers;
      attributes = n.sound.attributes;
      references = n.sound.references;
      opposites = both_ways new n.sound.well (λ z v x y e h.
          let e' : opposite_of m.meta z ≡ Some v = ap (λ d. opposite_of d z) (sym n.meta) ∙ e in
          let back : opposite_of m.meta v ≡ Some z = (pair_of_opposites m.meta z v k.well e').back in
          n.still v y x (λ g. elim g [
            | inl (ev, ey, ex) ↦ n.far z (ap (opposite_of m.meta) (sym ev) ∙ back) (linked_by new z z x y b a refl ex ey h)
            | inr (ev, ey, ex) ↦ n.near (linked_by new z p x y a b (same_number (opposite_of m.meta v) z p back (pair_of_opposites m.meta p v k.well ev).back) ex ey h)
          ]) ((k.opposites z v x y e').0 (n.old z x y h)));
      containers = no_more_containers m new k n.meta n.old;
    }
