-- What stands at each slot of a model after one slot is changed.
use Rattle.std.proofs.Common.{◌≡◌, ◌≢◌, ℕ, ◌<◌, ◌≤◌, ◌⊎◌, zero, suc, List, [], ◌∷◌, ◌++◌, length, get_or, filter, refl, ap, sym, ◌∙◌, arith, subst, Option, Some, None, Bool, true, false, cond, not, inl, inr, eq-eqb}
use Rattle.std.specs.Prelude.{Contains, option_map, ◌==◌}
use Rattle.std.proofs.lemmas.Bool.{cases_lt, cases_eq, ne_eqb}
use Rattle.std.proofs.lemmas.List.{get_or_past}
use Rattle.std.proofs.lemmas.List.Elements.{Contains-push_cases, Contains-append_left, Contains-push, All-contains, filter_passes}
use Rattle.mof_metamodel.specs.declared.desc.MetaDesc.{MetaDesc}
use Rattle.mof_metamodel.specs.Metamodels.{props_of}
use Rattle.object_tables.specs.Lists.{update_at}
use Rattle.object_tables.specs.Objects.{Object, Slot}
use Rattle.object_tables.specs.Models.{ModelData, object_at, class_at, id_at, no_slot, slot_in, slot_number, partners_at, IsLinked, with_slot, with_object_slot, with_partner, without_partner, without_number}
use Rattle.object_tables.proofs.ListLemmas.{length-update_at, get_or-update_at_same, get_or-update_at_other, update_at_past, Contains-filter, Contains-cons}
use Rattle.object_tables.proofs.ModelLemmas.{index-within, index-same, index-found}

abbrev pub slot_at : ModelData → ℕ → ℕ → Slot
slot_at m o p = slot_in m.meta p (object_at m o)

-- each object has a slot for each property of its class
abbrev pub IsSlotted : ModelData → Type 0
IsSlotted m = (o : ℕ) (object : Object) → object_at m o ≡ Some object → length object.slots ≡ length (props_of m.meta object.class)

pub object_cases : (m : ModelData) (o p : ℕ) (f : Slot → Slot) (i : ℕ)
    → (object_at (with_slot m o p f) i ≡ object_at m i) ⊎ ((i ≡ o) × (object_at (with_slot m o p f) i ≡ with_object_slot m.meta p f (object_at m i)))
object_cases m o p f i = elim (cases_eq i o) [
  | inr ne ↦ inl (get_or-update_at_other m.objects o i (with_object_slot m.meta p f) None ne)
  | inl e ↦ elim (cases_lt o (length m.objects)) [
    | inl l ↦ inr (e, ap (object_at (with_slot m o p f)) e ∙ get_or-update_at_same m.objects o (with_object_slot m.meta p f) None l ∙ ap (λ z. with_object_slot m.meta p f (object_at m z)) (sym e))
    | inr le ↦ inl (ap (λ xs. get_or xs i None) (update_at_past m.objects o (with_object_slot m.meta p f) le))
  ]
]

class_same : (meta : MetaDesc) (p : ℕ) (f : Slot → Slot) (x : Option Object) → option_map (λ ob. ob.class) (with_object_slot meta p f x) ≡ option_map (λ ob. ob.class) x
class_same meta p f None = refl
class_same meta p f (Some ob) = refl

id_same : (meta : MetaDesc) (p : ℕ) (f : Slot → Slot) (x : Option Object) → option_map (λ ob. ob.id) (with_object_slot meta p f x) ≡ option_map (λ ob. ob.id) x
id_same meta p f None = refl
id_same meta p f (Some ob) = refl

pub class-with_slot : (m : ModelData) (o p : ℕ) (f : Slot → Slot) (i : ℕ) → class_at (with_slot m o p f) i ≡ class_at m i
class-with_slot m o p f i = elim (object_cases m o p f i) [
  | inl e ↦ ap (option_map (λ ob. ob.class)) e
  | inr (_, e) ↦ ap (option_map (λ ob. ob.class)) e ∙ class_same m.meta p f (object_at m i)
]

pub id-with_slot : (m : ModelData) (o p : ℕ) (f : Slot → Slot) (i : ℕ) → id_at (with_slot m o p f) i ≡ id_at m i
id-with_slot m o p f i = elim (object_cases m o p f i) [
  | inl e ↦ ap (option_map (λ ob. ob.id)) e
  | inr (_, e) ↦ ap (option_map (λ ob. ob.id)) e ∙ id_same m.meta p f (object_at m i)
]

-- an object afterwards was one before, with as many slots
pub record IsSameObject (old new : Object) : Type 0 where
  pub class : new.class ≡ old.class
  pub id : new.id ≡ old.id
  pub slots : length new.slots ≡ length old.slots

pub object_before : (m : ModelData) (o p : ℕ) (f : Slot → Slot) (i : ℕ) (new : Object) → object_at (with_slot m o p f) i ≡ Some new → (old : Object) × (object_at m i ≡ Some old) × IsSameObject old new
object_before m o p f i new h = elim (object_cases m o p f i) [
  | inl e ↦ (new, sym e ∙ h, record { class = refl; id = refl; slots = refl })
  | inr (_, e) ↦ changed (object_at m i) (sym e ∙ h)
] where
  same_of : (ob : Object) (a : Object) → Some (record ob { slots = update_at ob.slots (slot_number m.meta ob.class p) f }) ≡ Some a → IsSameObject ob a
  same_of ob a g =
      let w : record ob { slots = update_at ob.slots (slot_number m.meta ob.class p) f } ≡ a = cc in
      subst (IsSameObject ob) w (record { class = refl; id = refl; slots = length-update_at ob.slots (slot_number m.meta ob.class p) f })

  changed : (x : Option Object) → with_object_slot m.meta p f x ≡ Some new → (old : Object) × (x ≡ Some old) × IsSameObject old new
  changed None g = absurd cc
  changed (Some ob) g = (ob, refl, same_of ob new g)

slot_in_cases : (meta : MetaDesc) (p q : ℕ) (f : Slot → Slot) (x : Option Object)
    → ((ob : Object) → x ≡ Some ob → length ob.slots ≡ length (props_of meta ob.class))
    → (slot_in meta q (with_object_slot meta p f x) ≡ slot_in meta q x) ⊎ ((q ≡ p) × (slot_in meta q (with_object_slot meta p f x) ≡ f (slot_in meta q x)))
slot_in_cases meta p q f None h = inl refl
slot_in_cases meta p q f (Some ob) h =
    let n : ℕ = slot_number meta ob.class p in
    let k : ℕ = slot_number meta ob.class q in
    elim (cases_eq k n) [
      | inr ne ↦ inl (get_or-update_at_other ob.slots n k f no_slot ne)
      | inl e ↦ elim (cases_lt n (length ob.slots)) [
        | inr le ↦ inl (ap (λ ss. get_or ss k no_slot) (update_at_past ob.slots n f le))
        | inl l ↦ (let len = h ob refl in inr (
          index-same (props_of meta ob.class) q p (omega arith) (omega arith) e,
          ap (λ z. get_or (update_at ob.slots n f) z no_slot) e ∙ get_or-update_at_same ob.slots n f no_slot l ∙ ap (λ z. f (get_or ob.slots z no_slot)) (sym e),
        ))
      ]
    ]

pub slot_cases : (m : ModelData) (o p : ℕ) (f : Slot → Slot) (i q : ℕ) → IsSlotted m
    → (slot_at (with_slot m o p f) i q ≡ slot_at m i q) ⊎ ((i ≡ o) × (q ≡ p) × (slot_at (with_slot m o p f) i q ≡ f (slot_at m i q)))
slot_cases m o p f i q s = elim (object_cases m o p f i) [
  | inl e ↦ inl (ap (slot_in m.meta q) e)
  | inr (eo, e) ↦ elim (slot_in_cases m.meta p q f (object_at m i) (s i)) [
    | inl h ↦ inl (ap (slot_in m.meta q) e ∙ h)
    | inr (eq, h) ↦ inr (eo, eq, ap (slot_in m.meta q) e ∙ h)
  ]
]

-- the slot that is changed
pub slot_here : (m : ModelData) (o p c : ℕ) (f : Slot → Slot) → IsSlotted m → class_at m o ≡ Some c → Contains (props_of m.meta c) p
    → slot_at (with_slot m o p f) o p ≡ f (slot_at m o p)
slot_here m o p c f s hc hp =
    ap (slot_in m.meta p) (get_or-update_at_same m.objects o (with_object_slot m.meta p f) None (below (cases_lt o (length m.objects))))
    ∙ there (object_at m o) refl hc
  where
    below : (o < length m.objects) ⊎ (length m.objects ≤ o) → o < length m.objects
    below (inl l) = l
    below (inr le) = absurd (let none : class_at m o ≡ None = ap (option_map (λ ob. ob.class)) (get_or_past m.objects o None le) in let w : Some c ≡ None = sym hc ∙ none in cc)

    there : (x : Option Object) → object_at m o ≡ x → option_map (λ ob. ob.class) x ≡ Some c → slot_in m.meta p (with_object_slot m.meta p f x) ≡ f (slot_in m.meta p x)
    there None e h = absurd cc
    there (Some ob) e h =
        let ec : ob.class ≡ c = cc in
        let len = s o ob e in
        let w = index-within (props_of m.meta ob.class) p (subst (λ z. Contains (props_of m.meta z) p) (sym ec) hp) in
        get_or-update_at_same ob.slots (slot_number m.meta ob.class p) f no_slot (omega arith)

-- a slot that holds a partner is that of a property of a live object's class
pub linked_at : (m : ModelData) (p a b : ℕ) → IsSlotted m → IsLinked m p a b → (c : ℕ) × (class_at m a ≡ Some c) × Contains (props_of m.meta c) p
linked_at m p a b s h = of_object (object_at m a) refl h where
  none_there : Contains {X = ℕ} [] b → ⊥
  none_there (k, l, e) = omega arith

  of_object : (x : Option Object) → object_at m a ≡ x → Contains (slot_in m.meta p x).partners b → (c : ℕ) × (option_map (λ ob. ob.class) x ≡ Some c) × Contains (props_of m.meta c) p
  of_object None e g = absurd (none_there g)
  of_object (Some ob) e g = elim (cases_lt (slot_number m.meta ob.class p) (length (props_of m.meta ob.class))) [
    | inl l ↦ (ob.class, refl, (slot_number m.meta ob.class p, l, index-found (props_of m.meta ob.class) p p l))
    | inr le ↦ absurd (none_there (subst (λ (z : Slot). Contains z.partners b) (let len = s a ob e in get_or_past ob.slots (slot_number m.meta ob.class p) no_slot (omega arith)) g))
  ]

-- ---- one partner more

pub linked-with_partner : (m : ModelData) (p a b r x y : ℕ) → IsSlotted m → IsLinked (with_partner m a p b) r x y → IsLinked m r x y ⊎ ((r ≡ p) × (x ≡ a) × (y ≡ b))
linked-with_partner m p a b r x y s h = elim (slot_cases m a p (λ s. record s { partners = s.partners ++ b ∷ [] }) x r s) [
  | inl e ↦ inl (subst (λ (z : Slot). Contains z.partners y) e h)
  | inr (ex, er, e) ↦ elim (Contains-push_cases (partners_at m x r) b y (subst (λ (z : Slot). Contains z.partners y) e h)) [
    | inl g ↦ inl g
    | inr g ↦ inr (er, ex, sym g)
  ]
]

pub still-with_partner : (m : ModelData) (p a b r x y : ℕ) → IsSlotted m → IsLinked m r x y → IsLinked (with_partner m a p b) r x y
still-with_partner m p a b r x y s h = elim (slot_cases m a p (λ s. record s { partners = s.partners ++ b ∷ [] }) x r s) [
  | inl e ↦ subst (λ (z : Slot). Contains z.partners y) (sym e) h
  | inr (ex, er, e) ↦ subst (λ (z : Slot). Contains z.partners y) (sym e) (Contains-append_left (partners_at m x r) (b ∷ []) y h)
]

pub now-with_partner : (m : ModelData) (p a b c : ℕ) → IsSlotted m → class_at m a ≡ Some c → Contains (props_of m.meta c) p → IsLinked (with_partner m a p b) p a b
now-with_partner m p a b c s hc hp =
    subst (λ (z : Slot). Contains z.partners b) (sym (slot_here m a p c (λ s. record s { partners = s.partners ++ b ∷ [] }) s hc hp)) (Contains-push (partners_at m a p) b)

-- ---- one partner less

pub Contains-to_filter : {X : Type 0} (t : X → Bool) (xs : List X) (x : X) → t x ≡ true → Contains xs x → Contains (filter t xs) x
Contains-to_filter t [] x h c = c
Contains-to_filter t (y ∷ ys) x h c = by_test (λ d. Contains-to_filter t ys x h d) (t y) refl c where
  by_test : (Contains ys x → Contains (filter t ys) x) → (b : Bool) → t y ≡ b → Contains (y ∷ ys) x → Contains (cond b (y ∷ filter t ys) (filter t ys)) x
  by_test rest true e (zero, l, g) = (0, omega arith, g)
  by_test rest true e (suc k, l, g) = Contains-cons y (filter t ys) x (rest (k, omega arith, g))
  by_test rest false e (zero, l, g) = absurd (let z : t x ≡ false = ap t (sym g) ∙ e in let w : true ≡ false = sym h ∙ z in cc)
  by_test rest false e (suc k, l, g) = rest (k, omega arith, g)

pub not_number : (b : ℕ) (xs : List ℕ) → Contains (without_number b xs) b → ⊥
not_number b xs h =
    let t : not (b == b) ≡ true = All-contains (λ x. not (x == b) ≡ true) (without_number b xs) b (filter_passes (λ x. not (x == b)) xs) h in
    let e : (b == b) ≡ true = eq-eqb b b refl in
    let w : not (b == b) ≡ false = ap not e in
    let z : true ≡ false = sym t ∙ w in cc

pub other_number : (b y : ℕ) (xs : List ℕ) → y ≢ b → Contains xs y → Contains (without_number b xs) y
other_number b y xs ne h = Contains-to_filter (λ x. not (x == b)) xs y (ap not (ne_eqb y b ne)) h

pub linked-without_partner : (m : ModelData) (p a b r x y : ℕ) → IsSlotted m → IsLinked (without_partner m a p b) r x y → IsLinked m r x y
linked-without_partner m p a b r x y s h = elim (slot_cases m a p (λ s. record s { partners = without_number b s.partners }) x r s) [
  | inl e ↦ subst (λ (z : Slot). Contains z.partners y) e h
  | inr (ex, er, e) ↦ Contains-filter (λ x. not (x == b)) (partners_at m x r) y (subst (λ (z : Slot). Contains z.partners y) e h)
]

pub gone-without_partner : (m : ModelData) (p a b : ℕ) → IsSlotted m → IsLinked (without_partner m a p b) p a b → ⊥
gone-without_partner m p a b s h =
    let (c, hc, hp) = linked_at m p a b s (linked-without_partner m p a b p a b s h) in
    not_number b (partners_at m a p) (subst (λ (z : Slot). Contains z.partners b) (slot_here m a p c (λ s. record s { partners = without_number b s.partners }) s hc hp) h)

pub still-without_partner : (m : ModelData) (p a b r x y : ℕ) → IsSlotted m → (r ≡ p → x ≡ a → y ≡ b → ⊥) → IsLinked m r x y → IsLinked (without_partner m a p b) r x y
still-without_partner m p a b r x y s other h = elim (slot_cases m a p (λ s. record s { partners = without_number b s.partners }) x r s) [
  | inl e ↦ subst (λ (z : Slot). Contains z.partners y) (sym e) h
  | inr (ex, er, e) ↦ subst (λ (z : Slot). Contains z.partners y) (sym e) (other_number b y (partners_at m x r) (λ ey. other er ex ey) h)
]
