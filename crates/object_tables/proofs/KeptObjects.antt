-- A new object and a deletion keep what every model keeps.
use Rattle.std.proofs.Common.{◌≡◌, ◌≢◌, ℕ, ◌<◌, ◌⊎◌, List, [], ◌∷◌, ◌++◌, length, get_or, map, replicate, refl, ap, sym, ◌∙◌, arith, subst, Option, Some, None, false, not, inl, inr}
use Rattle.std.specs.Prelude.{Contains, AllPairs, option_map, IsTrue, ◌==◌}
use Rattle.std.proofs.lemmas.Bool.{cases_lt, cases_eq}
use Rattle.std.proofs.lemmas.List.{get_or_past, get_or_append_left, get_or_push, length_push, length-replicate, length-map, get_or-replicate}
use Rattle.std.proofs.lemmas.List.Kept.{AllPairs-filter}
use Rattle.mof_metamodel.specs.declared.desc.MetaDesc.{MetaDesc}
use Rattle.mof_metamodel.specs.Characters.{is_identifier_text}
use Rattle.mof_metamodel.specs.Metamodels.{class_count, class_at as meta_class, props_of}
use Rattle.object_tables.specs.Objects.{Object, Slot}
use Rattle.object_tables.specs.Models.{ModelData, object_at, class_at, id_at, no_slot, slot_in, slot_number, partners_at, IsLinked, IsSlotOf, HasId, without_number, slot_without, object_without, deleted, added, new_object}
use Rattle.object_tables.specs.Kept.{Kept, IsWellObject}
use Rattle.object_tables.proofs.ListLemmas.{get_or-update_at_same, get_or-update_at_other, update_at_past, Contains-filter}
use Rattle.std.proofs.Math.ListN.{get_or-map}
use Rattle.object_tables.proofs.SlotLemmas.{slot_at, other_number, not_number}
use Rattle.object_tables.proofs.KeptLemmas.{IsSound, sound_of, both_ways, no_more_containers}

no_link : {y : ℕ} → Contains {X = ℕ} [] y → ⊥
no_link (k, l, e) = omega arith

-- ---- a deletion

pub object-deleted : (m : ModelData) (o i : ℕ)
    → ((i ≡ o) × (object_at (deleted m o) i ≡ None)) ⊎ ((i ≢ o) × (object_at (deleted m o) i ≡ object_without o (object_at m i)))
object-deleted m o i = elim (cases_eq i o) [
  | inr ne ↦ inr (ne, get_or-update_at_other (map (object_without o) m.objects) o i (λ _. None) None ne ∙ get_or-map (object_without o) m.objects i None)
  | inl e ↦ inl (
    e,
    ap (object_at (deleted m o)) e ∙ elim (cases_lt o (length (map (object_without o) m.objects))) [
      | inl l ↦ get_or-update_at_same (map (object_without o) m.objects) o (λ _. None) None l
      | inr le ↦ ap (λ xs. get_or xs o None) (update_at_past (map (object_without o) m.objects) o (λ _. None) le) ∙ get_or_past (map (object_without o) m.objects) o None le
    ],
  )
]

class-without : (o : ℕ) (x : Option Object) → option_map (λ ob. ob.class) (object_without o x) ≡ option_map (λ ob. ob.class) x
class-without o None = refl
class-without o (Some ob) = refl

id-without : (o : ℕ) (x : Option Object) → option_map (λ ob. ob.id) (object_without o x) ≡ option_map (λ ob. ob.id) x
id-without o None = refl
id-without o (Some ob) = refl

slot-without : (meta : MetaDesc) (o q : ℕ) (x : Option Object) → slot_in meta q (object_without o x) ≡ slot_without o (slot_in meta q x)
slot-without meta o q None = refl
slot-without meta o q (Some ob) = get_or-map (slot_without o) ob.slots (slot_number meta ob.class q) no_slot

-- an object that is live afterwards was live before, and is another one
class-deleted : (m : ModelData) (o i c : ℕ) → class_at (deleted m o) i ≡ Some c → (i ≢ o) × (class_at m i ≡ Some c) × ((q : ℕ) → slot_at (deleted m o) i q ≡ slot_without o (slot_at m i q))
class-deleted m o i c h = elim (object-deleted m o i) [
  | inl (e, g) ↦ absurd (let z : None ≡ Some c = sym (ap (option_map (λ ob. ob.class)) g) ∙ h in cc)
  | inr (ne, g) ↦ (ne, sym (ap (option_map (λ ob. ob.class)) g ∙ class-without o (object_at m i)) ∙ h, λ q. ap (slot_in m.meta q) g ∙ slot-without m.meta o q (object_at m i))
]

class-undeleted : (m : ModelData) (o i c : ℕ) → i ≢ o → class_at m i ≡ Some c → class_at (deleted m o) i ≡ Some c
class-undeleted m o i c ne h = elim (object-deleted m o i) [
  | inl (e, g) ↦ absurd (ne e)
  | inr (_, g) ↦ ap (option_map (λ ob. ob.class)) g ∙ class-without o (object_at m i) ∙ h
]

id-deleted : (m : ModelData) (o i : ℕ) (id : List ℕ) → id_at (deleted m o) i ≡ Some id → id_at m i ≡ Some id
id-deleted m o i id h = elim (object-deleted m o i) [
  | inl (e, g) ↦ absurd (let z : None ≡ Some id = sym (ap (option_map (λ ob. ob.id)) g) ∙ h in cc)
  | inr (ne, g) ↦ sym (ap (option_map (λ ob. ob.id)) g ∙ id-without o (object_at m i)) ∙ h
]

slot-deleted : (m : ModelData) (o i q : ℕ) → ((i ≡ o) × (slot_at (deleted m o) i q ≡ no_slot)) ⊎ ((i ≢ o) × (slot_at (deleted m o) i q ≡ slot_without o (slot_at m i q)))
slot-deleted m o i q = elim (object-deleted m o i) [
  | inl (e, g) ↦ inl (e, ap (slot_in m.meta q) g)
  | inr (ne, g) ↦ inr (ne, ap (slot_in m.meta q) g ∙ slot-without m.meta o q (object_at m i))
]

-- the links afterwards are those between others
pub linked-deleted : (m : ModelData) (o p a b : ℕ) → IsLinked (deleted m o) p a b → (a ≢ o) × (b ≢ o) × IsLinked m p a b
linked-deleted m o p a b h = elim (slot-deleted m o a p) [
  | inl (e, g) ↦ absurd (no_link (subst (λ (z : Slot). Contains z.partners b) g h))
  | inr (ne, g) ↦ (
      let h' : Contains (without_number o (partners_at m a p)) b = subst (λ (z : Slot). Contains z.partners b) g h in
      (ne, (λ e. not_number o (partners_at m a p) (subst (λ (z : ℕ). Contains (without_number o (partners_at m a p)) z) e h')), Contains-filter (λ x. not (x == o)) (partners_at m a p) b h'))
]

pub linked-undeleted : (m : ModelData) (o p a b : ℕ) → a ≢ o → b ≢ o → IsLinked m p a b → IsLinked (deleted m o) p a b
linked-undeleted m o p a b na nb h = elim (slot-deleted m o a p) [
  | inl (e, g) ↦ absurd (na e)
  | inr (ne, g) ↦ subst (λ (z : Slot). Contains z.partners b) (sym g) (other_number o b (partners_at m a p) nb h)
]

well-deleted : (m : ModelData) (o i : ℕ) (ob : Object) → IsSound m → object_at (deleted m o) i ≡ Some ob → IsWellObject m.meta ob
well-deleted m o i ob s h = elim (object-deleted m o i) [
  | inl (e, g) ↦ absurd (let z : None ≡ Some ob = sym g ∙ h in cc)
  | inr (ne, g) ↦ of_object (object_at m i) refl (sym g ∙ h)
] where
  of_object : (x : Option Object) → object_at m i ≡ x → object_without o x ≡ Some ob → IsWellObject m.meta ob
  of_object None e w = absurd cc
  of_object (Some old) e w =
      let same : record old { slots = map (slot_without o) old.slots } ≡ ob = cc in
      let f = s.objects i old e in
      subst (IsWellObject m.meta) same (record { class = f.class; concrete = f.concrete; identifier = f.identifier; slots = length-map old.slots (slot_without o) ∙ f.slots })

pub kept_deleted : (m : ModelData) (o : ℕ) → Kept m → Kept (deleted m o)
kept_deleted m o k =
    let s : IsSound m = sound_of m k in
    let new : ModelData = deleted m o in
    record {
      well = k.well;
      objects = λ i ob h. well-deleted m o i ob s h;
      identifiers = λ a b id ha hb. k.identifiers a b id (id-deleted m o a id ha) (id-deleted m o b id hb);
      attributes = λ i q r. (
          let (ne, hc, same) = class-deleted m o i r.class r.class_is in
          let w = k.attributes i q (record { class = r.class; class_is = hc; has = r.has; attribute = r.attribute }) in
          record {
            values = subst (λ (z : Slot). IsSlotOf m.meta q z.values) (sym (same q)) w.values;
            partners = ap (λ z. z.partners) (same q) ∙ ap (without_number o) w.partners;
          });
      references = λ i q r. (
          let (ne, hc, same) = class-deleted m o i r.class r.class_is in
          let w = k.references i q (record { class = r.class; class_is = hc; has = r.has; reference = r.reference }) in
          record {
            values = ap (λ z. z.values) (same q) ∙ w.values;
            partners = λ b h. (
                let (_, nb, h') = linked-deleted m o q i b h in
                let f = w.partners b h' in
                record { class = f.class; class_is = class-undeleted m o b f.class nb f.class_is; conforms = f.conforms });
            distinct = subst (λ (z : Slot). AllPairs (λ x y. x ≢ y) z.partners) (sym (same q)) (AllPairs-filter (λ x y. x ≢ y) (λ x. not (x == o)) (partners_at m i q) w.distinct);
          });
      opposites = both_ways new k.well (λ p q a b e h. (let (na, nb, h') = linked-deleted m o p a b h in linked-undeleted m o q b a nb na ((k.opposites p q a b e).0 h')));
      containers = no_more_containers m new k refl (λ p a b h. (linked-deleted m o p a b h).2);
    }

-- ---- a new object

pub object-added : (m : ModelData) (class : ℕ) (id : List ℕ) (i : ℕ)
    → ((i ≡ length m.objects) × (object_at (added m class id) i ≡ Some (new_object m.meta class id))) ⊎ ((i ≢ length m.objects) × (object_at (added m class id) i ≡ object_at m i))
object-added m class id i =
    let x : Option Object = Some (new_object m.meta class id) in
    elim (cases_lt i (length m.objects)) [
      | inl l ↦ inr ((λ e. omega arith), get_or_append_left m.objects (x ∷ []) None i l)
      | inr le ↦ elim (cases_eq i (length m.objects)) [
        | inl e ↦ inl (e, get_or_push m.objects x None i (sym e))
        | inr ne ↦ inr (ne, get_or_past (m.objects ++ x ∷ []) i None (omega (arith, length_push m.objects x)) ∙ sym (get_or_past m.objects i None le))
      ]
    ]

slot-new : (meta : MetaDesc) (class q : ℕ) (id : List ℕ) → slot_in meta q (Some (new_object meta class id)) ≡ no_slot
slot-new meta class q id = elim (cases_lt (slot_number meta class q) (length (props_of meta class))) [
  | inl l ↦ get_or-replicate (length (props_of meta class)) (slot_number meta class q) no_slot no_slot l
  | inr le ↦ get_or_past (replicate (length (props_of meta class)) no_slot) (slot_number meta class q) no_slot (omega (arith, length-replicate (length (props_of meta class)) no_slot))
]

past_end : (m : ModelData) (i : ℕ) → i ≡ length m.objects → object_at m i ≡ None
past_end m i e = get_or_past m.objects i None (omega arith)

-- no slot shows a difference
slot-added : (m : ModelData) (class : ℕ) (id : List ℕ) (i q : ℕ) → slot_at (added m class id) i q ≡ slot_at m i q
slot-added m class id i q = elim (object-added m class id i) [
  | inl (e, g) ↦ ap (slot_in m.meta q) g ∙ slot-new m.meta class q id ∙ sym (ap (slot_in m.meta q) (past_end m i e))
  | inr (ne, g) ↦ ap (slot_in m.meta q) g
]

class-added : (m : ModelData) (class : ℕ) (id : List ℕ) (i c : ℕ) → class_at m i ≡ Some c → class_at (added m class id) i ≡ Some c
class-added m class id i c h = elim (object-added m class id i) [
  | inl (e, g) ↦ absurd (let z : None ≡ Some c = sym (ap (option_map (λ ob. ob.class)) (past_end m i e)) ∙ h in cc)
  | inr (ne, g) ↦ ap (option_map (λ ob. ob.class)) g ∙ h
]

-- an object afterwards is the new one, with empty slots, or was there
class_cases : (m : ModelData) (class : ℕ) (id : List ℕ) (i c : ℕ) → class_at (added m class id) i ≡ Some c → ((q : ℕ) → slot_at (added m class id) i q ≡ no_slot) ⊎ (class_at m i ≡ Some c)
class_cases m class id i c h = elim (object-added m class id i) [
  | inl (e, g) ↦ inl (λ q. ap (slot_in m.meta q) g ∙ slot-new m.meta class q id)
  | inr (ne, g) ↦ inr (sym (ap (option_map (λ ob. ob.class)) g) ∙ h)
]

id_cases : (m : ModelData) (class : ℕ) (id : List ℕ) (i : ℕ) (x : List ℕ) → id_at (added m class id) i ≡ Some x → ((i ≡ length m.objects) × (x ≡ id)) ⊎ (id_at m i ≡ Some x)
id_cases m class id i x h = elim (object-added m class id i) [
  | inl (e, g) ↦ inl (e, let z : Some x ≡ Some id = sym h ∙ ap (option_map (λ ob. ob.id)) g in let w : x ≡ id = cc in w)
  | inr (ne, g) ↦ inr (sym (ap (option_map (λ ob. ob.id)) g) ∙ h)
]

empty_slot : (meta : MetaDesc) (q : ℕ) → IsSlotOf meta q []
empty_slot meta q = record { typed = λ k d l. absurd (omega arith); distinct = λ i j d l l'. absurd (omega arith) }

pub kept_added : (m : ModelData) (class : ℕ) (id : List ℕ) → Kept m → class < class_count m.meta → (meta_class m.meta class).is_abstract ≡ false → IsTrue (is_identifier_text id) → (HasId m id → ⊥)
    → Kept (added m class id)
kept_added m class id k known concrete text free =
    let new : ModelData = added m class id in
    let same : (i q : ℕ) → slot_at new i q ≡ slot_at m i q = slot-added m class id in
    let old : (p a b : ℕ) → IsLinked new p a b → IsLinked m p a b = (λ p a b h. subst (λ (z : Slot). Contains z.partners b) (same a p) h) in
    let still : (p a b : ℕ) → IsLinked m p a b → IsLinked new p a b = (λ p a b h. subst (λ (z : Slot). Contains z.partners b) (sym (same a p)) h) in
    record {
      well = k.well;
      objects = λ i ob h. elim (object-added m class id i) [
        | inl (e, g) ↦ (
            let z : Some (new_object m.meta class id) ≡ Some ob = sym g ∙ h in
            let w : new_object m.meta class id ≡ ob = cc in
            subst (IsWellObject m.meta) w (record { class = known; concrete = concrete; identifier = text; slots = length-replicate (length (props_of m.meta class)) no_slot }))
        | inr (ne, g) ↦ k.objects i ob (sym g ∙ h)
      ];
      identifiers = λ a b x ha hb. elim (id_cases m class id a x ha) [
        | inl (ea, xa) ↦ elim (id_cases m class id b x hb) [
          | inl (eb, xb) ↦ ea ∙ sym eb
          | inr hb' ↦ absurd (free (b, hb' ∙ ap Some xa))
        ]
        | inr ha' ↦ elim (id_cases m class id b x hb) [
          | inl (eb, xb) ↦ absurd (free (a, ha' ∙ ap Some xb))
          | inr hb' ↦ k.identifiers a b x ha' hb'
        ]
      ];
      attributes = λ i q r. elim (class_cases m class id i r.class r.class_is) [
        | inl none ↦ record { values = subst (λ (z : Slot). IsSlotOf m.meta q z.values) (sym (none q)) (empty_slot m.meta q); partners = ap (λ z. z.partners) (none q) }
        | inr hc ↦ (
            let w = k.attributes i q (record { class = r.class; class_is = hc; has = r.has; attribute = r.attribute }) in
            record { values = subst (λ (z : Slot). IsSlotOf m.meta q z.values) (sym (same i q)) w.values; partners = ap (λ z. z.partners) (same i q) ∙ w.partners })
      ];
      references = λ i q r. elim (class_cases m class id i r.class r.class_is) [
        | inl none ↦ record {
          values = ap (λ z. z.values) (none q);
          partners = λ b h. absurd (no_link (subst (λ (z : Slot). Contains z.partners b) (none q) h));
          distinct = subst (λ (z : Slot). AllPairs (λ x y. x ≢ y) z.partners) (sym (none q)) (λ i j d l l'. absurd (omega arith));
        }
        | inr hc ↦ (
            let w = k.references i q (record { class = r.class; class_is = hc; has = r.has; reference = r.reference }) in
            record {
              values = ap (λ z. z.values) (same i q) ∙ w.values;
              partners = λ b h. (let f = w.partners b (old q i b h) in record { class = f.class; class_is = class-added m class id b f.class f.class_is; conforms = f.conforms });
              distinct = subst (λ (z : Slot). AllPairs (λ x y. x ≢ y) z.partners) (sym (same i q)) w.distinct;
            })
      ];
      opposites = both_ways new k.well (λ p q a b e h. still q b a ((k.opposites p q a b e).0 (old p a b h)));
      containers = no_more_containers m new k refl old;
    }
