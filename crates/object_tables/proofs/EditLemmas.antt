-- What edits of the tables do to a model, and that they keep its parts tied.
use Rattle.std.proofs.Common.{◌≡◌, ◌≢◌, ℕ, ◌<◌, ◌≤◌, ◌⊎◌, zero, suc, List, [], ◌∷◌, ◌++◌, length, get_or, map, drop, refl, ap, sym, ◌∙◌, arith, subst, Option, Some, None, Bool, true, false, cond, not, inl, inr, eq-eqb, rules}
use Rattle.std.specs.Prelude.{Contains, option_map, is_some, ◌==◌, ◌&&◌, nat_lt, count_by, IsSome}
use Rattle.std.proofs.lemmas.Bool.{cases_lt, cases_eq, eqb-true}
use Rattle.std.proofs.lemmas.List.{length-drop, length-map, map_push}
use Rattle.std.proofs.lemmas.List.Elements.{Contains-push_cases}
use borrow.Author.Tests.{ltb-true}
use Rattle.mof_metamodel.specs.declared.desc.MetaDesc.{MetaDesc}
use Rattle.mof_metamodel.specs.Metamodels.{props_of, prop_at, opposite_of}
use Rattle.mof_metamodel.specs.WellMeta.{WellMeta}
use Rattle.object_tables.specs.declared.tables.Named.{Named}
use Rattle.object_tables.specs.Lists.{update_at}
use Rattle.object_tables.specs.Rows.{Row, Place, row_at, place_at, joined_at, no_row, no_place, with_place, with_joined, with_last, without_join, without_address, is_address}
use Rattle.object_tables.specs.Objects.{Object, Slot, object_of, object_from, slot_of, with_slots}
use Rattle.object_tables.specs.Models.{ModelData, object_at, class_at, with_slot, with_object_slot, with_partner, without_partner, at_opposite, linked, unlinked, slot_number, index_of, without_number, IsReferenceOf, partners_at}
use Rattle.object_tables.specs.Tied.{near, far, far_among, nameless, named_in, class_in, IsTied, IsFarEnd, IsNearEnd}
use Rattle.object_tables.proofs.ListLemmas.{length-update_at, get_or-update_at_same, get_or-update_at_other, update_at_past, map-update_at_at, update_at_agree, count_by-update_at, Contains-from_map, Contains-filter, filter-map_all}
use Rattle.mof_metamodel.proofs.Facts.{contains_map}
use Rattle.object_tables.proofs.ObjectLemmas.{objects-nameless}
use Rattle.object_tables.proofs.ModelLemmas.{seen, class_seen, object_seen, IsPlaced, placed, index-within, index-same, index-found, live_class, class_of_rows, near-within, partners_seen}
use Rattle.mof_metamodel.proofs.PropLemmas.{prop_known}
use Rattle.object_tables.proofs.InheritLemmas.{opposite_back, opposite_other}

-- ---- rows that differ in what their places hold and are joined to

pub record IsAlike (old new : List Row) : Type 0 where
  pub len : length new ≡ length old
  pub named : (o : ℕ) → named_in new o ≡ named_in old o
  pub places : (o : ℕ) → length (row_at new o).places ≡ length (row_at old o).places
  pub count : count_by (λ r. is_some r.named) new ≡ count_by (λ r. is_some r.named) old

pub row-with_place : (rows : List Row) (o k i : ℕ) (f : Place → Place)
    → (row_at (with_place rows o k f) i ≡ row_at rows i) ⊎ ((i ≡ o) × (row_at (with_place rows o k f) i ≡ (record (row_at rows i) { places = update_at (row_at rows i).places k f })))
row-with_place rows o k i f = elim (cases_eq i o) [
  | inr ne ↦ inl (get_or-update_at_other rows o i (λ r. record r { places = update_at r.places k f }) no_row ne)
  | inl e ↦ elim (cases_lt o (length rows)) [
    | inl l ↦ inr (e, ap (row_at (with_place rows o k f)) e ∙ get_or-update_at_same rows o (λ r. record r { places = update_at r.places k f }) no_row l ∙ ap (λ z. record (row_at rows z) { places = update_at (row_at rows z).places k f }) (sym e))
    | inr le ↦ inl (ap (λ rs. row_at rs i) (update_at_past rows o (λ r. record r { places = update_at r.places k f }) le))
  ]
]

pub alike-with_place : (rows : List Row) (o k : ℕ) (f : Place → Place) → IsAlike rows (with_place rows o k f)
alike-with_place rows o k f = record {
  len = length-update_at rows o (λ r. record r { places = update_at r.places k f });
  named = λ i. elim (row-with_place rows o k i f) [
    | inl e ↦ ap (λ r. r.named) e
    | inr e ↦ ap (λ r. r.named) e.1
  ];
  places = λ i. elim (row-with_place rows o k i f) [
    | inl e ↦ ap (λ r. length r.places) e
    | inr e ↦ ap (λ r. length r.places) e.1 ∙ length-update_at (row_at rows i).places k f
  ];
  count = count_by-update_at (λ r. is_some r.named) rows o (λ r. record r { places = update_at r.places k f }) (λ r. refl);
}

pub alike-trans : (a b c : List Row) → IsAlike a b → IsAlike b c → IsAlike a c
alike-trans a b c p q = record {
  len = q.len ∙ p.len;
  named = λ o. q.named o ∙ p.named o;
  places = λ o. q.places o ∙ p.places o;
  count = q.count ∙ p.count;
}

pub class-alike : (old new : List Row) (o : ℕ) → IsAlike old new → class_in new o ≡ class_in old o
class-alike old new o a = ap (option_map (λ n. n.class)) (a.named o)

-- the parts stay tied, where the far ends are what they should be
pub tied-alike : (meta : MetaDesc) (old new : List Row) (finds : List ℕ → ℕ → Type 0) (live : ℕ) → IsTied meta old finds live → IsAlike old new
    → ((o c p : ℕ) (e : ℕ × ℕ) → class_in old o ≡ Some c → Contains (props_of meta c) p → Contains (joined_at new o (near meta c p)) e → IsFarEnd meta old p e)
    → ((o c k : ℕ) (e : ℕ × ℕ) → class_in old o ≡ Some c → k < 2 → Contains (joined_at new o k) e → IsNearEnd meta old c k e)
    → IsTied meta new finds live
tied-alike meta old new finds live t a h g = record {
  well = t.well;
  few = (let e = a.len in let f = t.few in omega arith);
  count = t.count ∙ sym a.count;
  shaped = λ o n e. let s = t.shaped o n (sym (a.named o) ∙ e) in record { class = s.class; concrete = s.concrete; places = a.places o ∙ s.places; small = s.small };
  far_ends = λ o c p e hc hp he.
      let f = h o c p e (sym (class-alike old new o a) ∙ hc) hp he in
      record { class = f.class; class_is = class-alike old new e.0 a ∙ f.class_is; place = f.place };
  near_ends = λ o c k e hc lk he.
      let f = g o c k e (sym (class-alike old new o a) ∙ hc) lk he in
      record { class = f.class; class_is = class-alike old new e.0 a ∙ f.class_is; prop = f.prop; has = f.has; place = f.place; back = f.back };
  found = λ o n e. t.found o n (sym (a.named o) ∙ e);
}

-- ---- what a place is joined to, after one change

pub joined-with_joined : (rows : List Row) (o k i j : ℕ) (f : List (ℕ × ℕ) → List (ℕ × ℕ))
    → (joined_at (with_joined rows o k f) i j ≡ joined_at rows i j) ⊎ ((i ≡ o) × (j ≡ k) × (joined_at (with_joined rows o k f) i j ≡ f (joined_at rows i j)))
joined-with_joined rows o k i j f =
    let g : Place → Place = λ p. record p { joined = f p.joined } in
    elim (row-with_place rows o k i g) [
      | inl e ↦ inl (ap (λ r. (get_or r.places j no_place).joined) e)
      | inr (e, er) ↦
          let here : joined_at (with_joined rows o k f) i j ≡ (get_or (update_at (row_at rows i).places k g) j no_place).joined = ap (λ r. (get_or r.places j no_place).joined) er in
          elim (cases_eq j k) [
            | inr ne ↦ inl (here ∙ ap (λ p. p.joined) (get_or-update_at_other (row_at rows i).places k j g no_place ne))
            | inl ek ↦ elim (cases_lt k (length (row_at rows i).places)) [
              | inl l ↦ inr (e, ek, here ∙ ap (λ z. (get_or (update_at (row_at rows i).places k g) z no_place).joined) ek ∙ ap (λ p. p.joined) (get_or-update_at_same (row_at rows i).places k g no_place l) ∙ ap (λ z. f (joined_at rows i z)) (sym ek))
              | inr le ↦ inl (here ∙ ap (λ ps. (get_or ps j no_place).joined) (update_at_past (row_at rows i).places k g le))
            ]
          ]
    ]

pub joined-with_last : (rows : List Row) (o k i j : ℕ) (x e : ℕ × ℕ) → Contains (joined_at (with_last rows o k x) i j) e → Contains (joined_at rows i j) e ⊎ ((i ≡ o) × (j ≡ k) × (e ≡ x))
joined-with_last rows o k i j x e c = elim (joined-with_joined rows o k i j (λ xs. xs ++ x ∷ [])) [
  | inl same ↦ inl (subst (λ xs. Contains xs e) same c)
  | inr (ei, ej, is) ↦ elim (Contains-push_cases (joined_at rows i j) x e (subst (λ xs. Contains xs e) is c)) [
    | inl a ↦ inl a
    | inr b ↦ inr (ei, ej, sym b)
  ]
]

-- ---- the far end of a property

far-among_named : (props : List ℕ) (o : Option ℕ) (n k : ℕ) → n < 2 → far_among props o n ≡ suc (suc k)
    → (q : ℕ) × (o ≡ Some q) × (k ≡ index_of props q) × (index_of props q < length props)
far-among_named props None n k l e = absurd (omega arith)
far-among_named props (Some q) n k l e = by_test (nat_lt (index_of props q) (length props)) refl e where
  by_test : (b : Bool) → nat_lt (index_of props q) (length props) ≡ b → cond b (suc (suc (index_of props q))) n ≡ suc (suc k)
      → (r : ℕ) × (Some q ≡ Some r) × (k ≡ index_of props r) × (index_of props r < length props)
  by_test true h w = (q, refl, omega arith, ltb-true (index_of props q) (length props) h)
  by_test false h w = absurd (omega arith)

pub nameless-below : (meta : MetaDesc) (p : ℕ) → nameless meta p < 2
nameless-below meta p = choice (prop_at meta p).composite where
  choice : (b : Bool) → cond b 0 1 < 2
  choice true = omega arith
  choice false = omega arith

pub far_named : (meta : MetaDesc) (c p k : ℕ) → far meta c p ≡ suc (suc k) → (q : ℕ) × (opposite_of meta p ≡ Some q) × (k ≡ index_of (props_of meta c) q) × (index_of (props_of meta c) q < length (props_of meta c))
far_named meta c p k e = far-among_named (props_of meta c) (opposite_of meta p) (nameless meta p) k (nameless-below meta p) e

pub far-among_back : (props : List ℕ) (q n : ℕ) → index_of props q < length props → far_among props (Some q) n ≡ suc (suc (index_of props q))
far-among_back props q n l = ap (λ b. cond b (suc (suc (index_of props q))) n) (lt-test (index_of props q) (length props) l) where
  lt-test : (a b : ℕ) → a < b → nat_lt a b ≡ true
  lt-test a b m = search rules

far-among_within : (props : List ℕ) (o : Option ℕ) (n : ℕ) → n < 2 → far_among props o n < suc (suc (length props))
far-among_within props None n l = omega arith
far-among_within props (Some q) n l = by_test (nat_lt (index_of props q) (length props)) refl where
  by_test : (b : Bool) → nat_lt (index_of props q) (length props) ≡ b → cond b (suc (suc (index_of props q))) n < suc (suc (length props))
  by_test true h = let m = ltb-true (index_of props q) (length props) h in omega arith
  by_test false h = omega arith

pub far-within : (meta : MetaDesc) (rows : List Row) (o c p : ℕ) → IsPlaced meta rows o c → far meta c p < length (row_at rows o).places
far-within meta rows o c p s = let w = far-among_within (props_of meta c) (opposite_of meta p) (nameless meta p) (nameless-below meta p) in let e = s.places in omega arith

-- the far end of the opposite is the place of the property itself
pub far_back : (meta : MetaDesc) (c p q : ℕ) → WellMeta meta → Contains (props_of meta c) p → opposite_of meta p ≡ Some q → far meta c q ≡ near meta c p
far_back meta c p q w h e =
    ap (λ o. far_among (props_of meta c) o (nameless meta q)) (opposite_back meta p q w (prop_known meta c p h) e)
    ∙ far-among_back (props_of meta c) p (nameless meta q) (index-within (props_of meta c) p h)

-- the place of a property of an object is not its far end
pub near-far_apart : (meta : MetaDesc) (c p : ℕ) → WellMeta meta → Contains (props_of meta c) p → near meta c p ≢ far meta c p
near-far_apart meta c p w h e =
    let (q, eq, ek, lk) = far_named meta c p (slot_number meta c p) (sym e) in
    opposite_other meta p q w (prop_known meta c p h) eq (sym (index-same (props_of meta c) p q (index-within (props_of meta c) p h) lk ek))

-- ---- a link

pub tied-link : (meta : MetaDesc) (rows : List Row) (finds : List ℕ → ℕ → Type 0) (live p a ca b cb : ℕ) → IsTied meta rows finds live
    → class_in rows a ≡ Some ca → class_in rows b ≡ Some cb → Contains (props_of meta ca) p
    → IsTied meta (with_last (with_last rows a (near meta ca p) (b, far meta cb p)) b (far meta cb p) (a, near meta ca p)) finds live
tied-link meta rows finds live p a ca b cb t ha hb hp =
    let rows1 : List Row = with_last rows a (near meta ca p) (b, far meta cb p) in
    tied-alike meta rows _ finds live t
    (alike-trans rows rows1 _ (alike-with_place rows a (near meta ca p) _) (alike-with_place rows1 b (far meta cb p) _))
    (λ o c p' e hc hp' he. elim (joined-with_last rows1 b (far meta cb p) o (near meta c p') (a, near meta ca p) e he) [
      | inl he1 ↦ elim (joined-with_last rows a (near meta ca p) o (near meta c p') (b, far meta cb p) e he1) [
        | inl he2 ↦ t.far_ends o c p' e hc hp' he2
        | inr (eo, ek, ee) ↦
            let same_class : c ≡ ca = (let w : Some c ≡ Some ca = sym hc ∙ ap (class_in rows) eo ∙ ha in cc) in
            let same_index : slot_number meta ca p' ≡ slot_number meta ca p = (let w : near meta ca p' ≡ near meta ca p = ap (λ x. near meta x p') (sym same_class) ∙ ek in omega arith) in
            let same_prop : p' ≡ p = index-same (props_of meta ca) p' p (index-within (props_of meta ca) p' (subst (λ x. Contains (props_of meta x) p') same_class hp')) (index-within (props_of meta ca) p hp) same_index in
            record { class = cb; class_is = ap (λ x. class_in rows x.0) ee ∙ hb; place = ap (λ x. x.1) ee ∙ ap (far meta cb) (sym same_prop) }
      ]
      | inr (eo, ek, ee) ↦
          let same_class : c ≡ cb = (let w : Some c ≡ Some cb = sym hc ∙ ap (class_in rows) eo ∙ hb in cc) in
          let (q, eq, ei, li) = far_named meta cb p (slot_number meta c p') (sym ek) in
          let same_prop : p' ≡ q = index-same (props_of meta cb) p' q (index-within (props_of meta cb) p' (subst (λ x. Contains (props_of meta x) p') same_class hp')) li (ap (λ x. slot_number meta x p') (sym same_class) ∙ ei) in
          record { class = ca; class_is = ap (λ x. class_in rows x.0) ee ∙ ha; place = ap (λ x. x.1) ee ∙ sym (far_back meta ca p q t.well hp eq) ∙ ap (far meta ca) (sym same_prop) }
    ])
    (λ o c k e hc lk he. elim (joined-with_last rows1 b (far meta cb p) o k (a, near meta ca p) e he) [
      | inl he1 ↦ elim (joined-with_last rows a (near meta ca p) o k (b, far meta cb p) e he1) [
        | inl he2 ↦ t.near_ends o c k e hc lk he2
        | inr (eo, ek, ee) ↦ absurd (omega arith)
      ]
      | inr (eo, ek, ee) ↦
          let same_class : c ≡ cb = (let w : Some c ≡ Some cb = sym hc ∙ ap (class_in rows) eo ∙ hb in cc) in
          record { class = ca; class_is = ap (λ x. class_in rows x.0) ee ∙ ha; prop = p; has = hp; place = ap (λ x. x.1) ee; back = ap (λ x. far meta x p) same_class ∙ sym ek }
    ])

-- ---- what the model shows of a change

object-with_place : (named : Option Named) (ps : List Place) (k : ℕ) (f : Place → Place) (g : Slot → Slot)
    → slot_of (f (get_or ps (suc (suc k)) no_place)) ≡ g (slot_of (get_or ps (suc (suc k)) no_place))
    → object_from named (update_at ps (suc (suc k)) f) ≡ with_slots (λ slots. update_at slots k g) (object_from named ps)
object-with_place None ps k f g h = refl
object-with_place (Some n) [] k f g h = refl
object-with_place (Some n) (x ∷ []) k f g h = refl
object-with_place (Some n) (x ∷ y ∷ ps) k f g h = ap (λ ss. Some (record { class = n.class; id = n.id; slots = ss })) (map-update_at_at slot_of ps k f g no_place h)

-- the number of a slot is that of the object's class
slots-by_class : (meta : MetaDesc) (p c : ℕ) (g : Slot → Slot) (x : Option Object) → option_map (λ ob. ob.class) x ≡ Some c
    → with_slots (λ slots. update_at slots (slot_number meta c p) g) x ≡ with_object_slot meta p g x
slots-by_class meta p c g None e = refl
slots-by_class meta p c g (Some ob) e = let w : c ≡ ob.class = cc in ap (λ k. Some (record ob { slots = update_at ob.slots (slot_number meta k p) g })) w

-- a change of a property's place is the change of its slot
pub seen-with_place : (meta : MetaDesc) (rows : List Row) (o c p : ℕ) (f : Place → Place) (g : Slot → Slot) → class_in rows o ≡ Some c
    → slot_of (f (place_at rows o (near meta c p))) ≡ g (slot_of (place_at rows o (near meta c p)))
    → seen meta (with_place rows o (near meta c p) f) ≡ with_slot (seen meta rows) o p g
seen-with_place meta rows o c p f g e h =
    let k : ℕ = slot_number meta c p in
    ap (λ xs. record { meta = meta; objects = xs })
    (map-update_at_at object_of rows o (λ r. record r { places = update_at r.places (suc (suc k)) f }) (with_slots (λ slots. update_at slots k g)) no_row
    (object-with_place (row_at rows o).named (row_at rows o).places k f g h)
    ∙ update_at_agree (map object_of rows) o (with_slots (λ slots. update_at slots k g)) (with_object_slot meta p g) None
    (slots-by_class meta p c g _ (class_seen meta rows o ∙ e)))

-- a change of a nameless place is none
pub seen-nameless : (meta : MetaDesc) (rows : List Row) (o k : ℕ) (f : Place → Place) → k < 2 → seen meta (with_place rows o k f) ≡ seen meta rows
seen-nameless meta rows o k f l = ap (λ xs. record { meta = meta; objects = xs }) (objects-nameless rows o k f l)

-- the slot at the opposite changed, where there is one
abbrev pub opposite_slot : Option ℕ → ModelData → ℕ → (Slot → Slot) → ModelData
opposite_slot None m o g = m
opposite_slot (Some q) m o g = with_slot m o q g

slots-past : (meta : MetaDesc) (q c : ℕ) (g : Slot → Slot) (named : Option Named) (ps : List Place) → option_map (λ n. n.class) named ≡ Some c
    → length ps ≡ suc (suc (length (props_of meta c))) → length (props_of meta c) ≤ slot_number meta c q
    → with_object_slot meta q g (object_from named ps) ≡ object_from named ps
slots-past meta q c g None ps e n l = refl
slots-past meta q c g (Some n) ps e m l =
    let w : c ≡ n.class = cc in
    let short : length (map slot_of (drop 2 ps)) ≤ slot_number meta n.class q =
    subst (λ (x : ℕ). length (map slot_of (drop 2 ps)) ≤ slot_number meta x q) w (omega (arith, length-map (drop 2 ps) slot_of, length-drop 2 ps)) in
    ap (λ ss. Some (record { class = n.class; id = n.id; slots = ss })) (update_at_past (map slot_of (drop 2 ps)) (slot_number meta n.class q) g short)

update_at_none : {X : Type 0} (xs : List X) (n : ℕ) (f : X → X) (d : X) → f (get_or xs n d) ≡ get_or xs n d → update_at xs n f ≡ xs
update_at_none [] n f d h = refl
update_at_none (x ∷ xs) zero f d h = ap (λ y. y ∷ xs) h
update_at_none (x ∷ xs) (suc n) f d h = ap (λ ys. x ∷ ys) (update_at_none xs n f d h)

-- an object of a class without the property has no slot of it
slot-missing : (meta : MetaDesc) (rows : List Row) (o c q : ℕ) (g : Slot → Slot) → class_in rows o ≡ Some c → IsPlaced meta rows o c
    → length (props_of meta c) ≤ slot_number meta c q → with_slot (seen meta rows) o q g ≡ seen meta rows
slot-missing meta rows o c q g e s l =
    ap (λ xs. record { meta = meta; objects = xs })
    (update_at_none (map object_of rows) o (with_object_slot meta q g) None
    (ap (with_object_slot meta q g) (object_seen rows o) ∙ slots-past meta q c g (row_at rows o).named (row_at rows o).places e s.places l ∙ sym (object_seen rows o)))

-- a change of the far end of a property is the change of its opposite's slot, or none
pub seen-far : (meta : MetaDesc) (rows : List Row) (o c p : ℕ) (x : Option ℕ) (f : Place → Place) (g : Slot → Slot) → class_in rows o ≡ Some c → IsPlaced meta rows o c → opposite_of meta p ≡ x
    → ((q : ℕ) → x ≡ Some q → far meta c p ≡ near meta c q → index_of (props_of meta c) q < length (props_of meta c) → slot_of (f (place_at rows o (near meta c q))) ≡ g (slot_of (place_at rows o (near meta c q))))
    → seen meta (with_place rows o (far meta c p) f) ≡ opposite_slot x (seen meta rows) o g
seen-far meta rows o c p None f g e s ex h =
    ap (λ k. seen meta (with_place rows o k f)) (ap (λ y. far_among (props_of meta c) y (nameless meta p)) ex)
    ∙ seen-nameless meta rows o (nameless meta p) f (nameless-below meta p)
seen-far meta rows o c p (Some q) f g e s ex h =
    let is_far : far meta c p ≡ far_among (props_of meta c) (Some q) (nameless meta p) = ap (λ y. far_among (props_of meta c) y (nameless meta p)) ex in
    elim (cases_lt (index_of (props_of meta c) q) (length (props_of meta c))) [
      | inl l ↦
          (let is_near : far meta c p ≡ near meta c q = is_far ∙ far-among_back (props_of meta c) q (nameless meta p) l in
          ap (λ k. seen meta (with_place rows o k f)) is_near ∙ seen-with_place meta rows o c q f g e (h q refl is_near l))
      | inr le ↦
          (let is_nameless : far meta c p ≡ nameless meta p = is_far ∙ ap (λ b. cond b (suc (suc (index_of (props_of meta c) q))) (nameless meta p)) (not_lt (index_of (props_of meta c) q) (length (props_of meta c)) le) in
          ap (λ k. seen meta (with_place rows o k f)) is_nameless ∙ seen-nameless meta rows o (nameless meta p) f (nameless-below meta p) ∙ sym (slot-missing meta rows o c q g e s le))
    ]
  where
    not_lt : (a b : ℕ) → b ≤ a → nat_lt a b ≡ false
    not_lt a b m = search rules

-- the model after a link
pub seen-link : (meta : MetaDesc) (rows : List Row) (v : ModelData) (finds : List ℕ → ℕ → Type 0) (live p a ca b cb : ℕ) → IsTied meta rows finds live → seen meta rows ≡ v
    → class_in rows a ≡ Some ca → class_in rows b ≡ Some cb
    → seen meta (with_last (with_last rows a (near meta ca p) (b, far meta cb p)) b (far meta cb p) (a, near meta ca p)) ≡ linked v p a b
seen-link meta rows v finds live p a ca b cb t ev ha hb =
    let push : ℕ × ℕ → Place → Place = λ x place. record place { joined = place.joined ++ x ∷ [] } in
    let stand : ℕ → Slot → Slot = λ x s. record s { partners = s.partners ++ x ∷ [] } in
    let rows1 : List Row = with_last rows a (near meta ca p) (b, far meta cb p) in
    let alike : IsAlike rows rows1 = alike-with_place rows a (near meta ca p) (push (b, far meta cb p)) in
    let hb1 : class_in rows1 b ≡ Some cb = class-alike rows rows1 b alike ∙ hb in
    let pb : IsPlaced meta rows b cb = placed meta rows finds live b cb t hb in
    let pb1 : IsPlaced meta rows1 b cb = record { object = (let o = pb.object in let n = alike.len in omega arith); class = pb.class; places = alike.places b ∙ pb.places; small = pb.small } in
    let slots : (x : ℕ × ℕ) (place : Place) → slot_of (push x place) ≡ stand x.0 (slot_of place) =
    (λ x place. ap (λ ps. record { values = place.values; partners = ps }) (map_push (λ e. e.0) place.joined x)) in
    seen-far meta rows1 b cb p (opposite_of meta p) (push (a, near meta ca p)) (stand a) hb1 pb1 refl (λ q _ _ _. slots (a, near meta ca p) _)
    ∙ ap (λ m. opposite_slot (opposite_of meta p) m b (stand a))
    (seen-with_place meta rows a ca p (push (b, far meta cb p)) (stand b) ha (slots (b, far meta cb p) _))
    ∙ same (opposite_of meta p) (with_partner (seen meta rows) a p b) b a
    ∙ ap (λ m. linked m p a b) ev
  where
    same : (x : Option ℕ) (m : ModelData) (b a : ℕ) → opposite_slot x m b (λ s. record s { partners = s.partners ++ a ∷ [] }) ≡ at_opposite with_partner m x b a
    same None m b a = refl
    same (Some q) m b a = refl

-- ---- an unlink

pub joined-without : (rows : List Row) (o k i j : ℕ) (x e : ℕ × ℕ) → Contains (joined_at (without_join rows o k x) i j) e → Contains (joined_at rows i j) e
joined-without rows o k i j x e c = elim (joined-with_joined rows o k i j (without_address x)) [
  | inl same ↦ subst (λ xs. Contains xs e) same c
  | inr w ↦ Contains-filter (λ y. not (is_address x y)) (joined_at rows i j) e (subst (λ xs. Contains xs e) w.2 c)
]

pub tied-unlink : (meta : MetaDesc) (rows : List Row) (finds : List ℕ → ℕ → Type 0) (live o k i j : ℕ) (x y : ℕ × ℕ) → IsTied meta rows finds live
    → IsTied meta (without_join (without_join rows o k x) i j y) finds live
tied-unlink meta rows finds live o k i j x y t =
    let rows1 : List Row = without_join rows o k x in
    tied-alike meta rows _ finds live t
    (alike-trans rows rows1 _ (alike-with_place rows o k _) (alike-with_place rows1 i j _))
    (λ a c p e hc hp he. t.far_ends a c p e hc hp (joined-without rows o k a (near meta c p) x e (joined-without rows1 i j a (near meta c p) y e he)))
    (λ a c m e hc lm he. t.near_ends a c m e hc lm (joined-without rows o k a m x e (joined-without rows1 i j a m y e he)))

-- without the address is without the number, where no other address has it
without-address : (b k : ℕ) (xs : List (ℕ × ℕ)) → ((e : ℕ × ℕ) → Contains xs e → e.0 ≡ b → e.1 ≡ k) → map (λ e. e.0) (without_address (b, k) xs) ≡ without_number b (map (λ e. e.0) xs)
without-address b k xs h = filter-map_all (λ e. e.0) (λ y. not (is_address (b, k) y)) (λ x. not (x == b)) xs
    (λ e c. ap not (by_test e (e.0 == b) refl (h e c))) where
      by_test : (e : ℕ × ℕ) (t : Bool) → (e.0 == b) ≡ t → (e.0 ≡ b → e.1 ≡ k) → (e.0 == b) ≡ ((e.0 == b) && (e.1 == k))
      by_test e true q f = let w : (e.1 == k) ≡ true = eq-eqb e.1 k (f (eqb-true e.0 b q)) in cc
      by_test e false q f = cc

-- the model after an unlink
pub seen-unlink : (meta : MetaDesc) (rows : List Row) (v : ModelData) (finds : List ℕ → ℕ → Type 0) (live p a ca b cb : ℕ) → IsTied meta rows finds live → seen meta rows ≡ v
    → class_in rows a ≡ Some ca → class_in rows b ≡ Some cb → Contains (props_of meta ca) p
    → seen meta (without_join (without_join rows a (near meta ca p) (b, far meta cb p)) b (far meta cb p) (a, near meta ca p)) ≡ unlinked v p a b
seen-unlink meta rows v finds live p a ca b cb t ev ha hb hp =
    let cut : ℕ × ℕ → Place → Place = λ x place. record place { joined = without_address x place.joined } in
    let drop_it : ℕ → Slot → Slot = λ x s. record s { partners = without_number x s.partners } in
    let rows1 : List Row = without_join rows a (near meta ca p) (b, far meta cb p) in
    let alike : IsAlike rows rows1 = alike-with_place rows a (near meta ca p) (cut (b, far meta cb p)) in
    let hb1 : class_in rows1 b ≡ Some cb = class-alike rows rows1 b alike ∙ hb in
    let pb : IsPlaced meta rows b cb = placed meta rows finds live b cb t hb in
    let pb1 : IsPlaced meta rows1 b cb = record { object = (let o = pb.object in let n = alike.len in omega arith); class = pb.class; places = alike.places b ∙ pb.places; small = pb.small } in
    let first : slot_of (cut (b, far meta cb p) (place_at rows a (near meta ca p))) ≡ drop_it b (slot_of (place_at rows a (near meta ca p))) =
    ap (λ ps. record { values = (place_at rows a (near meta ca p)).values; partners = ps })
    (without-address b (far meta cb p) (joined_at rows a (near meta ca p))
    (λ e c e0. let f = t.far_ends a ca p e ha hp c in
    f.place ∙ ap (λ x. far meta x p) (let w : Some f.class ≡ Some cb = sym f.class_is ∙ ap (class_in rows) e0 ∙ hb in let z : f.class ≡ cb = cc in z))) in
    seen-far meta rows1 b cb p (opposite_of meta p) (cut (a, near meta ca p)) (drop_it a) hb1 pb1 refl
    (λ q eq en lq.
    let hq : Contains (props_of meta cb) q = index-contains (props_of meta cb) q lq in
    ap (λ ps. record { values = (place_at rows1 b (near meta cb q)).values; partners = ps })
    (without-address a (near meta ca p) (joined_at rows1 b (near meta cb q))
    (λ e c e0. let f = t.far_ends b cb q e hb hq (joined-without rows a (near meta ca p) b (near meta cb q) (b, far meta cb p) e c) in
    f.place ∙ ap (λ x. far meta x q) (let w : Some f.class ≡ Some ca = sym f.class_is ∙ ap (class_in rows) e0 ∙ ha in let z : f.class ≡ ca = cc in z)
    ∙ far_back meta ca p q t.well hp eq)))
    ∙ ap (λ m. opposite_slot (opposite_of meta p) m b (drop_it a)) (seen-with_place meta rows a ca p (cut (b, far meta cb p)) (drop_it b) ha first)
    ∙ same (opposite_of meta p) (without_partner (seen meta rows) a p b) b a
    ∙ ap (λ m. unlinked m p a b) ev
  where
    same : (x : Option ℕ) (m : ModelData) (b a : ℕ) → opposite_slot x m b (λ s. record s { partners = without_number a s.partners }) ≡ at_opposite without_partner m x b a
    same None m b a = refl
    same (Some q) m b a = refl

    index-contains : (props : List ℕ) (q : ℕ) → index_of props q < length props → Contains props q
    index-contains props q l = (index_of props q, l, index-found props q q l)

-- ---- a pair of places that a link joins, as the code finds it

pub record IsPair (meta : MetaDesc) (rows : List Row) (p a b n f : ℕ) : Type 0 where
  pub ca : ℕ
  pub cb : ℕ
  pub a_is : class_in rows a ≡ Some ca
  pub b_is : class_in rows b ≡ Some cb
  pub has : Contains (props_of meta ca) p
  pub near_is : n ≡ near meta ca p
  pub far_is : f ≡ far meta cb p
  pub a_placed : IsPlaced meta rows a ca
  pub b_placed : IsPlaced meta rows b cb

pub pair_of : (meta : MetaDesc) (rows : List Row) (v : ModelData) (finds : List ℕ → ℕ → Type 0) (live p a b n f : ℕ) → IsTied meta rows finds live → seen meta rows ≡ v
    → IsReferenceOf v a p → IsSome (object_at v b)
    → ((c : ℕ) → class_at v a ≡ Some c → n ≡ near v.meta c p) → ((c : ℕ) → class_at v b ≡ Some c → f ≡ far v.meta c p)
    → IsPair meta rows p a b n f
pair_of meta rows v finds live p a b n f t e r l hn hf =
    let (cb, hb) = live_class v b l in
    let em : v.meta ≡ meta = ap (λ x. x.meta) (sym e) in
    record {
      ca = r.class;
      cb = cb;
      a_is = class_of_rows meta rows v a r.class e r.class_is;
      b_is = class_of_rows meta rows v b cb e hb;
      has = subst (λ m. Contains (props_of m r.class) p) em r.has;
      near_is = hn r.class r.class_is ∙ ap (λ m. near m r.class p) em;
      far_is = hf cb hb ∙ ap (λ m. far m cb p) em;
      a_placed = placed meta rows finds live a r.class t (class_of_rows meta rows v a r.class e r.class_is);
      b_placed = placed meta rows finds live b cb t (class_of_rows meta rows v b cb e hb);
    }

pub pair-near : (meta : MetaDesc) (rows : List Row) (p a b n f : ℕ) → IsPair meta rows p a b n f → n < length (row_at rows a).places
pair-near meta rows p a b n f s = subst (λ (k : ℕ). k < length (row_at rows a).places) (sym s.near_is) (near-within meta rows a s.ca p s.a_placed s.has)

pub pair-far : (meta : MetaDesc) (rows : List Row) (p a b n f : ℕ) → IsPair meta rows p a b n f → f < length (row_at rows b).places
pair-far meta rows p a b n f s = subst (λ (k : ℕ). k < length (row_at rows b).places) (sym s.far_is) (far-within meta rows b s.cb p s.b_placed)

pub pair-apart : (meta : MetaDesc) (rows : List Row) (p a b n f : ℕ) → WellMeta meta → IsPair meta rows p a b n f → a ≡ b → n ≢ f
pair-apart meta rows p a b n f w s e h =
    let same : s.cb ≡ s.ca = (let z : Some s.cb ≡ Some s.ca = sym s.b_is ∙ ap (class_in rows) (sym e) ∙ s.a_is in cc) in
    near-far_apart meta s.ca p w s.has (sym s.near_is ∙ h ∙ s.far_is ∙ ap (λ c. far meta c p) same)

pub pair-linked : (meta : MetaDesc) (rows : List Row) (v : ModelData) (p a b n f : ℕ) → seen meta rows ≡ v → IsPair meta rows p a b n f
    → Contains (joined_at rows a n) (b, f) → Contains (partners_at v a p) b
pair-linked meta rows v p a b n f e s c =
    subst (λ xs. Contains xs b)
    (ap (λ k. map (λ x. x.0) (joined_at rows a k)) s.near_is ∙ sym (partners_seen meta rows v a p s.ca e (ap (λ x. class_at x a) (sym e) ∙ class_seen meta rows a ∙ s.a_is)))
    (contains_map (λ x. x.0) (joined_at rows a n) (b, f) c)

pub pair-joined : (meta : MetaDesc) (rows : List Row) (v : ModelData) (finds : List ℕ → ℕ → Type 0) (live p a b n f : ℕ) → IsTied meta rows finds live → seen meta rows ≡ v → IsPair meta rows p a b n f
    → Contains (partners_at v a p) b → Contains (joined_at rows a n) (b, f)
pair-joined meta rows v finds live p a b n f t e s c =
    let d : Contains (map (λ x. x.0) (joined_at rows a (near meta s.ca p))) b =
    subst (λ xs. Contains xs b) (partners_seen meta rows v a p s.ca e (ap (λ x. class_at x a) (sym e) ∙ class_seen meta rows a ∙ s.a_is)) c in
    let (x, cx, ex) = Contains-from_map (λ x. x.0) (joined_at rows a (near meta s.ca p)) b d in
    let g = t.far_ends a s.ca p x s.a_is s.has cx in
    let same : g.class ≡ s.cb = (let z : Some g.class ≡ Some s.cb = sym g.class_is ∙ ap (class_in rows) ex ∙ s.b_is in cc) in
    let place : x.1 ≡ f = g.place ∙ ap (λ k. far meta k p) same ∙ sym s.far_is in
    let whole : x ≡ (b, f) = ap (λ k. (k, x.1)) ex ∙ ap (λ k. (b, k)) place in
    subst (λ k. Contains (joined_at rows a k) (b, f)) (sym s.near_is) (subst (λ y. Contains (joined_at rows a (near meta s.ca p)) y) whole cx)

pub pair-tied_link : (meta : MetaDesc) (rows new : List Row) (finds : List ℕ → ℕ → Type 0) (live p a b n f : ℕ) → IsTied meta rows finds live → IsPair meta rows p a b n f
    → new ≡ with_last (with_last rows a n (b, f)) b f (a, n) → IsTied meta new finds live
pair-tied_link meta rows new finds live p a b n f t s e =
    subst (λ rs. IsTied meta rs finds live)
    (sym (e ∙ ap (λ k. with_last (with_last rows a k (b, f)) b f (a, k)) s.near_is ∙ ap (λ k. with_last (with_last rows a (near meta s.ca p) (b, k)) b k (a, near meta s.ca p)) s.far_is))
    (tied-link meta rows finds live p a s.ca b s.cb t s.a_is s.b_is s.has)

pub pair-seen_link : (meta : MetaDesc) (rows new : List Row) (v : ModelData) (finds : List ℕ → ℕ → Type 0) (live p a b n f : ℕ) → IsTied meta rows finds live → seen meta rows ≡ v → IsPair meta rows p a b n f
    → new ≡ with_last (with_last rows a n (b, f)) b f (a, n) → seen meta new ≡ linked v p a b
pair-seen_link meta rows new v finds live p a b n f t ev s e =
    ap (seen meta) (e ∙ ap (λ k. with_last (with_last rows a k (b, f)) b f (a, k)) s.near_is ∙ ap (λ k. with_last (with_last rows a (near meta s.ca p) (b, k)) b k (a, near meta s.ca p)) s.far_is)
    ∙ seen-link meta rows v finds live p a s.ca b s.cb t ev s.a_is s.b_is

pub pair-tied_unlink : (meta : MetaDesc) (rows new : List Row) (finds : List ℕ → ℕ → Type 0) (live a b n f : ℕ) → IsTied meta rows finds live
    → new ≡ without_join (without_join rows a n (b, f)) b f (a, n) → IsTied meta new finds live
pair-tied_unlink meta rows new finds live a b n f t e =
    subst (λ rs. IsTied meta rs finds live) (sym e) (tied-unlink meta rows finds live a n b f (b, f) (a, n) t)

pub pair-seen_unlink : (meta : MetaDesc) (rows new : List Row) (v : ModelData) (finds : List ℕ → ℕ → Type 0) (live p a b n f : ℕ) → IsTied meta rows finds live → seen meta rows ≡ v → IsPair meta rows p a b n f
    → new ≡ without_join (without_join rows a n (b, f)) b f (a, n) → seen meta new ≡ unlinked v p a b
pair-seen_unlink meta rows new v finds live p a b n f t ev s e =
    ap (seen meta) (e ∙ ap (λ k. without_join (without_join rows a k (b, f)) b f (a, k)) s.near_is ∙ ap (λ k. without_join (without_join rows a (near meta s.ca p) (b, k)) b k (a, near meta s.ca p)) s.far_is)
    ∙ seen-unlink meta rows v finds live p a s.ca b s.cb t ev s.a_is s.b_is s.has
