-- How the container of an object is found from what its places are joined to.
use Rattle.std.proofs.Common.{◌≡◌, ℕ, ◌+◌, ◌-◌, ◌<◌, ◌≤◌, suc, List, [], ◌∷◌, length, get_or, map, refl, ap, sym, ◌∙◌, arith, subst, Option, Some, None, Bool, true, false, cond}
use Rattle.std.specs.Prelude.{Contains, IfSome, IfNone, nat_lt}
use Rattle.std.proofs.lemmas.List.{get_or-map, length-map}
use Rattle.std.proofs.lemmas.List.Elements.{Contains-get_or}
use Rattle.mof_metamodel.specs.declared.desc.MetaDesc.{MetaDesc}
use Rattle.mof_metamodel.specs.declared.desc.PropId.{PropId}
use Rattle.mof_metamodel.specs.Tables.{prop_numbers}
use Rattle.mof_metamodel.specs.Metamodels.{class_count, props_of, prop_at, prop_count, opposite_of}
use Rattle.object_tables.specs.Rows.{Row, row_at, joined_at, IsMutual}
use Rattle.object_tables.specs.Models.{ModelData, class_at, partners_at, index_of, IsLive, IsTop, IsLinked, IsContainedIn, IsReferenceOf}
use Rattle.object_tables.specs.Tied.{near, far_among, nameless, IsTied}
use Rattle.object_tables.specs.Kept.{Kept}
use Rattle.object_tables.specs.Places.{IsPlaceOf}
use Rattle.object_tables.proofs.ListLemmas.{Contains-from_map}
use Rattle.mof_metamodel.proofs.Facts.{contains_map}
use Rattle.object_tables.proofs.ModelLemmas.{seen, class_seen, placed_seen, partners_seen, live_class, same_class, class_of_rows, has_seen, near-within, index-within, index-found}
use Rattle.mof_metamodel.proofs.PropLemmas.{prop_known}
use Rattle.object_tables.proofs.InheritLemmas.{pair_of_opposites}
use Rattle.object_tables.proofs.DistinctLemmas.{property_place}
use Rattle.object_tables.proofs.KeptLemmas.{sound_of, linked_reference}

no_link : {X : Type 0} {x : X} → Contains {X = X} [] x → ⊥
no_link (k, l, e) = omega arith

same_meta : (meta : MetaDesc) (rows : List Row) (v : ModelData) → seen meta rows ≡ v → meta ≡ v.meta
same_meta meta rows v e = ap (λ m. m.meta) e

-- ---- by a property of the object whose opposite is composite

-- a container by the opposite of a property is a partner at the property
pub partner_from_contained : (m : ModelData) (o q a p : ℕ) → Kept m → opposite_of m.meta p ≡ Some q → IsContainedIn m o a p → IsLinked m q o a
partner_from_contained m o q a p k e h = (k.opposites p q a o e).0 h.linked

-- a property without an opposite is none's opposite
pub not_opposite : (m : ModelData) (p q : ℕ) → Kept m → opposite_of m.meta q ≡ None → opposite_of m.meta p ≡ Some q → ⊥
not_opposite m p q k h e = let b = (pair_of_opposites m.meta p q k.well e).back in let z : None ≡ Some p = sym h ∙ b in cc

pub not_whole : (m : ModelData) (o q a p r : ℕ) → Kept m → opposite_of m.meta q ≡ Some r → (prop_at m.meta r).composite ≡ false → opposite_of m.meta p ≡ Some q → IsContainedIn m o a p → ⊥
not_whole m o q a p r k h f e c =
    let b : opposite_of m.meta q ≡ Some p = (pair_of_opposites m.meta p q k.well e).back in
    let w : Some r ≡ Some p = sym h ∙ b in
    let same : r ≡ p = cc in
    let z : true ≡ false = sym c.composite ∙ ap (λ x. (prop_at m.meta x).composite) (sym same) ∙ f in cc

pub place_known : (meta : MetaDesc) (rows : List Row) (v : ModelData) (o q place : ℕ) → seen meta rows ≡ v → IsPlaceOf v o q place → q < prop_count meta
place_known meta rows v o q place e s = prop_known meta s.class q (has_seen meta rows v o q s.class s.class e s.class_is s.class_is s.has)

pub place_within : (meta : MetaDesc) (rows : List Row) (finds : List ℕ → ℕ → Type 0) (live o q place : ℕ) (v : ModelData) → IsTied meta rows finds live → seen meta rows ≡ v → IsPlaceOf v o q place → place < length (row_at rows o).places
place_within meta rows finds live o q place v t e s =
    subst (λ (k : ℕ). k < length (row_at rows o).places) (ap (λ m. near m s.class q) (same_meta meta rows v e) ∙ sym s.place_is)
    (near-within meta rows o s.class q (placed_seen meta rows finds live o s.class v t e s.class_is) (has_seen meta rows v o q s.class s.class e s.class_is s.class_is s.has))

pub place_partners : (meta : MetaDesc) (rows : List Row) (v : ModelData) (o q place : ℕ) → seen meta rows ≡ v → IsPlaceOf v o q place → partners_at v o q ≡ map (λ x. x.0) (joined_at rows o place)
place_partners meta rows v o q place e s =
    partners_seen meta rows v o q s.class e s.class_is
    ∙ ap (λ k. map (λ x. x.0) (joined_at rows o k)) (ap (λ m. near m s.class q) (same_meta meta rows v e) ∙ sym s.place_is)

pub no_partner : (m : ModelData) (o q a p : ℕ) → Kept m → partners_at m o q ≡ [] → opposite_of m.meta p ≡ Some q → IsContainedIn m o a p → ⊥
no_partner m o q a p k none e h = no_link (subst (λ (xs : List ℕ). Contains xs a) none (partner_from_contained m o q a p k e h))

pub contained_by : (m : ModelData) (o q a p : ℕ) (rest : List ℕ) → Kept m → partners_at m o q ≡ a ∷ rest → opposite_of m.meta q ≡ Some p → (prop_at m.meta p).composite ≡ true → IsContainedIn m o a p
contained_by m o q a p rest k first e w = record {
  composite = w;
  linked = (k.opposites q p o a e).0 (subst (λ (xs : List ℕ). Contains xs a) (sym first) (0, omega arith, refl));
}

-- the i-th property of an object's class, and its place
pub place_of_property : (v : ModelData) (o c i : ℕ) (props : List PropId) (d : PropId) → Kept v → class_at v o ≡ Some c → c < class_count v.meta → prop_numbers props ≡ props_of v.meta c → i < length props
    → IsPlaceOf v o (get_or props i d).0 (i + 2)
place_of_property v o c i props d k hc lc same l =
    let len : length (prop_numbers props) ≡ length props = length-map props (λ p. p.0) in
    let at : get_or (prop_numbers props) i d.0 ≡ (get_or props i d).0 = get_or-map (λ p. p.0) props i d d.0 l in
    let number : get_or (props_of v.meta c) i d.0 ≡ (get_or props i d).0 = ap (λ xs. get_or xs i d.0) (sym same) ∙ at in
    let inside : i < length (props_of v.meta c) = subst (λ (xs : List ℕ). i < length xs) same (omega arith) in
    let first : index_of (props_of v.meta c) (get_or (props_of v.meta c) i d.0) ≡ i = property_place v.meta c i d.0 inside in
    record {
      class = c;
      class_is = hc;
      has = subst (Contains (props_of v.meta c)) number (Contains-get_or (props_of v.meta c) i d.0 inside);
      place_is = (let index : index_of (props_of v.meta c) (get_or props i d).0 ≡ i = ap (index_of (props_of v.meta c)) (sym number) ∙ first in omega arith);
    }

-- where none of the object's properties shows a container, no opposite does
pub no_property_left : (v : ModelData) (o c : ℕ) (props : List PropId) (d : PropId) → Kept v → class_at v o ≡ Some c → prop_numbers props ≡ props_of v.meta c
    → ((k : ℕ) → k < length props → (a p : ℕ) → opposite_of v.meta p ≡ Some (get_or props k d).0 → IsContainedIn v o a p → ⊥)
    → (a p q : ℕ) → opposite_of v.meta p ≡ Some q → IsContainedIn v o a p → ⊥
no_property_left v o c props d k hc same none a p q e h =
    let r = linked_reference v q o a (sound_of v k) (partner_from_contained v o q a p k e h) in
    let ec : r.class ≡ c = same_class v o r.class c r.class_is hc in
    let (i, li, ei) = subst (λ (xs : List ℕ). Contains xs q) (sym same) (subst (λ (x : ℕ). Contains (props_of v.meta x) q) ec r.has) in
    let len : length (prop_numbers props) ≡ length props = length-map props (λ p. p.0) in
    let short : i < length props = omega arith in
    let number : (get_or props i d).0 ≡ q = sym (get_or-map (λ p. p.0) props i d q short) ∙ ei in
    none i short a p (e ∙ ap Some (sym number)) h

-- ---- by a reference without an opposite

nameless-zero : (meta : MetaDesc) (p : ℕ) → nameless meta p ≡ 0 → (prop_at meta p).composite ≡ true
nameless-zero meta p h = by_test (prop_at meta p).composite h where
  by_test : (b : Bool) → ◌≡◌ {A = ℕ} (cond b 0 1) 0 → b ≡ true
  by_test true e = refl
  by_test false e = absurd (omega arith)

far-zero : (props : List ℕ) (o : Option ℕ) (n : ℕ) → far_among props o n ≡ 0 → n ≡ 0
far-zero props None n h = h
far-zero props (Some q) n h = by_test (nat_lt (index_of props q) (length props)) h where
  by_test : (b : Bool) → cond b (suc (suc (index_of props q))) n ≡ 0 → n ≡ 0
  by_test true e = absurd (omega arith)
  by_test false e = e

pub nameless_place : (meta : MetaDesc) (rows : List Row) (finds : List ℕ → ℕ → Type 0) (live o : ℕ) (v : ModelData) → IsTied meta rows finds live → seen meta rows ≡ v → IsLive v o → 0 < length (row_at rows o).places
nameless_place meta rows finds live o v t e l =
    let (c, hc) = live_class v o l in
    let places : length (row_at rows o).places ≡ suc (suc (length (props_of meta c))) = (placed_seen meta rows finds live o c v t e hc).places in
    omega arith

-- what the first nameless place is joined to is the place of a property by which the object is contained
pub record IsNamelessContainer (v : ModelData) (o a place : ℕ) : Type 0 where
  pub class : ℕ
  pub class_is : class_at v a ≡ Some class
  pub prop : ℕ
  pub has : Contains (props_of v.meta class) prop
  pub place_is : place ≡ near v.meta class prop
  pub contained : IsContainedIn v o a prop

pub nameless_found : (meta : MetaDesc) (rows : List Row) (finds : List ℕ → ℕ → Type 0) (live o a place : ℕ) (rest : List (ℕ × ℕ)) (v : ModelData) → IsTied meta rows finds live → IsMutual rows → seen meta rows ≡ v → IsLive v o
    → joined_at rows o 0 ≡ (a, place) ∷ rest → IsNamelessContainer v o a place
nameless_found meta rows finds live o a place rest v t both e l first =
    let (c, hc) = live_class v o l in
    let there : Contains (joined_at rows o 0) (a, place) = subst (λ (xs : List (ℕ × ℕ)). Contains xs (a, place)) (sym first) (0, omega arith, refl) in
    let f = t.near_ends o c 0 (a, place) (class_of_rows meta rows v o c e hc) (omega arith) there in
    let em : meta ≡ v.meta = same_meta meta rows v e in
    let ha : class_at v a ≡ Some f.class = ap (λ m. class_at m a) (sym e) ∙ class_seen meta rows a ∙ f.class_is in
    let back : Contains (joined_at rows a (near meta f.class f.prop)) (o, 0) = subst (λ (k : ℕ). Contains (joined_at rows a k) (o, 0)) f.place (both o 0 (a, place) there) in
    record {
      class = f.class;
      class_is = ha;
      prop = f.prop;
      has = subst (λ (m : MetaDesc). Contains (props_of m f.class) f.prop) em f.has;
      place_is = f.place ∙ ap (λ m. near m f.class f.prop) em;
      contained = record {
        composite = ap (λ m. (prop_at m f.prop).composite) (sym em) ∙ nameless-zero meta f.prop (far-zero (props_of meta c) (opposite_of meta f.prop) (nameless meta f.prop) f.back);
        linked = subst (λ (xs : List ℕ). Contains xs o) (sym (partners_seen meta rows v a f.prop f.class e ha)) (contains_map (λ x. x.0) (joined_at rows a (near meta f.class f.prop)) (o, 0) back);
      };
    }

-- the property there, as the code reads it
pub nameless_prop : (v : ModelData) (o a place c : ℕ) (props : List PropId) (d : PropId) → IsNamelessContainer v o a place → class_at v a ≡ Some c → prop_numbers props ≡ props_of v.meta c
    → (2 ≤ place) × (place - 2 < length props) × IsContainedIn v o a (get_or props (place - 2) d).0
nameless_prop v o a place c props d s hc same =
    let ec : s.class ≡ c = same_class v a s.class c s.class_is hc in
    let i : ℕ = index_of (props_of v.meta c) s.prop in
    let index : place ≡ suc (suc i) = s.place_is ∙ ap (λ x. near v.meta x s.prop) ec in
    let within : i < length (props_of v.meta c) = index-within (props_of v.meta c) s.prop (subst (λ (x : ℕ). Contains (props_of v.meta x) s.prop) ec s.has) in
    let total : length (props_of v.meta c) ≡ length props = ap length (sym same) ∙ length-map props (λ p. p.0) in
    let at : place - 2 ≡ i = omega arith in
    let short : i < length props = omega arith in
    let number : (get_or props (place - 2) d).0 ≡ s.prop =
    ap (λ n. (get_or props n d).0) at ∙ sym (get_or-map (λ p. p.0) props i d d.0 short) ∙ ap (λ xs. get_or xs i d.0) same ∙ index-found (props_of v.meta c) s.prop d.0 within in
    (omega arith, omega arith, subst (IsContainedIn v o a) (sym number) s.contained)

pub nameless_none : (meta : MetaDesc) (rows : List Row) (finds : List ℕ → ℕ → Type 0) (live o a p : ℕ) (v : ModelData) → IsTied meta rows finds live → IsMutual rows → seen meta rows ≡ v → Kept v
    → joined_at rows o 0 ≡ [] → opposite_of v.meta p ≡ None → IsContainedIn v o a p → ⊥
nameless_none meta rows finds live o a p v t both e k none alone h =
    let r = linked_reference v p a o (sound_of v k) h.linked in
    let em : meta ≡ v.meta = same_meta meta rows v e in
    let hp : Contains (props_of meta r.class) p = has_seen meta rows v a p r.class r.class e r.class_is r.class_is r.has in
    let there : Contains (map (λ x. x.0) (joined_at rows a (near meta r.class p))) o = subst (λ (xs : List ℕ). Contains xs o) (partners_seen meta rows v a p r.class e r.class_is) h.linked in
    let (x, cx, ex) = Contains-from_map (λ x. x.0) (joined_at rows a (near meta r.class p)) o there in
    let f = t.far_ends a r.class p x (class_of_rows meta rows v a r.class e r.class_is) hp cx in
    let lone : opposite_of meta p ≡ None = ap (λ m. opposite_of m p) em ∙ alone in
    let composite : (prop_at meta p).composite ≡ true = ap (λ m. (prop_at m p).composite) em ∙ h.composite in
    let place : x.1 ≡ 0 = f.place ∙ ap (λ q. far_among (props_of meta f.class) q (nameless meta p)) lone ∙ ap (λ b. cond b 0 1) composite in
    let back : Contains (joined_at rows x.0 x.1) (a, near meta r.class p) = both a (near meta r.class p) x cx in
    let here : Contains (joined_at rows o 0) (a, near meta r.class p) =
    subst (λ (i : ℕ). Contains (joined_at rows i 0) (a, near meta r.class p)) ex (subst (λ (j : ℕ). Contains (joined_at rows x.0 j) (a, near meta r.class p)) place back) in
    no_link (subst (λ (xs : List (ℕ × ℕ)). Contains xs (a, near meta r.class p)) none here)

-- ---- both ways

pub container_reference : (m : ModelData) (o a p : ℕ) → Kept m → IsContainedIn m o a p → IsReferenceOf m a p
container_reference m o a p k h = linked_reference m p a o (sound_of m k) h.linked

pub top_from_both : (m : ModelData) (o : ℕ) → ((a p : ℕ) → opposite_of m.meta p ≡ None → IsContainedIn m o a p → ⊥) → ((a p q : ℕ) → opposite_of m.meta p ≡ Some q → IsContainedIn m o a p → ⊥) → IsTop m o
top_from_both m o alone paired a p h = by_opposite (opposite_of m.meta p) refl where
  by_opposite : (q : Option ℕ) → opposite_of m.meta p ≡ q → ⊥
  by_opposite None e = alone a p e h
  by_opposite (Some q) e = paired a p q e h

pub if_some : {T : Type 0} {P Q : T → Type 0} (r : Option T) → ((x : T) → P x → Q x) → IfSome r P → IfSome r Q
if_some None f h = h
if_some (Some x) f h = f x h

pub if_none : {T P Q : Type 0} (r : Option T) → (P → Q) → IfNone r P → IfNone r Q
if_none None f h = f h
if_none (Some x) f h = h
