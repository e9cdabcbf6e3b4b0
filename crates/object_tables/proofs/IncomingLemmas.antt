-- The links to an object by references without an opposite, found at its nameless places.
use Rattle.std.proofs.Common.{◌≡◌, ◌≢◌, ℕ, ◌-◌, ◌<◌, suc, List, ◌++◌, length, get_or, map, refl, ap, sym, ◌∙◌, arith, subst, Option, Some, None, inl, inr}
use Rattle.std.specs.Prelude.{Contains, All, AllPairs}
use Rattle.std.proofs.lemmas.Bool.{cases_lt}
use Rattle.std.proofs.lemmas.List.{get_or-map, get_or_append_left, get_or-append_right, length-map, length-append}
use Rattle.std.proofs.lemmas.List.Elements.{Contains-get_or, Contains-append_left, Contains-append_right, Contains-append_cases}
use Rattle.mof_metamodel.specs.declared.desc.MetaDesc.{MetaDesc}
use Rattle.mof_metamodel.specs.declared.desc.PropId.{PropId}
use Rattle.mof_metamodel.specs.Metamodels.{class_count, props_of, type_of, opposite_of}
use Rattle.mof_metamodel.proofs.Facts.{contains_map}
use Rattle.object_tables.specs.declared.value.ObjId.{ObjId}
use Rattle.object_tables.specs.Rows.{Row, joined_at, IsMutual, IsSingle}
use Rattle.object_tables.specs.Models.{ModelData, class_at, index_of, IsLive, IsLinked, IsReferenceOf, IsPartnerFor, ConformsTo}
use Rattle.object_tables.specs.Tied.{near, far, far_among, nameless, class_in, IsTied}
use Rattle.object_tables.specs.Kept.{Kept}
use Rattle.object_tables.specs.Incoming.{IsIncoming, IsOfProperty, prop_in, link_of}
use Rattle.object_tables.proofs.ListLemmas.{Contains-from_map}
use Rattle.object_tables.proofs.ModelLemmas.{seen, class_seen, placed, placed_seen, partners_seen, live_class, same_class, class_of_rows, has_seen, index-within, index-found}
use Rattle.object_tables.proofs.InheritLemmas.{IsPairOf, pair_of_opposites}
use Rattle.object_tables.proofs.EditLemmas.{far-among_back, nameless-below}
use Rattle.object_tables.proofs.KeptLemmas.{sound_of, linked_reference}

-- what stands at a nameless place is the near end of a link to the object
pub record IsFound (meta : MetaDesc) (rows : List Row) (v : ModelData) (o k : ℕ) (e : ℕ × ℕ) : Type 0 where
  pub property : IsOfProperty meta rows e
  pub prop : ℕ
  pub prop_is : prop_in meta (class_in rows e.0) e.1 ≡ prop
  pub incoming : IsIncoming v o e.0 prop
  pub at : k ≡ nameless meta prop
  pub place : e.1 ≡ near meta property.class prop

pub found_at : (meta : MetaDesc) (rows : List Row) (finds : List ℕ → ℕ → Type 0) (live o c k : ℕ) (e : ℕ × ℕ) (v : ModelData) → IsTied meta rows finds live
    → IsMutual rows → seen meta rows ≡ v → Kept v → class_at v o ≡ Some c → k < 2 → Contains (joined_at rows o k) e → IsFound meta rows v o k e
found_at meta rows finds live o c k e v t both sn kept hc small there =
    let f = t.near_ends o c k e (class_of_rows meta rows v o c sn hc) small there in
    let em : meta ≡ v.meta = ap (λ m. m.meta) sn in
    let ha : class_at v e.0 ≡ Some f.class = ap (λ m. class_at m e.0) (sym sn) ∙ (class_seen meta rows e.0 ∙ f.class_is) in
    let back : Contains (joined_at rows e.0 (near meta f.class f.prop)) (o, k) = subst (λ (i : ℕ). Contains (joined_at rows e.0 i) (o, k)) f.place (both o k e there) in
    let linked : IsLinked v f.prop e.0 o =
    subst (λ (xs : List ℕ). Contains xs o) (sym (partners_seen meta rows v e.0 f.prop f.class sn ha)) (contains_map (λ x. x.0) (joined_at rows e.0 (near meta f.class f.prop)) (o, k) back) in
    let r : IsReferenceOf v e.0 f.prop = linked_reference v f.prop e.0 o (sound_of v kept) linked in
    let to : far v.meta c f.prop ≡ k = ap (λ m. far m c f.prop) (sym em) ∙ f.back in
    let alone : opposite_of v.meta f.prop ≡ None = by_opposite f.prop linked r to (opposite_of v.meta f.prop) refl in
    let first : index_of (props_of meta f.class) f.prop < length (props_of meta f.class) = index-within (props_of meta f.class) f.prop f.has in
    let at : e.1 - 2 ≡ index_of (props_of meta f.class) f.prop = omega (arith, f.place) in
    record {
      property = record {
        class = f.class;
        class_is = f.class_is;
        known = (placed meta rows finds live e.0 f.class t f.class_is).class;
        behind = omega (arith, f.place);
        property = omega arith;
      };
      prop = f.prop;
      prop_is = ap (λ y. prop_in meta y e.1) f.class_is ∙ (ap (λ i. get_or (props_of meta f.class) i 0) at ∙ index-found (props_of meta f.class) f.prop 0 first);
      incoming = record { alone = alone; reference = r; linked = linked };
      at = sym to ∙ (ap (λ y. far_among (props_of v.meta c) y (nameless v.meta f.prop)) alone ∙ ap (λ m. nameless m f.prop) (sym em));
      place = f.place;
    }
  where
    by_opposite : (p : ℕ) → IsLinked v p e.0 o → IsReferenceOf v e.0 p → far v.meta c p ≡ k → (q : Option ℕ) → opposite_of v.meta p ≡ q → opposite_of v.meta p ≡ None
    by_opposite p linked r to None is = is
    by_opposite p linked r to (Some q) is =
        let pair : IsPairOf v.meta p q = pair_of_opposites v.meta p q kept.well is in
        let partner : IsPartnerFor v p o = (kept.references e.0 p r).partners o linked in
        let ec : partner.class ≡ c = same_class v o partner.class c partner.class_is hc in
        let lc : c < class_count v.meta = subst (λ (m : MetaDesc). c < class_count m) (ap (λ m. m.meta) sn) (placed_seen meta rows finds live o c v t sn hc).class in
        let has : Contains (props_of v.meta c) q = pair.near_has c lc (subst (λ (x : ℕ). ConformsTo v.meta x (type_of v.meta p)) ec partner.conforms) in
        let is_far : far v.meta c p ≡ suc (suc (index_of (props_of v.meta c) q)) =
        ap (λ y. far_among (props_of v.meta c) y (nameless v.meta p)) is ∙ far-among_back (props_of v.meta c) q (nameless v.meta p) (index-within (props_of v.meta c) q has) in
        absurd (omega arith)

-- the near end of a link to the object stands at one of its nameless places
pub record IsThere (meta : MetaDesc) (rows : List Row) (o a p : ℕ) : Type 0 where
  pub end : ℕ × ℕ
  pub there : Contains (joined_at rows o (nameless meta p)) end
  pub link : link_of meta rows end ≡ (record { 0 = a }, record { 0 = p })

pub there_at : (meta : MetaDesc) (rows : List Row) (finds : List ℕ → ℕ → Type 0) (live o a p : ℕ) (v : ModelData) → IsTied meta rows finds live → IsMutual rows
    → seen meta rows ≡ v → IsIncoming v o a p → IsThere meta rows o a p
there_at meta rows finds live o a p v t both sn h =
    let r : IsReferenceOf v a p = h.reference in
    let em : meta ≡ v.meta = ap (λ m. m.meta) sn in
    let ca : class_in rows a ≡ Some r.class = class_of_rows meta rows v a r.class sn r.class_is in
    let hp : Contains (props_of meta r.class) p = has_seen meta rows v a p r.class r.class sn r.class_is r.class_is r.has in
    let linked : Contains (map (λ x. x.0) (joined_at rows a (near meta r.class p))) o =
    subst (λ (xs : List ℕ). Contains xs o) (partners_seen meta rows v a p r.class sn r.class_is) h.linked in
    let (x, cx, ex) = Contains-from_map (λ x. x.0) (joined_at rows a (near meta r.class p)) o linked in
    let f = t.far_ends a r.class p x ca hp cx in
    let lone : opposite_of meta p ≡ None = ap (λ m. opposite_of m p) em ∙ h.alone in
    let place : x.1 ≡ nameless meta p = f.place ∙ ap (λ q. far_among (props_of meta f.class) q (nameless meta p)) lone in
    let back : Contains (joined_at rows x.0 x.1) (a, near meta r.class p) = both a (near meta r.class p) x cx in
    let first : index_of (props_of meta r.class) p < length (props_of meta r.class) = index-within (props_of meta r.class) p hp in
    let at : near meta r.class p - 2 ≡ index_of (props_of meta r.class) p = omega arith in
    let prop : prop_in meta (class_in rows a) (near meta r.class p) ≡ p =
    ap (λ y. prop_in meta y (near meta r.class p)) ca ∙ (ap (λ i. get_or (props_of meta r.class) i 0) at ∙ index-found (props_of meta r.class) p 0 first) in
    record {
      end = (a, near meta r.class p);
      there = subst (λ (i : ℕ). Contains (joined_at rows i (nameless meta p)) (a, near meta r.class p)) ex
          (subst (λ (j : ℕ). Contains (joined_at rows x.0 j) (a, near meta r.class p)) place back);
      link = ap (λ (n : ℕ). let l : ObjId × PropId = (record { 0 = a }, record { 0 = n }) in l) prop;
    }

-- all that stands at the nameless places of an object
abbrev pub near_ends : List Row → ℕ → List (ℕ × ℕ)
near_ends rows o = joined_at rows o 0 ++ joined_at rows o 1

pub record IsFoundBy (meta : MetaDesc) (rows : List Row) (v : ModelData) (o : ℕ) (e : ℕ × ℕ) : Type 0 where
  pub at : ℕ
  pub found : IsFound meta rows v o at e

found_by : (meta : MetaDesc) (rows : List Row) (finds : List ℕ → ℕ → Type 0) (live o c : ℕ) (e : ℕ × ℕ) (v : ModelData) → IsTied meta rows finds live
    → IsMutual rows → seen meta rows ≡ v → Kept v → class_at v o ≡ Some c → Contains (near_ends rows o) e → IsFoundBy meta rows v o e
found_by meta rows finds live o c e v t both sn kept hc there =
    elim (Contains-append_cases (joined_at rows o 0) (joined_at rows o 1) e there) [
      | inl h ↦ record { at = 0; found = found_at meta rows finds live o c 0 e v t both sn kept hc (omega arith) h }
      | inr h ↦ record { at = 1; found = found_at meta rows finds live o c 1 e v t both sn kept hc (omega arith) h }
    ]

pub all_of_property : (meta : MetaDesc) (rows : List Row) (finds : List ℕ → ℕ → Type 0) (live o : ℕ) (v : ModelData) → IsTied meta rows finds live
    → IsMutual rows → seen meta rows ≡ v → Kept v → IsLive v o → All (IsOfProperty meta rows) (near_ends rows o)
all_of_property meta rows finds live o v t both sn kept l i d within =
    let (c, hc) = live_class v o l in
    (found_by meta rows finds live o c (get_or (near_ends rows o) i d) v t both sn kept hc (Contains-get_or (near_ends rows o) i d within)).found.property

pub only_incoming : (meta : MetaDesc) (rows : List Row) (finds : List ℕ → ℕ → Type 0) (live o : ℕ) (v : ModelData) → IsTied meta rows finds live
    → IsMutual rows → seen meta rows ≡ v → Kept v → IsLive v o → All (λ l. IsIncoming v o l.0.0 l.1.0) (map (link_of meta rows) (near_ends rows o))
only_incoming meta rows finds live o v t both sn kept l i d within =
    let (c, hc) = live_class v o l in
    let x : ObjId × PropId = get_or (map (link_of meta rows) (near_ends rows o)) i d in
    let (e, ce, ee) = Contains-from_map (link_of meta rows) (near_ends rows o) x (Contains-get_or (map (link_of meta rows) (near_ends rows o)) i d within) in
    let f = (found_by meta rows finds live o c e v t both sn kept hc ce).found in
    subst (λ (z : ObjId × PropId). IsIncoming v o z.0.0 z.1.0) ee (subst (λ (p : ℕ). IsIncoming v o e.0 p) (sym f.prop_is) f.incoming)

pub all_incoming : (meta : MetaDesc) (rows : List Row) (finds : List ℕ → ℕ → Type 0) (live o : ℕ) (v : ModelData) → IsTied meta rows finds live
    → IsMutual rows → seen meta rows ≡ v → (a p : ℕ) → IsIncoming v o a p → Contains (map (link_of meta rows) (near_ends rows o)) (record { 0 = a }, record { 0 = p })
all_incoming meta rows finds live o v t both sn a p h =
    let s : IsThere meta rows o a p = there_at meta rows finds live o a p v t both sn h in
    let here : Contains (near_ends rows o) s.end = at_place (nameless meta p) (nameless-below meta p) s.end s.there in
    subst (Contains (map (link_of meta rows) (near_ends rows o))) s.link (contains_map (link_of meta rows) (near_ends rows o) s.end here)
  where
    at_place : (k : ℕ) → k < 2 → (e : ℕ × ℕ) → Contains (joined_at rows o k) e → Contains (near_ends rows o) e
    at_place k small e there = elim (cases_lt 0 k) [
      | inl more ↦
          (let one : k ≡ 1 = omega arith in
          Contains-append_right (joined_at rows o 0) (joined_at rows o 1) e (subst (λ (i : ℕ). Contains (joined_at rows o i) e) one there))
      | inr none ↦
          (let zero : k ≡ 0 = omega arith in
          Contains-append_left (joined_at rows o 0) (joined_at rows o 1) e (subst (λ (i : ℕ). Contains (joined_at rows o i) e) zero there))
    ]

apart_append : {X : Type 0} (xs ys : List X) → AllPairs (λ x y. x ≢ y) xs → AllPairs (λ x y. x ≢ y) ys → ((x : X) → Contains xs x → Contains ys x → ⊥)
    → AllPairs (λ x y. x ≢ y) (xs ++ ys)
apart_append xs ys one two none i j d before within same = elim (cases_lt j (length xs)) [
  | inl jx ↦
      (let ix : i < length xs = omega arith in
      one i j d before jx (sym (get_or_append_left xs ys d i ix) ∙ (same ∙ get_or_append_left xs ys d j jx)))
  | inr jy ↦
      (let yj : j - length xs < length ys = omega (arith, length-append xs ys) in
      let at_j : get_or (xs ++ ys) j d ≡ get_or ys (j - length xs) d = get_or-append_right xs ys (length xs) j d refl jy in
      elim (cases_lt i (length xs)) [
        | inl ix ↦ none (get_or xs i d) (Contains-get_or xs i d ix)
            (subst (Contains ys) (sym (sym (get_or_append_left xs ys d i ix) ∙ (same ∙ at_j))) (Contains-get_or ys (j - length xs) d yj))
        | inr iy ↦ two (i - length xs) (j - length xs) d (omega arith) yj (sym (get_or-append_right xs ys (length xs) i d refl iy) ∙ (same ∙ at_j))
      ])
]

pub once_incoming : (meta : MetaDesc) (rows : List Row) (finds : List ℕ → ℕ → Type 0) (live o : ℕ) (v : ModelData) → IsTied meta rows finds live
    → IsMutual rows → IsSingle rows → seen meta rows ≡ v → Kept v → IsLive v o → AllPairs (λ k l. k ≢ l) (map (link_of meta rows) (near_ends rows o))
once_incoming meta rows finds live o v t both once sn kept l i j d before within same =
    let (c, hc) = live_class v o l in
    let zs : List (ℕ × ℕ) = near_ends rows o in
    let none : ℕ × ℕ = (0, 0) in
    let lj : j < length zs = omega (arith, length-map zs (link_of meta rows)) in
    let li : i < length zs = omega arith in
    let x : ℕ × ℕ = get_or zs i none in
    let y : ℕ × ℕ = get_or zs j none in
    let fx = (found_by meta rows finds live o c x v t both sn kept hc (Contains-get_or zs i none li)).found in
    let fy = (found_by meta rows finds live o c y v t both sn kept hc (Contains-get_or zs j none lj)).found in
    let links : link_of meta rows x ≡ link_of meta rows y =
    sym (get_or-map (link_of meta rows) zs i none d li) ∙ (same ∙ get_or-map (link_of meta rows) zs j none d lj) in
    let object : x.0 ≡ y.0 = ap (λ z. z.0.0) links in
    let prop : fx.prop ≡ fy.prop = sym fx.prop_is ∙ (ap (λ z. z.1.0) links ∙ fy.prop_is) in
    let classes : Some fx.property.class ≡ Some fy.property.class = sym fx.property.class_is ∙ (ap (class_in rows) object ∙ fy.property.class_is) in
    let class : fx.property.class ≡ fy.property.class = cc in
    let place : x.1 ≡ y.1 = fx.place ∙ (ap (λ n. near meta n fx.prop) class ∙ (ap (near meta fy.property.class) prop ∙ sym fy.place)) in
    let is : x ≡ y = ap (λ (n : ℕ). (n, x.1)) object ∙ ap (λ (n : ℕ). (y.0, n)) place in
    apart_append (joined_at rows o 0) (joined_at rows o 1) (once o 0) (once o 1)
    (λ e a b.
    let fa = found_at meta rows finds live o c 0 e v t both sn kept hc (omega arith) a in
    let fb = found_at meta rows finds live o c 1 e v t both sn kept hc (omega arith) b in
    let one : fa.prop ≡ fb.prop = sym fa.prop_is ∙ fb.prop_is in
    let z : 0 ≡ 1 = fa.at ∙ (ap (nameless meta) one ∙ sym fb.at) in
    absurd (omega arith))
    i j none before lj is
