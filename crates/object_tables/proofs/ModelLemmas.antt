-- What a model shows of its tables.
use Rattle.std.proofs.Common.{◌≡◌, ◌≢◌, ℕ, ◌+◌, ◌<◌, ◌^◌, zero, suc, List, [], ◌∷◌, length, get_or, map, drop, refl, ap, sym, ◌∙◌, arith, subst, Option, Some, None, Bool, true, false, cond, inl, inr, rules}
use Rattle.std.specs.Prelude.{Contains, option_map, encode_utf8_all, chars, ◌==◌, IsSome, All}
use Rattle.std.specs.Str.{IsUtf8}
use Rattle.std.proofs.lemmas.Str.{encodes-chars}
use Rattle.std.proofs.lemmas.Bool.{cases_lt, eqb-true}
use Rattle.std.proofs.Common.{eq-eqb}
use Rattle.std.proofs.lemmas.List.{get_or-map, get_or_past, length-map, get_or-drop}
use Rattle.std.proofs.lemmas.List.Elements.{Contains-get_or}
use Rattle.object_tables.proofs.ListLemmas.{Contains-from_map}
use Rattle.mof_metamodel.specs.declared.desc.MetaDesc.{MetaDesc}
use Rattle.mof_metamodel.specs.Metamodels.{class_count, props_of, class_at as meta_class}
use Rattle.object_tables.specs.declared.tables.Named.{Named}
use Rattle.object_tables.specs.Rows.{Row, Place, row_at, place_at, joined_at, no_row, no_place}
use Rattle.object_tables.specs.Objects.{Object, object_of, object_from, slot_of}
use Rattle.object_tables.specs.Models.{ModelData, object_at, class_at, id_at, slot_in, index_of, slot_number, values_at, partners_at}
use Rattle.object_tables.specs.Tied.{near, named_in, class_in, IsTied}

abbrev pub seen : MetaDesc → List Row → ModelData
seen meta rows = record { meta = meta; objects = map object_of rows }

pub object_seen : (rows : List Row) (o : ℕ) → get_or (map object_of rows) o None ≡ object_of (row_at rows o)
object_seen rows o = elim (cases_lt o (length rows)) [
  | inl l ↦ get_or-map object_of rows o no_row None l
  | inr le ↦ get_or_past (map object_of rows) o None (let e = length-map rows object_of in omega arith) ∙ ap object_of (sym (get_or_past rows o no_row le))
]

class_from : (named : Option Named) (ps : List Place) → option_map (λ ob. ob.class) (object_from named ps) ≡ option_map (λ n. n.class) named
class_from None ps = refl
class_from (Some n) ps = refl

id_from : (named : Option Named) (ps : List Place) → option_map (λ ob. ob.id) (object_from named ps) ≡ option_map (λ n. n.id) named
id_from None ps = refl
id_from (Some n) ps = refl

pub class_seen : (meta : MetaDesc) (rows : List Row) (o : ℕ) → class_at (seen meta rows) o ≡ class_in rows o
class_seen meta rows o = ap (option_map (λ ob. ob.class)) (object_seen rows o) ∙ class_from (row_at rows o).named (row_at rows o).places

pub id_seen : (meta : MetaDesc) (rows : List Row) (o : ℕ) → id_at (seen meta rows) o ≡ option_map (λ n. n.id) (named_in rows o)
id_seen meta rows o = ap (option_map (λ ob. ob.id)) (object_seen rows o) ∙ id_from (row_at rows o).named (row_at rows o).places

-- ---- where an object's places stand

pub record IsPlaced (meta : MetaDesc) (rows : List Row) (o c : ℕ) : Type 0 where
  pub object : o < length rows
  pub class : c < class_count meta
  pub places : length (row_at rows o).places ≡ suc (suc (length (props_of meta c)))
  pub small : suc (suc (length (props_of meta c))) < 2 ^ 32

named_below : (rows : List Row) (o : ℕ) (n : Named) → named_in rows o ≡ Some n → o < length rows
named_below rows o n e = elim (cases_lt o (length rows)) [
  | inl l ↦ l
  | inr le ↦ (let h : named_in rows o ≡ None = ap (λ r. r.named) (get_or_past rows o no_row le) in cc)
]

pub class_named : (rows : List Row) (o c : ℕ) → class_in rows o ≡ Some c → (n : Named) × (named_in rows o ≡ Some n) × (n.class ≡ c)
class_named rows o c e = of_option (named_in rows o) e where
  of_option : (x : Option Named) → option_map (λ n. n.class) x ≡ Some c → (n : Named) × (x ≡ Some n) × (n.class ≡ c)
  of_option None h = absurd cc
  of_option (Some n) h = (n, refl, cc)

pub placed : (meta : MetaDesc) (rows : List Row) (finds : List ℕ → ℕ → Type 0) (live o c : ℕ) → IsTied meta rows finds live → class_in rows o ≡ Some c → IsPlaced meta rows o c
placed meta rows finds live o c t e =
    let (n, en, ec) = class_named rows o c e in
    let s = t.shaped o n en in
    record {
      object = named_below rows o n en;
      class = subst (λ (x : ℕ). x < class_count meta) ec s.class;
      places = s.places ∙ ap (λ x. suc (suc (length (props_of meta x)))) ec;
      small = subst (λ (x : ℕ). suc (suc (length (props_of meta x))) < 2 ^ 32) ec s.small;
    }

-- the same of a class that the model shows
pub placed_seen : (meta : MetaDesc) (rows : List Row) (finds : List ℕ → ℕ → Type 0) (live o c : ℕ) (v : ModelData) → IsTied meta rows finds live → seen meta rows ≡ v → class_at v o ≡ Some c → IsPlaced meta rows o c
placed_seen meta rows finds live o c v t e h = placed meta rows finds live o c t (sym (class_seen meta rows o) ∙ ap (λ x. class_at x o) e ∙ h)

-- ---- slots

rest_has : (q p : ℕ) (qs : List ℕ) → (q == p) ≡ false → Contains (q ∷ qs) p → Contains qs p
rest_has q p qs h (zero, l, e) = absurd (let w : true ≡ false = sym (eq-eqb q p e) ∙ h in cc)
rest_has q p qs h (suc k, l, e) = (k, omega arith, e)

pub index-within : (props : List ℕ) (p : ℕ) → Contains props p → index_of props p < length props
index-within [] p (k, l, e) = absurd (omega arith)
index-within (q ∷ qs) p c = by_test (λ d. index-within qs p d) (q == p) refl where
  by_test : (Contains qs p → index_of qs p < length qs) → (b : Bool) → (q == p) ≡ b → cond b 0 (suc (index_of qs p)) < suc (length qs)
  by_test rest true h = omega arith
  by_test rest false h = let i = rest (rest_has q p qs h c) in omega arith

get_or-map_default : {X Y : Type 0} (f : X → Y) (xs : List X) (i : ℕ) (d : X) → get_or (map f xs) i (f d) ≡ f (get_or xs i d)
get_or-map_default f [] i d = refl
get_or-map_default f (x ∷ xs) zero d = refl
get_or-map_default f (x ∷ xs) (suc i) d = get_or-map_default f xs i d

slot_from : (meta : MetaDesc) (p c : ℕ) (named : Option Named) (ps : List Place) → option_map (λ n. n.class) named ≡ Some c
    → slot_in meta p (object_from named ps) ≡ slot_of (get_or ps (near meta c p) no_place)
slot_from meta p c None ps h = absurd cc
slot_from meta p c (Some n) ps h =
    let e : n.class ≡ c = cc in
    get_or-map_default slot_of (drop 2 ps) (slot_number meta n.class p) no_place
    ∙ ap slot_of (get_or-drop 2 ps (slot_number meta n.class p) no_place ∙ ap (λ i. get_or ps i no_place) (let w : 2 + slot_number meta n.class p ≡ suc (suc (slot_number meta n.class p)) = omega arith in w) ∙ ap (λ x. get_or ps (near meta x p) no_place) e)

pub slot_seen : (meta : MetaDesc) (rows : List Row) (o p c : ℕ) → class_in rows o ≡ Some c → slot_in meta p (object_at (seen meta rows) o) ≡ slot_of (place_at rows o (near meta c p))
slot_seen meta rows o p c e = ap (slot_in meta p) (object_seen rows o) ∙ slot_from meta p c (row_at rows o).named (row_at rows o).places e

pub values_seen : (meta : MetaDesc) (rows : List Row) (v : ModelData) (o p c : ℕ) → seen meta rows ≡ v → class_at v o ≡ Some c → values_at v o p ≡ (place_at rows o (near meta c p)).values
values_seen meta rows v o p c e h =
    ap (λ x. values_at x o p) (sym e) ∙ ap (λ s. s.values) (slot_seen meta rows o p c (sym (class_seen meta rows o) ∙ ap (λ x. class_at x o) e ∙ h))

pub partners_seen : (meta : MetaDesc) (rows : List Row) (v : ModelData) (o p c : ℕ) → seen meta rows ≡ v → class_at v o ≡ Some c → partners_at v o p ≡ map (λ e. e.0) (joined_at rows o (near meta c p))
partners_seen meta rows v o p c e h =
    ap (λ x. partners_at x o p) (sym e) ∙ ap (λ s. s.partners) (slot_seen meta rows o p c (sym (class_seen meta rows o) ∙ ap (λ x. class_at x o) e ∙ h))

-- ---- identifiers

pub id_found : (meta : MetaDesc) (rows : List Row) (o : ℕ) (v : ModelData) (id : List ℕ) → seen meta rows ≡ v → option_map (λ n. n.id) (named_in rows o) ≡ Some id → id_at v o ≡ Some id
id_found meta rows o v id e h = ap (λ x. id_at x o) (sym e) ∙ id_seen meta rows o ∙ h

pub id_absent : (meta : MetaDesc) (rows : List Row) (finds : List ℕ → ℕ → Type 0) (live o : ℕ) (v : ModelData) (bytes : List ℕ) → IsTied meta rows finds live → seen meta rows ≡ v → IsUtf8 bytes
    → (finds bytes o → option_map (λ n. n.id) (named_in rows o) ≡ Some (chars bytes) → ⊥) → id_at v o ≢ Some (chars bytes)
id_absent meta rows finds live o v bytes t e u h g =
    let is : option_map (λ n. n.id) (named_in rows o) ≡ Some (chars bytes) = sym (id_seen meta rows o) ∙ ap (λ x. id_at x o) e ∙ g in
    of_option (named_in rows o) refl is where
      of_option : (x : Option Named) → named_in rows o ≡ x → option_map (λ n. n.id) x ≡ Some (chars bytes) → ⊥
      of_option None en h' = absurd cc
      of_option (Some n) en h' =
          let w : n.id ≡ chars bytes = cc in
          h (subst (λ b. finds b o) (ap encode_utf8_all w ∙ encodes-chars bytes u) (t.found o n en)) (ap (option_map (λ n. n.id)) en ∙ h')

pub near-within : (meta : MetaDesc) (rows : List Row) (o c p : ℕ) → IsPlaced meta rows o c → Contains (props_of meta c) p → near meta c p < length (row_at rows o).places
near-within meta rows o c p s h = let i = index-within (props_of meta c) p h in let e = s.places in omega arith

-- the class has the property, by its class in the model
pub has_seen : (meta : MetaDesc) (rows : List Row) (v : ModelData) (o p c k : ℕ) → seen meta rows ≡ v → class_at v o ≡ Some c → class_at v o ≡ Some k → Contains (props_of v.meta k) p → Contains (props_of meta c) p
has_seen meta rows v o p c k e h g d =
    let w : k ≡ c = cc in
    subst (λ x. Contains (props_of meta x) p) w (subst (λ m. Contains (props_of m k) p) (sym (ap (λ x. x.meta) e)) d)

-- a number's first place has it
pub index-found : (props : List ℕ) (p d : ℕ) → index_of props p < length props → get_or props (index_of props p) d ≡ p
index-found [] p d l = absurd (omega arith)
index-found (q ∷ qs) p d l = by_test (λ h. index-found qs p d h) (q == p) refl l where
  by_test : (index_of qs p < length qs → get_or qs (index_of qs p) d ≡ p) → (b : Bool) → (q == p) ≡ b → cond b 0 (suc (index_of qs p)) < suc (length qs) → get_or (q ∷ qs) (cond b 0 (suc (index_of qs p))) d ≡ p
  by_test rest true h l = eqb-true q p h
  by_test rest false h l = rest (omega arith)

-- two numbers with one place are one
pub index-same : (props : List ℕ) (p q : ℕ) → index_of props p < length props → index_of props q < length props → index_of props p ≡ index_of props q → p ≡ q
index-same props p q l m e = sym (index-found props p 0 l) ∙ ap (λ i. get_or props i 0) e ∙ index-found props q 0 m

pub live_class : (v : ModelData) (o : ℕ) → IsSome (object_at v o) → (c : ℕ) × (class_at v o ≡ Some c)
live_class v o h = of_option (object_at v o) h where
  of_option : (x : Option Object) → IsSome x → (c : ℕ) × (option_map (λ ob. ob.class) x ≡ Some c)
  of_option None g = absurd (search rules)
  of_option (Some ob) g = (ob.class, refl)

pub class_of_rows : (meta : MetaDesc) (rows : List Row) (v : ModelData) (o c : ℕ) → seen meta rows ≡ v → class_at v o ≡ Some c → class_in rows o ≡ Some c
class_of_rows meta rows v o c e h = sym (class_seen meta rows o) ∙ ap (λ x. class_at x o) e ∙ h

pub same_class : (v : ModelData) (o c k : ℕ) → class_at v o ≡ Some c → class_at v o ≡ Some k → c ≡ k
same_class v o c k h g = cc

pub live_from_class : (v : ModelData) (o c : ℕ) → class_at v o ≡ Some c → IsSome (object_at v o)
live_from_class v o c h = of_option (object_at v o) h where
  of_option : (x : Option Object) → option_map (λ ob. ob.class) x ≡ Some c → IsSome x
  of_option None g = absurd cc
  of_option (Some ob) g = search rules

-- the partners of an object are live
pub partners_live : (meta : MetaDesc) (rows : List Row) (finds : List ℕ → ℕ → Type 0) (live : ℕ) (v : ModelData) (o p c : ℕ) → IsTied meta rows finds live → seen meta rows ≡ v → class_at v o ≡ Some c → Contains (props_of meta c) p
    → All (λ b. IsSome (object_at v b)) (partners_at v o p)
partners_live meta rows finds live v o p c t e h hp k d l =
    let same : partners_at v o p ≡ map (λ x. x.0) (joined_at rows o (near meta c p)) = partners_seen meta rows v o p c e h in
    let here : Contains (partners_at v o p) (get_or (partners_at v o p) k d) = Contains-get_or (partners_at v o p) k d l in
    let (x, cx, ex) = Contains-from_map (λ x. x.0) (joined_at rows o (near meta c p)) _ (subst (λ xs. Contains xs (get_or (partners_at v o p) k d)) same here) in
    let f = t.far_ends o c p x (class_of_rows meta rows v o c e h) hp cx in
    subst (λ b. IsSome (object_at v b)) ex (live_from_class v x.0 f.class (ap (λ m. class_at m x.0) (sym e) ∙ class_seen meta rows x.0 ∙ f.class_is))

-- the class of an object is one of the metamodel, and concrete
pub class_facts : (meta : MetaDesc) (rows : List Row) (finds : List ℕ → ℕ → Type 0) (live o : ℕ) (n : Named) (v : ModelData) → IsTied meta rows finds live → seen meta rows ≡ v → Some n ≡ named_in rows o
    → (n.class < class_count v.meta) × ((meta_class v.meta n.class).is_abstract ≡ false)
class_facts meta rows finds live o n v t e h =
    let s = t.shaped o n (sym h) in
    let em : meta ≡ v.meta = ap (λ m. m.meta) e in
    (subst (λ (m : MetaDesc). n.class < class_count m) em s.class, ap (λ m. (meta_class m n.class).is_abstract) (sym em) ∙ s.concrete)

pub live_from_id : (v : ModelData) (o : ℕ) (id : List ℕ) → id_at v o ≡ Some id → IsSome (object_at v o)
live_from_id v o id h = of_option (object_at v o) h where
  of_option : (x : Option Object) → option_map (λ ob. ob.id) x ≡ Some id → IsSome x
  of_option None g = absurd cc
  of_option (Some ob) g = search rules
