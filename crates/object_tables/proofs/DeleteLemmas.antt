-- A deletion: the places of an object are cleared one after another, and then its number has no object.
use Rattle.std.proofs.Common.{◌≡◌, ◌≢◌, ℕ, ◌+◌, ◌-◌, ◌<◌, ◌≤◌, zero, suc, List, [], ◌∷◌, length, get_or, map, filter, drop, refl, ap, sym, ◌∙◌, arith, subst, Option, Some, None, Bool, true, false, cond, not, inl, inr, eq-eqb, rules}
use Rattle.std.specs.Prelude.{Contains, option_map, is_some, count_by, IsSome, ◌==◌, ◌&&◌, nat_lt}
use Rattle.std.proofs.lemmas.Bool.{cases_lt, cases_eq, eqb-true, ne_eqb, lt-ltb}
use Rattle.std.proofs.lemmas.List.{length-map, get_or_past, drop-map, ext_get_or, get_or-drop, length-drop, get_or_default}
use Rattle.std.proofs.lemmas.List.Sums.{sum_by-cons}
use Rattle.mof_metamodel.specs.declared.desc.MetaDesc.{MetaDesc}
use Rattle.object_tables.specs.declared.tables.Named.{Named}
use Rattle.object_tables.specs.Lists.{update_at}
use Rattle.object_tables.specs.Rows.{Row, Place, row_at, joined_at, no_row, no_place, with_joined, row_without, place_without, with_places, is_address, cleared_place, cleared_upto, unnamed, IsRanged}
use Rattle.object_tables.specs.Objects.{object_of, object_from, slot_of}
use Rattle.object_tables.specs.Models.{ModelData, slot_without, object_without, deleted, object_at}
use Rattle.object_tables.specs.Tied.{near, named_in, class_in, IsTied}
use Rattle.object_tables.proofs.ListLemmas.{length-update_at, get_or-update_at_same, get_or-update_at_other, Contains-filter, filter-map_all, map-same_all, Contains-cons}
use Rattle.object_tables.proofs.ModelLemmas.{seen, class_named, live_class, class_of_rows}
use Rattle.object_tables.proofs.EditLemmas.{IsAlike, alike-with_place, alike-trans}

get_or-map_same : {X Y : Type 0} (f : X → Y) (xs : List X) (i : ℕ) (d : X) → get_or (map f xs) i (f d) ≡ f (get_or xs i d)
get_or-map_same f [] i d = refl
get_or-map_same f (x ∷ xs) zero d = refl
get_or-map_same f (x ∷ xs) (suc i) d = get_or-map_same f xs i d

-- ---- the rows stay alike

count-map : (f : Row → Row) (rows : List Row) → ((r : Row) → is_some (f r).named ≡ is_some r.named) → count_by (λ r. is_some r.named) (map f rows) ≡ count_by (λ r. is_some r.named) rows
count-map f [] h = refl
count-map f (r ∷ rows) h =
    sum_by-cons (λ r. cond (is_some r.named) 1 0) (f r) (map f rows)
    ∙ ap (λ b. cond b 1 0 + count_by (λ r. is_some r.named) (map f rows)) (h r)
    ∙ ap (λ k. cond (is_some r.named) 1 0 + k) (count-map f rows h)
    ∙ sym (sum_by-cons (λ r. cond (is_some r.named) 1 0) r rows)

row-map_without : (rows : List Row) (x : ℕ × ℕ) (i : ℕ) → row_at (map (row_without x) rows) i ≡ row_without x (row_at rows i)
row-map_without rows x i = get_or-map_same (row_without x) rows i no_row

alike-map : (rows : List Row) (x : ℕ × ℕ) → IsAlike rows (map (row_without x) rows)
alike-map rows x = record {
  len = length-map rows (row_without x);
  named = λ i. ap (λ r. r.named) (row-map_without rows x i);
  places = λ i. ap (λ r. length r.places) (row-map_without rows x i) ∙ length-map (row_at rows i).places (place_without x);
  count = count-map (row_without x) rows (λ r. refl);
}

alike-cleared_place : (rows : List Row) (o k : ℕ) → IsAlike rows (cleared_place rows o k)
alike-cleared_place rows o k =
    let a : List Row = map (row_without (o, k)) rows in
    let b : List Row = with_joined a o k (λ xs. []) in
    alike-trans rows a _ (alike-map rows (o, k)) (alike-trans a b _ (alike-with_place a o k _) (alike-with_place b o k _))

pub alike-cleared : (rows : List Row) (o n : ℕ) → IsAlike rows (cleared_upto rows o n)
alike-cleared rows o zero = record { len = refl; named = λ i. refl; places = λ i. refl; count = refl }
alike-cleared rows o (suc n) = alike-trans rows (cleared_upto rows o n) _ (alike-cleared rows o n) (alike-cleared_place (cleared_upto rows o n) o n)

-- ---- the rows of others

-- not one of the first n places of the object
abbrev pub stays : ℕ → ℕ → ℕ × ℕ → Bool
stays o n e = not ((e.0 == o) && nat_lt e.1 n)

abbrev pub place_upto : ℕ → ℕ → Place → Place
place_upto o n p = record p { joined = filter (stays o n) p.joined }

filter_all : {X : Type 0} (p : X → Bool) (xs : List X) → ((x : X) → p x ≡ true) → filter p xs ≡ xs
filter_all p [] h = refl
filter_all p (x ∷ xs) h = ap (λ b. cond b (x ∷ filter p xs) (filter p xs)) (h x) ∙ ap (λ ys. x ∷ ys) (filter_all p xs h)

filter_fuse : {X : Type 0} (p q r : X → Bool) (xs : List X) → ((x : X) → (q x && p x) ≡ r x) → filter p (filter q xs) ≡ filter r xs
filter_fuse p q r [] h = refl
filter_fuse p q r (x ∷ xs) h =
    first (filter_fuse p q r xs h) (q x) ∙ ap (λ b. cond b (x ∷ filter r xs) (filter r xs)) (h x) where
      first : filter p (filter q xs) ≡ filter r xs → (b : Bool) → filter p (cond b (x ∷ filter q xs) (filter q xs)) ≡ cond (b && p x) (x ∷ filter r xs) (filter r xs)
      first rest true = ap (λ ys. cond (p x) (x ∷ ys) ys) rest
      first rest false = rest

lt_false : (a b : ℕ) → b ≤ a → nat_lt a b ≡ false
lt_false a b m = search rules

stays-none : (o : ℕ) (e : ℕ × ℕ) → stays o 0 e ≡ true
stays-none o e = by_test (e.0 == o) (nat_lt e.1 0) (lt_false e.1 0 (omega arith)) where
  by_test : (a b : Bool) → b ≡ false → not (a && b) ≡ true
  by_test true b h = cc
  by_test false b h = refl

stays-more : (o n : ℕ) (e : ℕ × ℕ) → (stays o n e && not (is_address (o, n) e)) ≡ stays o (suc n) e
stays-more o n e = by_test (e.0 == o) where
  tests : (not (nat_lt e.1 n) && not (e.1 == n)) ≡ not (nat_lt e.1 (suc n))
  tests = elim (cases_lt e.1 n) [
    | inl l ↦ (let a : nat_lt e.1 n ≡ true = lt-ltb e.1 n l in let b : nat_lt e.1 (suc n) ≡ true = lt-ltb e.1 (suc n) (omega arith) in ap (λ x. not x && not (e.1 == n)) a ∙ ap not (sym b))
    | inr le ↦ elim (cases_eq e.1 n) [
      | inl q ↦ (let a : nat_lt e.1 n ≡ false = lt_false e.1 n le in let b : nat_lt e.1 (suc n) ≡ true = lt-ltb e.1 (suc n) (omega arith) in let d : (e.1 == n) ≡ true = eq-eqb e.1 n q in
          ap (λ x. not x && not (e.1 == n)) a ∙ ap not d ∙ ap not (sym b))
      | inr ne ↦ (let a : nat_lt e.1 n ≡ false = lt_false e.1 n le in let b : nat_lt e.1 (suc n) ≡ false = lt_false e.1 (suc n) (omega arith) in let d : (e.1 == n) ≡ false = ne_eqb e.1 n ne in
          ap (λ x. not x && not (e.1 == n)) a ∙ ap not d ∙ ap not (sym b))
    ]
  ]

  by_test : (a : Bool) → (not (a && nat_lt e.1 n) && not (a && (e.1 == n))) ≡ not (a && nat_lt e.1 (suc n))
  by_test true = tests
  by_test false = refl

place-none : (o : ℕ) (p : Place) → place_upto o 0 p ≡ p
place-none o p = ap (λ xs. record { values = p.values; joined = xs }) (filter_all (stays o 0) p.joined (stays-none o))

place-more : (o n : ℕ) (p : Place) → place_without (o, n) (place_upto o n p) ≡ place_upto o (suc n) p
place-more o n p = ap (λ xs. record { values = p.values; joined = xs }) (filter_fuse (λ e. not (is_address (o, n) e)) (stays o n) (stays o (suc n)) p.joined (stays-more o n))

map-id_by : (f : Place → Place) (ps : List Place) → ((p : Place) → f p ≡ p) → map f ps ≡ ps
map-id_by f [] h = refl
map-id_by f (p ∷ ps) h = ap (λ q. q ∷ map f ps) (h p) ∙ ap (λ qs. p ∷ qs) (map-id_by f ps h)

map-fuse_by : (f g h : Place → Place) (ps : List Place) → ((p : Place) → f (g p) ≡ h p) → map f (map g ps) ≡ map h ps
map-fuse_by f g h [] k = refl
map-fuse_by f g h (p ∷ ps) k = ap (λ q. q ∷ map f (map g ps)) (k p) ∙ ap (λ qs. h p ∷ qs) (map-fuse_by f g h ps k)

-- another object's row
pub row-cleared : (rows : List Row) (o n i : ℕ) → i ≢ o → row_at (cleared_upto rows o n) i ≡ with_places (place_upto o n) (row_at rows i)
row-cleared rows o zero i ne = sym (ap (λ ps. record { named = (row_at rows i).named; places = ps }) (map-id_by (place_upto o 0) (row_at rows i).places (place-none o)))
row-cleared rows o (suc n) i ne =
    let r : List Row = cleared_upto rows o n in
    let a : List Row = map (row_without (o, n)) r in
    let b : List Row = with_joined a o n (λ xs. []) in
    get_or-update_at_other b o i (λ z. record z { places = update_at z.places n (λ p. record p { values = [] }) }) no_row ne
    ∙ get_or-update_at_other a o i (λ z. record z { places = update_at z.places n (λ p. record p { joined = [] }) }) no_row ne
    ∙ row-map_without r (o, n) i
    ∙ ap (row_without (o, n)) (row-cleared rows o n i ne)
    ∙ ap (λ ps. record { named = (row_at rows i).named; places = ps }) (map-fuse_by (place_without (o, n)) (place_upto o n) (place_upto o (suc n)) (row_at rows i).places (place-more o n))

-- the rows after a deletion
abbrev pub removed : List Row → ℕ → List Row
removed rows o = unnamed (cleared_upto rows o (length (row_at rows o).places)) o

pub row-removed : (rows : List Row) (o i : ℕ) → i ≢ o → row_at (removed rows o) i ≡ with_places (place_upto o (length (row_at rows o).places)) (row_at rows i)
row-removed rows o i ne =
    get_or-update_at_other (cleared_upto rows o (length (row_at rows o).places)) o i (λ r. record r { named = None }) no_row ne ∙ row-cleared rows o (length (row_at rows o).places) i ne

pub removed-gone : (rows : List Row) (o : ℕ) → o < length rows → named_in (removed rows o) o ≡ None
removed-gone rows o l =
    let n : ℕ = length (row_at rows o).places in
    let a = alike-cleared rows o n in
    ap (λ r. r.named) (get_or-update_at_same (cleared_upto rows o n) o (λ r. record r { named = None }) no_row (let e = a.len in omega arith))

length-removed : (rows : List Row) (o : ℕ) → length (removed rows o) ≡ length rows
length-removed rows o =
    let n : ℕ = length (row_at rows o).places in
    length-update_at (cleared_upto rows o n) o (λ r. record r { named = None }) ∙ (alike-cleared rows o n).len

joined-removed : (rows : List Row) (o i k : ℕ) → i ≢ o → joined_at (removed rows o) i k ≡ filter (stays o (length (row_at rows o).places)) (joined_at rows i k)
joined-removed rows o i k ne =
    ap (λ r. (get_or r.places k no_place).joined) (row-removed rows o i ne)
    ∙ ap (λ p. p.joined) (get_or-map_same (place_upto o (length (row_at rows o).places)) (row_at rows i).places k no_place)

count-unnamed : (rows : List Row) (o : ℕ) (n : Named) → named_in rows o ≡ Some n → count_by (λ r. is_some r.named) (unnamed rows o) + 1 ≡ count_by (λ r. is_some r.named) rows
count-unnamed [] o n e = absurd cc
count-unnamed (r ∷ rows) zero n e =
    let a : count_by (λ r. is_some r.named) (unnamed (r ∷ rows) zero) ≡ 0 + count_by (λ r. is_some r.named) rows = sum_by-cons (λ r. cond (is_some r.named) 1 0) (record r { named = None }) rows in
    let b : count_by (λ r. is_some r.named) (r ∷ rows) ≡ 1 + count_by (λ r. is_some r.named) rows =
    sum_by-cons (λ r. cond (is_some r.named) 1 0) r rows ∙ ap (λ x. cond (is_some x) 1 0 + count_by (λ r. is_some r.named) rows) e in
    ap (λ k. k + 1) a ∙ plus (count_by (λ r. is_some r.named) rows) ∙ sym b where
      plus : (k : ℕ) → (0 + k) + 1 ≡ 1 + k
      plus k = omega arith
count-unnamed (r ∷ rows) (suc o) n e =
    ap (λ k. k + 1) (sum_by-cons (λ r. cond (is_some r.named) 1 0) r (unnamed rows o))
    ∙ plus (cond (is_some r.named) 1 0) (count_by (λ r. is_some r.named) (unnamed rows o))
    ∙ ap (λ k. cond (is_some r.named) 1 0 + k) (count-unnamed rows o n e)
    ∙ sym (sum_by-cons (λ r. cond (is_some r.named) 1 0) r rows) where
      plus : (a b : ℕ) → (a + b) + 1 ≡ a + (b + 1)
      plus a b = omega arith

-- what stays, and is a place, is no place of the object
stays-other : (o n : ℕ) (e : ℕ × ℕ) → stays o n e ≡ true → (e.0 ≡ o → e.1 < n) → e.0 ≢ o
stays-other o n e h r q =
    let a : (e.0 == o) ≡ true = eq-eqb e.0 o q in
    let b : nat_lt e.1 n ≡ true = lt-ltb e.1 n (r q) in
    let w : stays o n e ≡ false = ap (λ x. not (x && nat_lt e.1 n)) a ∙ ap not b in
    let z : true ≡ false = sym h ∙ w in cc

filter-test : {X : Type 0} (p : X → Bool) (xs : List X) (x : X) → Contains (filter p xs) x → p x ≡ true
filter-test p [] x (k, l, e) = absurd (omega arith)
filter-test p (y ∷ ys) x c = by_test (λ d. filter-test p ys x d) (p y) refl c where
  by_test : (Contains (filter p ys) x → p x ≡ true) → (b : Bool) → p y ≡ b → Contains (cond b (y ∷ filter p ys) (filter p ys)) x → p x ≡ true
  by_test rest true h (zero, l, e) = ap p (sym e) ∙ h
  by_test rest true h (suc k, l, e) = rest (k, omega arith, e)
  by_test rest false h d = rest d

pub tied-delete : (meta : MetaDesc) (rows new : List Row) (finds : List ℕ → ℕ → Type 0) (live live' o : ℕ) (n : Named) → IsTied meta rows finds live → IsRanged rows
    → named_in rows o ≡ Some n → new ≡ removed rows o → live' + 1 ≡ live → IsTied meta new finds live'
tied-delete meta rows new finds live live' o n t ranged en e el =
    let rows' : List Row = removed rows o in
    let size : ℕ = length (row_at rows o).places in
    let below : o < length rows = named_below rows o n en in
    let gone : named_in rows' o ≡ None = removed-gone rows o below in
    let other : (i : ℕ) (m : Named) → named_in rows' i ≡ Some m → i ≢ o = (λ i m h q. let w : named_in rows' o ≡ Some m = ap (named_in rows') (sym q) ∙ h in let z : Some m ≡ None = sym w ∙ gone in cc) in
    let kept : (i : ℕ) → i ≢ o → named_in rows' i ≡ named_in rows i = (λ i ne. ap (λ r. r.named) (row-removed rows o i ne)) in
    subst (λ rs. IsTied meta rs finds live') (sym e) (record {
      well = t.well;
      few = (let l = length-removed rows o in let f = t.few in omega arith);
      count = (let a = (alike-cleared rows o size).count in
          let b = count-unnamed (cleared_upto rows o size) o n ((alike-cleared rows o size).named o ∙ en) in
          let c = t.count in omega arith);
      shaped = λ i m h. (let ne = other i m h in let s = t.shaped i m (sym (kept i ne) ∙ h) in
          record { class = s.class; concrete = s.concrete; places = ap (λ r. length r.places) (row-removed rows o i ne) ∙ length-map (row_at rows i).places (place_upto o size) ∙ s.places; small = s.small });
      far_ends = λ i c p x hc hp hx. (
          let (m, em, ec) = class_named rows' i c hc in
          let ne = other i m em in
          let hx' : Contains (filter (stays o size) (joined_at rows i (near meta c p))) x = subst (λ xs. Contains xs x) (joined-removed rows o i (near meta c p) ne) hx in
          let old : Contains (joined_at rows i (near meta c p)) x = Contains-filter (stays o size) (joined_at rows i (near meta c p)) x hx' in
          let hc' : class_in rows i ≡ Some c = ap (option_map (λ n. n.class)) (sym (kept i ne)) ∙ hc in
          let f = t.far_ends i c p x hc' hp old in
          let apart : x.0 ≢ o = stays-other o size x (filter-test (stays o size) (joined_at rows i (near meta c p)) x hx') (λ q. subst (λ (z : ℕ). x.1 < length (row_at rows z).places) q (ranged i (near meta c p) x old)) in
          record { class = f.class; class_is = ap (option_map (λ n. n.class)) (kept x.0 apart) ∙ f.class_is; place = f.place });
      near_ends = λ i c k x hc lk hx. (
          let (m, em, ec) = class_named rows' i c hc in
          let ne = other i m em in
          let hx' : Contains (filter (stays o size) (joined_at rows i k)) x = subst (λ xs. Contains xs x) (joined-removed rows o i k ne) hx in
          let old : Contains (joined_at rows i k) x = Contains-filter (stays o size) (joined_at rows i k) x hx' in
          let hc' : class_in rows i ≡ Some c = ap (option_map (λ n. n.class)) (sym (kept i ne)) ∙ hc in
          let f = t.near_ends i c k x hc' lk old in
          let apart : x.0 ≢ o = stays-other o size x (filter-test (stays o size) (joined_at rows i k) x hx') (λ q. subst (λ (z : ℕ). x.1 < length (row_at rows z).places) q (ranged i k x old)) in
          record { class = f.class; class_is = ap (option_map (λ n. n.class)) (kept x.0 apart) ∙ f.class_is; prop = f.prop; has = f.has; place = f.place; back = f.back });
      found = λ i m h. t.found i m (sym (kept i (other i m h)) ∙ h);
    })
  where
    named_below : (rows : List Row) (o : ℕ) (n : Named) → named_in rows o ≡ Some n → o < length rows
    named_below rows o n h = elim (cases_lt o (length rows)) [
      | inl l ↦ l
      | inr le ↦ (let w : named_in rows o ≡ None = ap (λ r. r.named) (get_or_past rows o no_row le) in let z : Some n ≡ None = sym h ∙ w in absurd cc)
    ]

-- ---- what the model shows

Contains-drop : {X : Type 0} (n : ℕ) (xs : List X) (x : X) → Contains (drop n xs) x → (k : ℕ) × (k < length xs) × (get_or xs k x ≡ x)
Contains-drop n xs x (k, l, e) = (n + k, (let d = length-drop n xs in omega arith), sym (get_or-drop n xs k x) ∙ e)

slot-upto : (o n : ℕ) (p : Place) → ((e : ℕ × ℕ) → Contains p.joined e → e.0 ≡ o → e.1 < n) → slot_of (place_upto o n p) ≡ slot_without o (slot_of p)
slot-upto o n p h = ap (λ ps. record { values = p.values; partners = ps })
    (filter-map_all (λ e. e.0) (stays o n) (λ x. not (x == o)) p.joined (λ e c. ap not (by_test e (e.0 == o) refl (h e c)))) where
      by_test : (e : ℕ × ℕ) (t : Bool) → (e.0 == o) ≡ t → (e.0 ≡ o → e.1 < n) → (e.0 == o) ≡ ((e.0 == o) && nat_lt e.1 n)
      by_test e true q f = let w : nat_lt e.1 n ≡ true = lt-ltb e.1 n (f (eqb-true e.0 o q)) in cc
      by_test e false q f = cc

map-map_all : {X Y Z : Type 0} (f : X → Y) (g : Y → Z) (h : Z → Z) (k : X → X) (xs : List X) → ((x : X) → Contains xs x → g (f (k x)) ≡ h (g (f x))) → map (λ x. g (f (k x))) xs ≡ map (λ x. h (g (f x))) xs
map-map_all f g h k xs e = map-same_all (λ x. g (f (k x))) (λ x. h (g (f x))) xs e

slots-upto : (o n : ℕ) (ps : List Place) → ((p : Place) → Contains ps p → slot_of (place_upto o n p) ≡ slot_without o (slot_of p)) → map slot_of (map (place_upto o n) ps) ≡ map (slot_without o) (map slot_of ps)
slots-upto o n [] h = refl
slots-upto o n (p ∷ ps) h =
    ap (λ s. s ∷ map slot_of (map (place_upto o n) ps)) (h p (0, omega arith, refl))
    ∙ ap (λ ss. slot_without o (slot_of p) ∷ ss) (slots-upto o n ps (λ q c. h q (Contains-cons p ps q c)))

object-upto : (o n : ℕ) (named : Option Named) (ps : List Place) → ((p : Place) → Contains (drop 2 ps) p → (e : ℕ × ℕ) → Contains p.joined e → e.0 ≡ o → e.1 < n)
    → object_from named (map (place_upto o n) ps) ≡ object_without o (object_from named ps)
object-upto o n None ps h = refl
object-upto o n (Some m) ps h = ap (λ ss. Some (record { class = m.class; id = m.id; slots = ss }))
    (ap (map slot_of) (drop-map (place_upto o n) 2 ps) ∙ slots-upto o n (drop 2 ps) (λ p c. slot-upto o n p (h p c)))

pub seen-delete : (meta : MetaDesc) (rows new : List Row) (v : ModelData) (o : ℕ) (n : Named) → seen meta rows ≡ v → IsRanged rows → named_in rows o ≡ Some n → o < length rows → new ≡ removed rows o → seen meta new ≡ deleted v o
seen-delete meta rows new v o n e ranged en below er =
    ap (seen meta) er
    ∙ ap (λ xs. record { meta = meta; objects = xs })
    (ext_get_or None (map object_of (removed rows o)) (update_at (map (object_without o) (map object_of rows)) o (λ _. None)) same_length each)
    ∙ ap (λ m. deleted m o) e
  where
    same_length : length (map object_of (removed rows o)) ≡ length (update_at (map (object_without o) (map object_of rows)) o (λ _. None))
    same_length = length-map (removed rows o) object_of ∙ length-removed rows o ∙ sym (length-map rows object_of) ∙ sym (length-map (map object_of rows) (object_without o)) ∙ sym (length-update_at (map (object_without o) (map object_of rows)) o (λ _. None))

    each : (i : ℕ) → i < length (map object_of (removed rows o)) → get_or (map object_of (removed rows o)) i None ≡ get_or (update_at (map (object_without o) (map object_of rows)) o (λ _. None)) i None
    each i l = elim (cases_eq i o) [
      | inl q ↦ (
          let lhs : get_or (map object_of (removed rows o)) i None ≡ None =
          get_or-map_same object_of (removed rows o) i no_row ∙ ap (λ z. object_of (row_at (removed rows o) z)) q ∙ ap (λ x. object_from x (row_at (removed rows o) o).places) (removed-gone rows o below) in
          let rhs : get_or (update_at (map (object_without o) (map object_of rows)) o (λ _. None)) i None ≡ None =
          ap (λ z. get_or (update_at (map (object_without o) (map object_of rows)) o (λ _. None)) z None) q
          ∙ get_or-update_at_same (map (object_without o) (map object_of rows)) o (λ _. None) None (let a = length-map (map object_of rows) (object_without o) in let b = length-map rows object_of in omega arith) in
          lhs ∙ sym rhs)
      | inr ne ↦
          get_or-map_same object_of (removed rows o) i no_row
          ∙ ap object_of (row-removed rows o i ne)
          ∙ object-upto o (length (row_at rows o).places) (row_at rows i).named (row_at rows i).places
          (λ p c x cx q.
          let (k, lk, ek) = Contains-drop 2 (row_at rows i).places p c in
          let here : joined_at rows i k ≡ p.joined = ap (λ z. z.joined) (get_or_default (row_at rows i).places k no_place p lk ∙ ek) in
          subst (λ (z : ℕ). x.1 < length (row_at rows z).places) q (ranged i k x (subst (λ xs. Contains xs x) (sym here) cx)))
          ∙ sym (get_or-map_same (object_without o) (map object_of rows) i None ∙ ap (object_without o) (get_or-map_same object_of rows i no_row))
          ∙ sym (get_or-update_at_other (map (object_without o) (map object_of rows)) o i (λ _. None) None ne)
    ]

pub live_above : (meta : MetaDesc) (rows : List Row) (finds : List ℕ → ℕ → Type 0) (live o : ℕ) (n : Named) → IsTied meta rows finds live → named_in rows o ≡ Some n → (live - 1) + 1 ≡ live
live_above meta rows finds live o n t e = let c = count-unnamed rows o n e in let k = t.count in omega arith

-- a live object has a class and an identifier
pub live_named : (meta : MetaDesc) (rows : List Row) (v : ModelData) (o : ℕ) → seen meta rows ≡ v → IsSome (object_at v o) → (n : Named) × (named_in rows o ≡ Some n)
live_named meta rows v o e l =
    let (c, hc) = live_class v o l in
    let (n, en, ek) = class_named rows o c (class_of_rows meta rows v o c e hc) in (n, en)

pub below_named : (rows : List Row) (o : ℕ) (n : Named) → named_in rows o ≡ Some n → o < length rows
below_named rows o n h = elim (cases_lt o (length rows)) [
  | inl l ↦ l
  | inr le ↦ (let w : named_in rows o ≡ None = ap (λ r. r.named) (get_or_past rows o no_row le) in let z : Some n ≡ None = sym h ∙ w in absurd cc)
]
