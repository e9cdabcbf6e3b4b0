-- A new object, other values of an object, and how objects are found.
use Rattle.std.proofs.Common.{◌≡◌, ◌≢◌, ℕ, ◌+◌, ◌<◌, ◌≤◌, ◌^◌, ◌⊎◌, zero, suc, List, [], ◌∷◌, ◌++◌, length, get_or, map, replicate, refl, ap, sym, ◌∙◌, arith, subst, Option, Some, None, true, false, cond, inl, inr, rules}
use Rattle.std.specs.Prelude.{Contains, IsSome, IfSome, IfNone, chars, option_map, is_some, count_by, encode_utf8_all, Result, Ok, Err, IfOk, IfErr}
use Rattle.object_tables.specs.declared.limit.TheConstants.{MAX_OBJECTS}
use Rattle.object_tables.specs.declared.limit.TheConstants.{MAX_ADDED}
use Rattle.object_tables.specs.declared.fault.AddFault.{AddFault}
use Rattle.object_tables.specs.declared.fault.AddFault.TheVariants as faults
use Rattle.object_tables.specs.AddFaults.{IsAddFault}
use Rattle.std.proofs.lemmas.Bool.{cases_lt, cases_eq}
use Rattle.std.proofs.lemmas.List.{length-map, map-append, get_or_past, get_or_append_left, get_or_push, length-replicate, length_push, get_or-replicate}
use Rattle.std.proofs.lemmas.List.Sums.{sum_by_push, sum_by-cons}
use Rattle.mof_metamodel.specs.declared.desc.MetaDesc.{MetaDesc}
use Rattle.mof_metamodel.specs.Metamodels.{class_count, props_of, class_at as meta_class}
use Rattle.object_tables.specs.declared.tables.Named.{Named}
use Rattle.object_tables.specs.declared.value.ObjId.{ObjId}
use Rattle.object_tables.specs.declared.value.Value.{Value}
use Rattle.object_tables.specs.Lists.{update_at}
use Rattle.object_tables.specs.Rows.{Row, Place, row_at, joined_at, no_row, no_place, with_values, fresh_row}
use Rattle.object_tables.specs.Objects.{object_of, object_from, slot_of}
use Rattle.object_tables.specs.Models.{ModelData, id_at, added, HasId, IsFull, IsAddable, live_count, with_values as model_values}
use Rattle.object_tables.specs.Tied.{near, named_in, class_in, IsShaped, IsTied}
use Rattle.object_tables.proofs.ListLemmas.{get_or-update_at_same, get_or-update_at_other, update_at_past}
use Rattle.object_tables.proofs.ModelLemmas.{seen, class_named}
use Rattle.object_tables.proofs.EditLemmas.{tied-alike, alike-with_place, row-with_place, seen-with_place}

-- ---- other values

joined-with_values : (rows : List Row) (o k i j : ℕ) (values : List Value) → joined_at (with_values rows o k values) i j ≡ joined_at rows i j
joined-with_values rows o k i j values =
    let g : Place → Place = λ p. record p { values = values } in
    elim (row-with_place rows o k i g) [
      | inl e ↦ ap (λ r. (get_or r.places j no_place).joined) e
      | inr (e, er) ↦
          ap (λ r. (get_or r.places j no_place).joined) er
          ∙ elim (cases_eq j k) [
            | inr ne ↦ ap (λ p. p.joined) (get_or-update_at_other (row_at rows i).places k j g no_place ne)
            | inl ek ↦ elim (cases_lt k (length (row_at rows i).places)) [
              | inl l ↦ ap (λ z. (get_or (update_at (row_at rows i).places k g) z no_place).joined) ek ∙ ap (λ p. p.joined) (get_or-update_at_same (row_at rows i).places k g no_place l) ∙ ap (λ z. joined_at rows i z) (sym ek)
              | inr le ↦ ap (λ ps. (get_or ps j no_place).joined) (update_at_past (row_at rows i).places k g le)
            ]
          ]
    ]

pub tied-values : (meta : MetaDesc) (rows new : List Row) (finds : List ℕ → ℕ → Type 0) (live o k : ℕ) (values : List Value) → IsTied meta rows finds live
    → new ≡ with_values rows o k values → IsTied meta new finds live
tied-values meta rows new finds live o k values t e =
    subst (λ rs. IsTied meta rs finds live) (sym e)
    (tied-alike meta rows (with_values rows o k values) finds live t (alike-with_place rows o k _)
    (λ i c p x hc hp hx. t.far_ends i c p x hc hp (subst (λ xs. Contains xs x) (joined-with_values rows o k i (near meta c p) values) hx))
    (λ i c m x hc lm hx. t.near_ends i c m x hc lm (subst (λ xs. Contains xs x) (joined-with_values rows o k i m values) hx)))

pub seen-values : (meta : MetaDesc) (rows new : List Row) (v : ModelData) (o c p k : ℕ) (values : List Value) → seen meta rows ≡ v → class_in rows o ≡ Some c → k ≡ near meta c p
    → new ≡ with_values rows o k values → seen meta new ≡ model_values v o p values
seen-values meta rows new v o c p k values e hc ek en =
    ap (seen meta) (en ∙ ap (λ z. with_values rows o z values) ek)
    ∙ seen-with_place meta rows o c p (λ pl. record pl { values = values }) (λ s. record s { values = values }) hc refl
    ∙ ap (λ m. model_values m o p values) e

-- ---- identifiers

some_of : {X : Type 0} (x : Option X) (y : X) → x ≡ Some y → IsSome x
some_of None y e = absurd cc
some_of (Some z) y e = search rules

-- live objects are found as before
pub tied-found : (meta : MetaDesc) (rows : List Row) (finds finds' : List ℕ → ℕ → Type 0) (live : ℕ)
    → ((bytes : List ℕ) (o : ℕ) → IsSome (named_in rows o) → finds bytes o → finds' bytes o) → IsTied meta rows finds live → IsTied meta rows finds' live
tied-found meta rows finds finds' live h t = record {
  well = t.well;
  few = t.few;
  count = t.count;
  shaped = t.shaped;
  far_ends = t.far_ends;
  near_ends = t.near_ends;
  found = λ o n e. h (encode_utf8_all n.id) o (some_of (named_in rows o) n e) (t.found o n e);
}

-- ---- a new object

row-old : (rows : List Row) (x : Row) (o : ℕ) → o < length rows → row_at (rows ++ x ∷ []) o ≡ row_at rows o
row-old rows x o l = get_or_append_left rows (x ∷ []) no_row o l

row-new : (rows : List Row) (x : Row) → row_at (rows ++ x ∷ []) (length rows) ≡ x
row-new rows x = get_or_push rows x no_row (length rows) refl

row-past : (rows : List Row) (x : Row) (o : ℕ) → length rows < o → row_at (rows ++ x ∷ []) o ≡ no_row
row-past rows x o l = get_or_past (rows ++ x ∷ []) o no_row (omega (arith, length_push rows x))

named_below : (rows : List Row) (o : ℕ) (n : Named) → named_in rows o ≡ Some n → o < length rows
named_below rows o n e = elim (cases_lt o (length rows)) [
  | inl l ↦ l
  | inr le ↦ (let h : named_in rows o ≡ None = ap (λ r. r.named) (get_or_past rows o no_row le) in cc)
]

-- a number of the longer list is an old one or the new one
named_cases : (rows : List Row) (x : Row) (o : ℕ) (n : Named) → named_in (rows ++ x ∷ []) o ≡ Some n → ((o < length rows) × (named_in rows o ≡ Some n)) ⊎ ((o ≡ length rows) × (x.named ≡ Some n))
named_cases rows x o n e = elim (cases_lt o (length rows)) [
  | inl l ↦ inl (l, ap (λ r. r.named) (sym (row-old rows x o l)) ∙ e)
  | inr le ↦ elim (cases_eq o (length rows)) [
    | inl eo ↦ inr (eo, ap (λ r. r.named) (sym (row-new rows x)) ∙ ap (named_in (rows ++ x ∷ [])) (sym eo) ∙ e)
    | inr ne ↦ (let h : named_in (rows ++ x ∷ []) o ≡ None = ap (λ r. r.named) (row-past rows x o (omega arith)) in absurd cc)
  ]
]

fresh-joined : (named : Named) (n k : ℕ) → (get_or (fresh_row named n).places k no_place).joined ≡ []
fresh-joined named n k = elim (cases_lt k n) [
  | inl l ↦ ap (λ p. p.joined) (get_or-replicate n k no_place no_place l)
  | inr le ↦ ap (λ p. p.joined) (get_or_past (replicate n no_place) k no_place (omega (arith, length-replicate n no_place)))
]

pub tied-add : (meta : MetaDesc) (rows new : List Row) (finds finds' : List ℕ → ℕ → Type 0) (live live' : ℕ) (named : Named) (n : ℕ) → IsTied meta rows finds live
    → new ≡ rows ++ fresh_row named n ∷ [] → live' ≡ live + 1
    → length rows < MAX_ADDED → named.class < class_count meta → (meta_class meta named.class).is_abstract ≡ false → n ≡ suc (suc (length (props_of meta named.class))) → n < 2 ^ 32
    → finds' (encode_utf8_all named.id) (length rows)
    → ((bytes : List ℕ) (o : ℕ) → IsSome (named_in rows o) → finds bytes o → finds' bytes o)
    → IsTied meta new finds' live'
tied-add meta rows new finds finds' live live' named n t en el few class concrete count small here kept =
    let x : Row = fresh_row named n in
    let rows' : List Row = rows ++ x ∷ [] in
    subst (λ rs. IsTied meta rs finds' live') (sym en) (record {
      well = t.well;
      few = (let l = length_push rows x in omega arith);
      count = el ∙ ap (λ k. k + 1) t.count ∙ sym (sum_by_push (λ r. cond (is_some r.named) 1 0) rows x);
      shaped = λ o m e. elim (named_cases rows x o m e) [
        | inl (l, w) ↦ (let s = t.shaped o m w in record { class = s.class; concrete = s.concrete; places = ap (λ r. length r.places) (row-old rows x o l) ∙ s.places; small = s.small })
        | inr (eo, w) ↦ (
            let em : named ≡ m = cc in
            subst (λ (z : Named). IsShaped meta (row_at rows' o) z) em (record {
              class = class;
              concrete = concrete;
              places = ap (λ z. length (row_at rows' z).places) eo ∙ ap (λ r. length r.places) (row-new rows x) ∙ length-replicate n no_place ∙ count;
              small = subst (λ (z : ℕ). z < 2 ^ 32) count small;
            }))
      ];
      far_ends = λ o c p e hc hp he.
          let (m, em, ec) = class_named rows' o c hc in
          elim (named_cases rows x o m em) [
            | inl (l, w) ↦ (
                let hc' : class_in rows o ≡ Some c = ap (option_map (λ n. n.class)) w ∙ ap Some ec in
                let f = t.far_ends o c p e hc' hp (subst (λ (r : Row). Contains (get_or r.places (near meta c p) no_place).joined e) (row-old rows x o l) he) in
                let (m2, em2, ec2) = class_named rows e.0 f.class f.class_is in
                record { class = f.class; class_is = ap (λ r. option_map (λ n. n.class) r.named) (row-old rows x e.0 (named_below rows e.0 m2 em2)) ∙ f.class_is; place = f.place })
            | inr (eo, w) ↦ (
                let gone : joined_at rows' o (near meta c p) ≡ [] = ap (λ z. joined_at rows' z (near meta c p)) eo ∙ ap (λ r. (get_or r.places (near meta c p) no_place).joined) (row-new rows x) ∙ fresh-joined named n (near meta c p) in
                let none_there : Contains {X = ℕ × ℕ} [] e = subst (λ (xs : List (ℕ × ℕ)). Contains xs e) gone he in
                let l = none_there.1 in absurd (omega arith))
          ];
      near_ends = λ o c k e hc lk he.
          let (m, em, ec) = class_named rows' o c hc in
          elim (named_cases rows x o m em) [
            | inl (l, w) ↦ (
                let hc' : class_in rows o ≡ Some c = ap (option_map (λ n. n.class)) w ∙ ap Some ec in
                let f = t.near_ends o c k e hc' lk (subst (λ (r : Row). Contains (get_or r.places k no_place).joined e) (row-old rows x o l) he) in
                let (m2, em2, ec2) = class_named rows e.0 f.class f.class_is in
                record { class = f.class; class_is = ap (λ r. option_map (λ n. n.class) r.named) (row-old rows x e.0 (named_below rows e.0 m2 em2)) ∙ f.class_is; prop = f.prop; has = f.has; place = f.place; back = f.back })
            | inr (eo, w) ↦ (
                let gone : joined_at rows' o k ≡ [] = ap (λ z. joined_at rows' z k) eo ∙ ap (λ r. (get_or r.places k no_place).joined) (row-new rows x) ∙ fresh-joined named n k in
                let none_there : Contains {X = ℕ × ℕ} [] e = subst (λ (xs : List (ℕ × ℕ)). Contains xs e) gone he in
                let l = none_there.1 in absurd (omega arith))
          ];
      found = λ o m e. elim (named_cases rows x o m e) [
        | inl (l, w) ↦ kept (encode_utf8_all m.id) o (some_of (named_in rows o) m w) (t.found o m w)
        | inr (eo, w) ↦ (
            let em : named ≡ m = cc in
            subst (λ (z : Named). finds' (encode_utf8_all z.id) o) em (subst (λ (z : ℕ). finds' (encode_utf8_all named.id) z) (sym eo) here))
      ];
    })

map-replicate : {X Y : Type 0} (f : X → Y) (n : ℕ) (x : X) → map f (replicate n x) ≡ replicate n (f x)
map-replicate f zero x = refl
map-replicate f (suc n) x = ap (λ ys. f x ∷ ys) (map-replicate f n x)

pub seen-add : (meta : MetaDesc) (rows new : List Row) (v : ModelData) (named : Named) (n : ℕ) → seen meta rows ≡ v → new ≡ rows ++ fresh_row named n ∷ [] → n ≡ suc (suc (length (props_of meta named.class)))
    → seen meta new ≡ added v named.class named.id
seen-add meta rows new v named n e en count =
    ap (seen meta) (en ∙ ap (λ k. rows ++ fresh_row named k ∷ []) count)
    ∙ ap (λ xs. record { meta = meta; objects = xs })
    (map-append object_of rows (fresh_row named (suc (suc (length (props_of meta named.class)))) ∷ [])
    ∙ ap (λ ss. map object_of rows ++ Some (record { class = named.class; id = named.id; slots = ss }) ∷ []) (map-replicate slot_of (length (props_of meta named.class)) no_place))
    ∙ ap (λ m. added m named.class named.id) e

-- ---- what `add` asks of the tables

count-from : (x : Option Named) (ps : List Place) → is_some (object_from x ps) ≡ is_some x
count-from None ps = refl
count-from (Some n) ps = refl

pub count_seen : (rows : List Row) → count_by is_some (map object_of rows) ≡ count_by (λ r. is_some r.named) rows
count_seen [] = refl
count_seen (r ∷ rows) =
    sum_by-cons (λ x. cond (is_some x) 1 0) (object_of r) (map object_of rows)
    ∙ ap (λ b. cond b 1 0 + count_by is_some (map object_of rows)) (count-from r.named r.places)
    ∙ ap (λ k. cond (is_some r.named) 1 0 + k) (count_seen rows)
    ∙ sym (sum_by-cons (λ r. cond (is_some r.named) 1 0) r rows)

pub full_from : (meta : MetaDesc) (rows : List Row) (v : ModelData) (finds : List ℕ → ℕ → Type 0) (live : ℕ) → IsTied meta rows finds live → seen meta rows ≡ v
    → (MAX_OBJECTS ≤ live) ⊎ (MAX_ADDED ≤ length rows) → IsFull v
full_from meta rows v finds live t e h =
    let el : live ≡ live_count v = t.count ∙ sym (count_seen rows) ∙ ap live_count e in
    let en : length rows ≡ length v.objects = sym (length-map rows object_of) ∙ ap (λ m. length m.objects) e in
    elim h [ inl a ↦ inl (subst (λ (z : ℕ). MAX_OBJECTS ≤ z) el a) | inr b ↦ inr (omega arith) ]

pub room_from : (meta : MetaDesc) (rows : List Row) (v : ModelData) (finds : List ℕ → ℕ → Type 0) (live : ℕ) → IsTied meta rows finds live → seen meta rows ≡ v
    → live < MAX_OBJECTS → length rows < MAX_ADDED → IsFull v → ⊥
room_from meta rows v finds live t e l m h =
    let el : live ≡ live_count v = t.count ∙ sym (count_seen rows) ∙ ap live_count e in
    let en : length rows ≡ length v.objects = sym (length-map rows object_of) ∙ ap (λ m. length m.objects) e in
    elim h [ inl a ↦ (let a' : MAX_OBJECTS ≤ live = subst (λ (z : ℕ). MAX_OBJECTS ≤ z) (sym el) a in absurd (omega arith)) | inr b ↦ absurd (omega arith) ]

-- a model that isn't full has room for a live object
pub below_full : (meta : MetaDesc) (rows : List Row) (v : ModelData) (finds : List ℕ → ℕ → Type 0) (live : ℕ) → IsTied meta rows finds live → seen meta rows ≡ v → (IsFull v → ⊥) → live < MAX_OBJECTS
below_full meta rows v finds live t e h =
    let el : live ≡ live_count v = t.count ∙ sym (count_seen rows) ∙ ap live_count e in
    elim (cases_lt live MAX_OBJECTS) [ inl l ↦ l | inr le ↦ absurd (h (inl (subst (λ (z : ℕ). MAX_OBJECTS ≤ z) el le))) ]

-- how many objects a model shows
pub live_seen : (meta : MetaDesc) (rows : List Row) (v : ModelData) (finds : List ℕ → ℕ → Type 0) (live : ℕ) → IsTied meta rows finds live → seen meta rows ≡ v → live_count v ≡ live
live_seen meta rows v finds live t e = sym (t.count ∙ sym (count_seen rows) ∙ ap live_count e)

few_from : (meta : MetaDesc) (rows : List Row) (v : ModelData) → seen meta rows ≡ v → (IsFull v → ⊥) → length rows < MAX_ADDED
few_from meta rows v e h =
    let en : length rows ≡ length v.objects = sym (length-map rows object_of) ∙ ap (λ m. length m.objects) e in
    elim (cases_lt (length rows) MAX_ADDED) [ inl l ↦ l | inr le ↦ absurd (h (inr (omega arith))) ]

pub tied-enter : (meta : MetaDesc) (rows new : List Row) (v : ModelData) (finds finds' : List ℕ → ℕ → Type 0) (live live' class n o : ℕ) (id bytes : List ℕ) → IsTied meta rows finds live → seen meta rows ≡ v
    → IsAddable v class id → class < class_count v.meta → n ≡ suc (suc (length (props_of v.meta class))) → n < 2 ^ 32
    → new ≡ rows ++ fresh_row (record { class = class; id = id }) n ∷ [] → live' ≡ live + 1 → bytes ≡ encode_utf8_all id → o ≡ length rows
    → finds' bytes o → ((bytes : List ℕ) (o : ℕ) → IsSome (named_in rows o) → finds bytes o → finds' bytes o)
    → IsTied meta new finds' live'
tied-enter meta rows new v finds finds' live live' class n o id bytes t e a hc hn small en el eb eo here kept =
    let em : v.meta ≡ meta = ap (λ x. x.meta) (sym e) in
    tied-add meta rows new finds finds' live live' (record { class = class; id = id }) n t en el (few_from meta rows v e a.room)
    (subst (λ (m : MetaDesc). class < class_count m) em hc)
    (ap (λ m. (meta_class m class).is_abstract) (sym em) ∙ a.concrete)
    (hn ∙ ap (λ m. suc (suc (length (props_of m class)))) em) small
    (subst (λ (z : ℕ). finds' (encode_utf8_all id) z) eo (subst (λ b. finds' b o) eb here)) kept

pub seen-enter : (meta : MetaDesc) (rows new : List Row) (v : ModelData) (class n o : ℕ) (id : List ℕ) → seen meta rows ≡ v
    → n ≡ suc (suc (length (props_of v.meta class))) → new ≡ rows ++ fresh_row (record { class = class; id = id }) n ∷ [] → o ≡ length rows
    → (o ≡ length v.objects) × (seen meta new ≡ added v class id)
seen-enter meta rows new v class n o id e hn en eo =
    let em : v.meta ≡ meta = ap (λ x. x.meta) (sym e) in (
      eo ∙ sym (length-map rows object_of) ∙ ap (λ m. length m.objects) e,
      seen-add meta rows new v (record { class = class; id = id }) n e en (hn ∙ ap (λ m. suc (suc (length (props_of m class)))) em),
    )

pub tied-given_up : (meta : MetaDesc) (rows new : List Row) (finds finds' : List ℕ → ℕ → Type 0) (live : ℕ) → IsTied meta rows finds live → new ≡ rows
    → ((bytes : List ℕ) (o : ℕ) → IsSome (named_in rows o) → finds bytes o → finds' bytes o) → IsTied meta new finds' live
tied-given_up meta rows new finds finds' live t en kept = subst (λ rs. IsTied meta rs finds' live) (sym en) (tied-found meta rows finds finds' live kept t)

-- ---- causes

-- an identifier that is found is had by an object
pub is_found : (r : Option ObjId) (v : ModelData) (id bytes : List ℕ) → IfSome r (λ o. id_at v o.0 ≡ Some (chars bytes)) → chars bytes ≡ id → is_some r ≡ true → HasId v id
is_found None v id bytes h e t = absurd cc
is_found (Some o) v id bytes h e t = (o.0, h ∙ ap Some e)

-- and one that isn't found is had by none
pub is_absent : (r : Option ObjId) (v : ModelData) (id bytes : List ℕ) → IfNone r ((o : ℕ) → id_at v o ≢ Some (chars bytes)) → chars bytes ≡ id → is_some r ≡ false → HasId v id → ⊥
is_absent None v id bytes h e t (o, g) = h o (g ∙ ap Some (sym e))
is_absent (Some x) v id bytes h e t d = absurd cc

pub if_ok_any : {T E : Type 0} (r : Result T E) (P : Type 0) → P → IfOk r (λ _. P)
if_ok_any (Ok x) P p = p
if_ok_any (Err e) P p = tt

pub memory_cause : {T : Type 0} (r : Result T AddFault) (v : ModelData) (class : ℕ) (id : List ℕ) → IfErr r (λ e. e ≡ faults.NoMemory) → IsAddable v class id → IfErr r (IsAddFault v class id)
memory_cause (Ok x) v class id h a = tt
memory_cause (Err e) v class id h a = subst (λ f. IsAddFault v class id f) (sym h) a
