-- What is read of the rows of flat tables, and what a change of the tables does to the rows.
use Rattle.std.proofs.Common.{◌≡◌, ◌≢◌, ℕ, ◌+◌, ◌-◌, ◌<◌, ◌≤◌, ◌^◌, zero, suc, List, [], ◌∷◌, ◌++◌, length, get_or, set, map, not, refl, ap, sym, ◌∙◌, arith, subst}
use Rattle.std.proofs.Common.{inl, inr, eq-eqb, Some, None, replicate}
use Rattle.std.specs.Prelude.{◌==◌, Contains, All}
use Rattle.std.proofs.lemmas.Bool.{cases_lt, cases_eq, eqb-true, and_parts, and_from}
use Rattle.std.specs.Cmp.{both_ways}
use Rattle.std.proofs.lemmas.List.{get_or_past, length-map, get_or-map, get_or-set_same, get_or-set_other, length-set, map-append}
use Rattle.std.proofs.lemmas.List.{length-append, length-replicate, get_or_append_left, get_or-append-add, get_or-replicate, get_or_push}
use Rattle.std.proofs.lemmas.List.Elements.{Contains-get_or}
use Rattle.link_arena.specs.Links.{joined_ends, parted, all_parted, without, IsSimple}
use Rattle.object_tables.specs.Lists.{update_at}
use Rattle.object_tables.proofs.ListLemmas.{Contains-from_map, filter-map_all, map-update_at, length-update_at}
use Rattle.mof_metamodel.proofs.Facts.{contains_map}
use Rattle.object_tables.specs.Rows.{Row, no_place, no_row, row_at, place_at, joined_at, with_joined, with_last, without_join, without_address, is_address, with_values, fresh_row, row_without, place_without, cleared_place, unnamed, IsRanged, IsMutual, IsSingle}
use Rattle.object_tables.specs.Flat.{row_of, rows_of, entry_at, home_at, no_entry, address, joined_of, place_of, IsFlat, IsSpot, number_at, end_at}
use Rattle.object_tables.specs.declared.tables.Named.{Named}
use Rattle.object_tables.specs.declared.tables.Entry.{Entry}
use Rattle.object_tables.specs.declared.tables.Home.{Home}
use Rattle.object_tables.specs.declared.value.Value.{Value}
use Rattle.object_tables.proofs.ZeroLemmas.{zeros-add}
use Rattle.object_tables.proofs.RowLemmas.{length-block, get_or-block, rows_update, rows_same, rows_map, block_const}

pub length-rows : (es : List Entry) (vs : List (List Value)) (ix : List ℕ) (hs : List Home) (ls : List (List ℕ)) → length (rows_of es vs ix hs ls) ≡ length es
length-rows es vs ix hs ls = length-map es (row_of (place_of vs ix hs ls))

pub row_at-rows : (es : List Entry) (vs : List (List Value)) (ix : List ℕ) (hs : List Home) (ls : List (List ℕ)) (o : ℕ) → o < length es
    → row_at (rows_of es vs ix hs ls) o ≡ row_of (place_of vs ix hs ls) (entry_at es o)
row_at-rows es vs ix hs ls o l = get_or-map (row_of (place_of vs ix hs ls)) es o no_entry no_row l

pub length-places : (es : List Entry) (vs : List (List Value)) (ix : List ℕ) (hs : List Home) (ls : List (List ℕ)) (o : ℕ) → o < length es
    → length (row_at (rows_of es vs ix hs ls) o).places ≡ (entry_at es o).count
length-places es vs ix hs ls o l = ap (λ r. length r.places) (row_at-rows es vs ix hs ls o l)
    ∙ length-block (place_of vs ix hs ls) (entry_at es o).first (entry_at es o).count

-- a place of the rows is a place of the tables
pub spot_of : (es : List Entry) (vs : List (List Value)) (ix : List ℕ) (hs : List Home) (ls : List (List ℕ)) (v : List Row) (o k : ℕ) → rows_of es vs ix hs ls ≡ v
    → o < length v → k < length (row_at v o).places → IsSpot es o k
spot_of es vs ix hs ls v o k e l m =
    let n : o < length es = omega (arith, length-rows es vs ix hs ls, ap length e) in
    record { object = n; place = omega (arith, length-places es vs ix hs ls o n, ap (λ r. length (row_at r o).places) e) }

pub place_at-rows : (es : List Entry) (vs : List (List Value)) (ix : List ℕ) (hs : List Home) (ls : List (List ℕ)) (o k : ℕ) → IsSpot es o k
    → place_at (rows_of es vs ix hs ls) o k ≡ place_of vs ix hs ls (number_at es o k)
place_at-rows es vs ix hs ls o k s =
    ap (λ r. get_or r.places k no_place) (row_at-rows es vs ix hs ls o s.object)
    ∙ get_or-block (place_of vs ix hs ls) (entry_at es o).first (entry_at es o).count k no_place s.place

-- the place that a view shows
pub place_seen : (es : List Entry) (vs : List (List Value)) (ix : List ℕ) (hs : List Home) (ls : List (List ℕ)) (v : List Row) (o k : ℕ)
    → rows_of es vs ix hs ls ≡ v → IsSpot es o k
    → place_at v o k ≡ place_of vs ix hs ls (number_at es o k)
place_seen es vs ix hs ls v o k e s = ap (λ r. place_at r o k) (sym e) ∙ place_at-rows es vs ix hs ls o k s

pub number_placed : (es : List Entry) (ix : List ℕ) (hs : List Home) (ls : List (List ℕ)) (o k : ℕ) → IsFlat es ix hs ls → IsSpot es o k → number_at es o k < length ix
number_placed es ix hs ls o k f s = let h = f.placed o s.object in let m = s.place in omega arith

pub number_small : (es : List Entry) (ix : List ℕ) (hs : List Home) (ls : List (List ℕ)) (o k : ℕ) → IsFlat es ix hs ls → IsSpot es o k → number_at es o k < 2 ^ 32
number_small es ix hs ls o k f s = let h = number_placed es ix hs ls o k f s in let m = f.small in omega arith

pub end_placed : (es : List Entry) (ix : List ℕ) (hs : List Home) (ls : List (List ℕ)) (o k : ℕ) → IsFlat es ix hs ls → IsSpot es o k → end_at es ix o k < length hs
end_placed es ix hs ls o k f s = f.listed (number_at es o k) (number_placed es ix hs ls o k f s)

-- two spots of one number are one
pub same_spot : (es : List Entry) (ix : List ℕ) (hs : List Home) (ls : List (List ℕ)) (o k i j : ℕ) → IsFlat es ix hs ls → IsSpot es o k → IsSpot es i j
    → number_at es i j ≡ number_at es o k → (i ≡ o) × (j ≡ k)
same_spot es ix hs ls o k i j f s t e = elim (cases_lt i o) [
  | inl a ↦ absurd (let p = f.sorted i o a s.object in let q = t.place in omega arith)
  | inr b ↦ elim (cases_lt o i) [
    | inl a ↦ absurd (let p = f.sorted o i a t.object in let q = s.place in omega arith)
    | inr d ↦ (let w : i ≡ o = omega arith in let z : (entry_at es i).first ≡ (entry_at es o).first = ap (λ x. (entry_at es x).first) w in (w, omega arith))
  ]
]

-- two spots at one end are one
pub same_end : (es : List Entry) (ix : List ℕ) (hs : List Home) (ls : List (List ℕ)) (o k i j : ℕ) → IsFlat es ix hs ls → IsSpot es o k → IsSpot es i j
    → end_at es ix i j ≡ end_at es ix o k → end_at es ix o k ≢ 0 → (i ≡ o) × (j ≡ k)
same_end es ix hs ls o k i j f s t e ne =
    let a : address hs (end_at es ix o k) ≡ (o, k) = f.known o k s.object s.place ne in
    let b : address hs (end_at es ix i j) ≡ (i, j) = f.known i j t.object t.place (λ z. ne (sym e ∙ z)) in
    let m : (i, j) ≡ (o, k) = sym b ∙ ap (address hs) e ∙ a in
    (ap (λ x. x.0) m, ap (λ x. x.1) m)

-- what another spot is joined to
links_beside : (es : List Entry) (ix : List ℕ) (hs : List Home) (ls : List (List ℕ)) (o k i j : ℕ) (ys : List ℕ) → IsFlat es ix hs ls → IsSpot es o k
    → IsSpot es i j → (i ≡ o → j ≢ k)
    → (end_at es ix o k ≡ 0 → ys ≡ [])
    → get_or (set ls (end_at es ix o k) ys) (end_at es ix i j) [] ≡ get_or ls (end_at es ix i j) []
links_beside es ix hs ls o k i j ys f s t ne none = elim (cases_eq (end_at es ix i j) (end_at es ix o k)) [
  | inr other ↦ get_or-set_other ls (end_at es ix o k) (end_at es ix i j) ys [] other
  | inl same ↦ elim (cases_eq (end_at es ix o k) 0) [
    | inr some ↦ absurd (let w = same_end es ix hs ls o k i j f s t same some in ne w.0 w.1)
    | inl z ↦ (let l : end_at es ix o k < length ls = (let p = end_placed es ix hs ls o k f s in let q = f.ends in omega arith) in
        ap (λ x. get_or (set ls (end_at es ix o k) ys) x []) same ∙ get_or-set_same ls (end_at es ix o k) ys [] l ∙ none z ∙ sym (ap (λ x. get_or ls x []) (same
        ∙ z) ∙ f.blank))
  ]
]

-- what one end is joined to changed
pub rows-links : (es : List Entry) (vs : List (List Value)) (ix : List ℕ) (hs : List Home) (ls : List (List ℕ)) (o k : ℕ) (ys : List ℕ) (g : List (ℕ × ℕ)
    → List (ℕ × ℕ)) → IsFlat es ix hs ls → IsSpot es o k
    → (end_at es ix o k ≡ 0 → ys ≡ [])
    → map (address hs) ys ≡ g (map (address hs) (get_or ls (end_at es ix o k) []))
    → rows_of es vs ix hs (set ls (end_at es ix o k) ys) ≡ with_joined (rows_of es vs ix hs ls) o k g
rows-links es vs ix hs ls o k ys g f s none h =
    let e : ℕ = end_at es ix o k in
    let n : ℕ = number_at es o k in
    let l : e < length ls = (let p = end_placed es ix hs ls o k f s in let q = f.ends in omega arith) in
    rows_update (place_of vs ix hs ls) (place_of vs ix hs (set ls e ys)) es o k (λ p. record p { joined = g p.joined }) s.object s.place
    (ap (λ zs. record { values = get_or vs n []; joined = map (address hs) zs }) (get_or-set_same ls e ys [] l)
    ∙ ap (λ zs. record { values = get_or vs n []; joined = zs }) h)
    (λ i j li lj ne.
    ap (λ zs. record { values = get_or vs (number_at es i j) []; joined = map (address hs) zs })
    (links_beside es ix hs ls o k i j ys f s (record { object = li; place = lj }) ne none))

pub flat-links : (es : List Entry) (ix : List ℕ) (hs : List Home) (ls ms : List (List ℕ)) → IsFlat es ix hs ls → length ms ≡ length ls → get_or ms 0 [] ≡ []
    → IsFlat es ix hs ms
flat-links es ix hs ls ms f e b = record {
  ends = e ∙ f.ends;
  small = f.small;
  placed = f.placed;
  sorted = f.sorted;
  listed = f.listed;
  few = f.few;
  blank = b;
  known = f.known;
  owned = f.owned;
  within = f.within;
  found = f.found;
}

-- what is done at an end that isn't 0 leaves 0 as it was
blank-set : (ls : List (List ℕ)) (a : ℕ) (ys : List ℕ) → a ≢ 0 → get_or ls 0 [] ≡ [] → get_or (set ls a ys) 0 [] ≡ []
blank-set ls a ys ne h = get_or-set_other ls a 0 ys [] (λ z. ne (sym z)) ∙ h

pub blank-joined : (ls : List (List ℕ)) (a b : ℕ) → a ≢ 0 → b ≢ 0 → get_or ls 0 [] ≡ [] → get_or (joined_ends ls a b) 0 [] ≡ []
blank-joined ls a b na nb h = blank-set (set ls a (get_or ls a [] ++ b ∷ [])) b _ nb (blank-set ls a _ na h)

blank-without : (ls : List (List ℕ)) (a b : ℕ) → get_or ls 0 [] ≡ [] → get_or (set ls a (without b (get_or ls a []))) 0 [] ≡ []
blank-without [] a b h = refl
blank-without (x ∷ xs) zero b h = ap (without b) h
blank-without (x ∷ xs) (suc a) b h = h

pub blank-parted : (ls : List (List ℕ)) (a b : ℕ) → get_or ls 0 [] ≡ [] → get_or (parted ls a b) 0 [] ≡ []
blank-parted ls a b h = blank-without (set ls a (without b (get_or ls a []))) b a (blank-without ls a b h)

blank-map : (ls : List (List ℕ)) (e : ℕ) → get_or ls 0 [] ≡ [] → get_or (map (without e) ls) 0 [] ≡ []
blank-map [] e h = refl
blank-map (x ∷ xs) e h = ap (without e) h

pub blank-all_parted : (ls : List (List ℕ)) (e : ℕ) → get_or ls 0 [] ≡ [] → get_or (all_parted ls e) 0 [] ≡ []
blank-all_parted [] e h = refl
blank-all_parted (x ∷ xs) zero h = refl
blank-all_parted (x ∷ xs) (suc e) h = ap (without (suc e)) h

-- an end is put last
pub rows-with_last : (es : List Entry) (vs : List (List Value)) (ix : List ℕ) (hs : List Home) (ls : List (List ℕ)) (o k i j : ℕ) → IsFlat es ix hs ls
    → IsSpot es o k → IsSpot es i j
    → end_at es ix o k ≢ 0 → end_at es ix i j ≢ 0
    → rows_of es vs ix hs (set ls (end_at es ix o k) (get_or ls (end_at es ix o k) [] ++ end_at es ix i j ∷ [])) ≡ with_last (rows_of es vs ix hs ls) o k (i, j)
rows-with_last es vs ix hs ls o k i j f s t ne nf =
    rows-links es vs ix hs ls o k _ (λ xs. xs ++ (i, j) ∷ []) f s (λ z. absurd (ne z))
    (map-append (address hs) (get_or ls (end_at es ix o k) []) (end_at es ix i j ∷ [])
    ∙ ap (λ x. map (address hs) (get_or ls (end_at es ix o k) []) ++ x ∷ []) (f.known i j t.object t.place nf))

-- two ends are joined, each last at the other
pub rows-joined : (es : List Entry) (vs : List (List Value)) (ix : List ℕ) (hs : List Home) (ls : List (List ℕ)) (v : List Row) (o k i j : ℕ) → IsFlat es ix hs ls
    → IsSpot es o k → IsSpot es i j
    → end_at es ix o k ≢ 0 → end_at es ix i j ≢ 0 → rows_of es vs ix hs ls ≡ v
    → rows_of es vs ix hs (joined_ends ls (end_at es ix o k) (end_at es ix i j)) ≡ with_last (with_last v o k (i, j)) i j (o, k)
rows-joined es vs ix hs ls v o k i j f s t ne nf e =
    let ms : List (List ℕ) = set ls (end_at es ix o k) (get_or ls (end_at es ix o k) [] ++ end_at es ix i j ∷ []) in
    let f' : IsFlat es ix hs ms = flat-links es ix hs ls ms f (length-set ls (end_at es ix o k) _) (blank-set ls (end_at es ix o k) _ ne f.blank) in
    rows-with_last es vs ix hs ms i j o k f' t s nf ne
    ∙ ap (λ rows. with_last rows i j (o, k)) (rows-with_last es vs ix hs ls o k i j f s t ne nf ∙ ap (λ rows. with_last rows o k (i, j)) e)

pub length-joined : (ls : List (List ℕ)) (a b : ℕ) → length (joined_ends ls a b) ≡ length ls
length-joined ls a b = length-set (set ls a (get_or ls a [] ++ b ∷ [])) b _ ∙ length-set ls a _

-- what the view shows at a place
pub joined_seen : (es : List Entry) (vs : List (List Value)) (ix : List ℕ) (hs : List Home) (ls : List (List ℕ)) (v : List Row) (o k : ℕ)
    → rows_of es vs ix hs ls ≡ v → IsSpot es o k
    → joined_at v o k ≡ map (address hs) (get_or ls (end_at es ix o k) [])
joined_seen es vs ix hs ls v o k e s = ap (λ p. p.joined) (place_seen es vs ix hs ls v o k e s)

-- what isn't joined in the view isn't joined in the arena
pub contains_seen : (es : List Entry) (vs : List (List Value)) (ix : List ℕ) (hs : List Home) (ls : List (List ℕ)) (v : List Row) (o k i j : ℕ)
    → IsFlat es ix hs ls → rows_of es vs ix hs ls ≡ v → IsSpot es o k → IsSpot es i j
    → end_at es ix i j ≢ 0 → Contains (get_or ls (end_at es ix o k) []) (end_at es ix i j) → Contains (joined_at v o k) (i, j)
contains_seen es vs ix hs ls v o k i j f e s t ne c =
    subst (λ xs. Contains xs (i, j)) (sym (joined_seen es vs ix hs ls v o k e s))
    (subst (λ x. Contains (map (address hs) (get_or ls (end_at es ix o k) [])) x) (f.known i j t.object t.place ne)
    (contains_map (address hs) _ _ c))

pub ends_apart : (es : List Entry) (ix : List ℕ) (hs : List Home) (ls : List (List ℕ)) (o k i j : ℕ) → IsFlat es ix hs ls → IsSpot es o k → IsSpot es i j
    → end_at es ix i j ≢ 0 → (o ≡ i → k ≢ j) → end_at es ix o k ≢ end_at es ix i j
ends_apart es ix hs ls o k i j f s t some ne e = let w = same_end es ix hs ls i j o k f t s e some in ne w.0 w.1

pub rows-joined_at : (es : List Entry) (vs : List (List Value)) (ix : List ℕ) (hs : List Home) (ls ms : List (List ℕ)) (v : List Row) (o k i j a b : ℕ)
    → IsFlat es ix hs ls → IsSpot es o k → IsSpot es i j → rows_of es vs ix hs ls ≡ v
    → a ≡ end_at es ix o k → b ≡ end_at es ix i j → a ≢ 0 → b ≢ 0 → ms ≡ joined_ends ls a b
    → rows_of es vs ix hs ms ≡ with_last (with_last v o k (i, j)) i j (o, k)
rows-joined_at es vs ix hs ls ms v o k i j a b f s t e ea eb na nb em =
    ap (rows_of es vs ix hs) em ∙ ap (λ x. rows_of es vs ix hs (joined_ends ls x b)) ea ∙ ap (λ x. rows_of es vs ix hs (joined_ends ls (end_at es ix o k) x)) eb
    ∙ rows-joined es vs ix hs ls v o k i j f s t (λ z. na (ea ∙ z)) (λ z. nb (eb ∙ z)) e

-- an other of an end is an end
pub others_ranged : (ls : List (List ℕ)) (a b : ℕ) → IsSimple ls → Contains (get_or ls a []) b → b < length ls
others_ranged ls a b s c = s.within a b c

-- an other of an end isn't 0
pub others_some : (ls : List (List ℕ)) (a b : ℕ) → IsSimple ls → get_or ls 0 [] ≡ [] → Contains (get_or ls a []) b → b ≢ 0
others_some ls a b s blank c z =
    let h : Contains {X = ℕ} [] a = subst (λ (xs : List ℕ). Contains xs a) (ap (λ x. get_or ls x []) z ∙ blank) (s.symmetric a b c) in
    let l = h.1 in absurd (omega arith)

-- the end that a place is
pub end_found : (es : List Entry) (ix : List ℕ) (hs : List Home) (ls : List (List ℕ)) (i j x : ℕ) → IsFlat es ix hs ls → x < length hs → x ≢ 0
    → address hs x ≡ (i, j) → x ≡ end_at es ix i j
end_found es ix hs ls i j x f l ne e =
    sym (f.found x l ne) ∙ ap (λ a. end_at es ix a.0 a.1) e

-- what is joined in the view is joined in the arena
pub contains_ends : (es : List Entry) (vs : List (List Value)) (ix : List ℕ) (hs : List Home) (ls : List (List ℕ)) (v : List Row) (o k i j : ℕ)
    → IsFlat es ix hs ls → IsSimple ls → rows_of es vs ix hs ls ≡ v → IsSpot es o k
    → Contains (joined_at v o k) (i, j) → Contains (get_or ls (end_at es ix o k) []) (end_at es ix i j)
contains_ends es vs ix hs ls v o k i j f m e s c =
    let xs : List ℕ = get_or ls (end_at es ix o k) [] in
    let d : Contains (map (address hs) xs) (i, j) = subst (λ ys. Contains ys (i, j)) (joined_seen es vs ix hs ls v o k e s) c in
    let (x, cx, ex) = Contains-from_map (address hs) xs (i, j) d in
    let r : x < length ls = others_ranged ls (end_at es ix o k) x m cx in
    subst (λ y. Contains xs y) (end_found es ix hs ls i j x f (omega (arith, f.ends)) (others_some ls (end_at es ix o k) x m f.blank cx) ex) cx

-- two ends are one exactly where their addresses are
pub address_test : (es : List Entry) (ix : List ℕ) (hs : List Home) (ls : List (List ℕ)) (i j x : ℕ) → IsFlat es ix hs ls → IsSpot es i j → x < length hs → x ≢ 0
    → is_address (i, j) (address hs x) ≡ (x == end_at es ix i j)
address_test es ix hs ls i j x f s l ne =
    both_ways _ _
    (λ h. let p = and_parts _ _ h in
    let ei : (home_at hs x).object ≡ i = eqb-true _ _ p.0 in
    let ej : (home_at hs x).place ≡ j = eqb-true _ _ p.1 in
    let w : address hs x ≡ (i, j) = ap (λ a. (a, (home_at hs x).place)) ei ∙ ap (λ b. (i, b)) ej in
    eq-eqb x (end_at es ix i j) (end_found es ix hs ls i j x f l ne w))
    (λ h. let y : x ≡ end_at es ix i j = eqb-true x (end_at es ix i j) h in
    let w : address hs x ≡ (i, j) = ap (address hs) y ∙ f.known i j s.object s.place (λ z. ne (y ∙ z)) in
    and_from _ _ (eq-eqb (home_at hs x).object i (ap (λ a. a.0) w)) (eq-eqb (home_at hs x).place j (ap (λ a. a.1) w)))

pub rows-without : (es : List Entry) (vs : List (List Value)) (ix : List ℕ) (hs : List Home) (ls : List (List ℕ)) (o k i j : ℕ) → IsFlat es ix hs ls
    → IsSpot es o k → IsSpot es i j
    → ((x : ℕ) → Contains (get_or ls (end_at es ix o k) []) x → (x < length hs) × (x ≢ 0))
    → rows_of es vs ix hs (set ls (end_at es ix o k) (without (end_at es ix i j) (get_or ls (end_at es ix o k) []))) ≡ without_join (rows_of es vs ix hs ls) o k (i, j)
rows-without es vs ix hs ls o k i j f s t r =
    rows-links es vs ix hs ls o k _ (without_address (i, j)) f s
    (λ z. ap (without (end_at es ix i j)) (ap (λ x. get_or ls x []) z ∙ f.blank))
    (filter-map_all (address hs) (λ y. not (y == end_at es ix i j)) (λ y. not (is_address (i, j) y)) (get_or ls (end_at es ix o k) [])
    (λ x c. ap not (address_test es ix hs ls i j x f t (r x c).0 (r x c).1)))

-- the others of an end are ends
pub others_good : (es : List Entry) (ix : List ℕ) (hs : List Home) (ls : List (List ℕ)) (a x : ℕ) → IsFlat es ix hs ls → IsSimple ls → Contains (get_or ls a []) x
    → (x < length hs) × (x ≢ 0)
others_good es ix hs ls a x f m c = ((let r = others_ranged ls a x m c in omega (arith, f.ends)), others_some ls a x m f.blank c)

pub rows-parted : (es : List Entry) (vs : List (List Value)) (ix : List ℕ) (hs : List Home) (ls : List (List ℕ)) (v : List Row) (o k i j : ℕ) → IsFlat es ix hs ls
    → IsSimple ls → IsSpot es o k → IsSpot es i j → rows_of es vs ix hs ls ≡ v
    → end_at es ix i j ≢ end_at es ix o k
    → rows_of es vs ix hs (parted ls (end_at es ix o k) (end_at es ix i j)) ≡ without_join (without_join v o k (i, j)) i j (o, k)
rows-parted es vs ix hs ls v o k i j f m s t e apart =
    let a : ℕ = end_at es ix o k in
    let b : ℕ = end_at es ix i j in
    let ms : List (List ℕ) = set ls a (without b (get_or ls a [])) in
    let f' : IsFlat es ix hs ms = flat-links es ix hs ls ms f (length-set ls a _) (blank-without ls a b f.blank) in
    let same : get_or ms b [] ≡ get_or ls b [] = get_or-set_other ls a b _ [] apart in
    rows-without es vs ix hs ms i j o k f' t s (λ x c. others_good es ix hs ls b x f m (subst (λ xs. Contains xs x) same c))
    ∙ ap (λ rows. without_join rows i j (o, k))
    (rows-without es vs ix hs ls o k i j f s t (λ x c. others_good es ix hs ls a x f m c) ∙ ap (λ rows. without_join rows o k (i, j)) e)

pub length-parted : (ls : List (List ℕ)) (a b : ℕ) → length (parted ls a b) ≡ length ls
length-parted ls a b = length-set (set ls a (without b (get_or ls a []))) b _ ∙ length-set ls a _

pub rows-parted_at : (es : List Entry) (vs : List (List Value)) (ix : List ℕ) (hs : List Home) (ls ms : List (List ℕ)) (v : List Row) (o k i j a b : ℕ)
    → IsFlat es ix hs ls → IsSimple ls → IsSpot es o k → IsSpot es i j → rows_of es vs ix hs ls ≡ v
    → Contains (joined_at v o k) (i, j)
    → a ≡ end_at es ix o k → b ≡ end_at es ix i j → ms ≡ parted ls a b
    → rows_of es vs ix hs ms ≡ without_join (without_join v o k (i, j)) i j (o, k)
rows-parted_at es vs ix hs ls ms v o k i j a b f m s t e c ea eb em =
    ap (rows_of es vs ix hs) em ∙ ap (λ x. rows_of es vs ix hs (parted ls x b)) ea ∙ ap (λ x. rows_of es vs ix hs (parted ls (end_at es ix o k) x)) eb
    ∙ rows-parted es vs ix hs ls v o k i j f m s t e
    (λ same. m.loopless (end_at es ix o k) (subst (λ x. Contains (get_or ls (end_at es ix o k) []) x) same (contains_ends es vs ix hs ls v o k i j f m e s c)))

-- other values at one place
pub rows-values : (es : List Entry) (vs : List (List Value)) (ix : List ℕ) (hs : List Home) (ls : List (List ℕ)) (v : List Row) (o k : ℕ) (values : List Value)
    → IsFlat es ix hs ls → length vs ≡ length ix → IsSpot es o k
    → rows_of es vs ix hs ls ≡ v → rows_of es (set vs (number_at es o k) values) ix hs ls ≡ with_values v o k values
rows-values es vs ix hs ls v o k values f n s e =
    let a : ℕ = number_at es o k in
    let l : a < length vs = (let p = number_placed es ix hs ls o k f s in omega arith) in
    rows_update (place_of vs ix hs ls) (place_of (set vs a values) ix hs ls) es o k (λ p. record p { values = values }) s.object s.place
    (ap (λ us. record { values = us; joined = joined_of ix hs ls a }) (get_or-set_same vs a values [] l))
    (λ i j li lj ne.
    ap (λ us. record { values = us; joined = joined_of ix hs ls (number_at es i j) })
    (get_or-set_other vs a (number_at es i j) values []
    (λ same. let w = same_spot es ix hs ls o k i j f s (record { object = li; place = lj }) same in ne w.0 w.1)))
    ∙ ap (λ rows. with_values rows o k values) e

pub rows-values_at : (es : List Entry) (vs ws : List (List Value)) (ix : List ℕ) (hs : List Home) (ls : List (List ℕ)) (v : List Row) (o k a : ℕ) (values : List Value)
    → IsFlat es ix hs ls → length vs ≡ length ix → IsSpot es o k
    → rows_of es vs ix hs ls ≡ v → a ≡ number_at es o k → ws ≡ set vs a values → rows_of es ws ix hs ls ≡ with_values v o k values
rows-values_at es vs ws ix hs ls v o k a values f n s e ea ew =
    ap (λ us. rows_of es us ix hs ls) ew ∙ ap (λ x. rows_of es (set vs x values) ix hs ls) ea ∙ rows-values es vs ix hs ls v o k values f n s e

-- no other end is joined to this one
pub rows-map_without : (es : List Entry) (vs : List (List Value)) (ix : List ℕ) (hs : List Home) (ls : List (List ℕ)) (o k : ℕ) → IsFlat es ix hs ls → IsSimple ls
    → IsSpot es o k
    → rows_of es vs ix hs (map (without (end_at es ix o k)) ls) ≡ map (row_without (o, k)) (rows_of es vs ix hs ls)
rows-map_without es vs ix hs ls o k f m s =
    rows_map (place_of vs ix hs ls) (place_of vs ix hs (map (without (end_at es ix o k)) ls)) es (place_without (o, k))
    (λ i j li lj.
    let x : ℕ = end_at es ix i j in
    let lx : x < length ls = (let p = end_placed es ix hs ls i j f (record { object = li; place = lj }) in let q = f.ends in omega arith) in
    ap (λ ys. record { values = get_or vs (number_at es i j) []; joined = map (address hs) ys }) (get_or-map (without (end_at es ix o k)) ls x [] [] lx)
    ∙ ap (λ ys. record { values = get_or vs (number_at es i j) []; joined = ys })
    (filter-map_all (address hs) (λ y. not (y == end_at es ix o k)) (λ y. not (is_address (o, k) y)) (get_or ls x [])
    (λ y c. let r = others_good es ix hs ls x y f m c in ap not (address_test es ix hs ls o k y f s r.0 r.1))))

pub length-all_parted : (ls : List (List ℕ)) (e : ℕ) → length (all_parted ls e) ≡ length ls
length-all_parted ls e = length-set (map (without e) ls) e [] ∙ length-map ls (without e)

pub rows-all_parted : (es : List Entry) (vs : List (List Value)) (ix : List ℕ) (hs : List Home) (ls : List (List ℕ)) (v : List Row) (o k : ℕ) → IsFlat es ix hs ls
    → IsSimple ls → IsSpot es o k → rows_of es vs ix hs ls ≡ v
    → rows_of es vs ix hs (all_parted ls (end_at es ix o k)) ≡ with_joined (map (row_without (o, k)) v) o k (λ xs. [])
rows-all_parted es vs ix hs ls v o k f m s e =
    let ms : List (List ℕ) = map (without (end_at es ix o k)) ls in
    let f' : IsFlat es ix hs ms = flat-links es ix hs ls ms f (length-map ls (without (end_at es ix o k))) (blank-map ls (end_at es ix o k) f.blank) in
    rows-links es vs ix hs ms o k [] (λ xs. []) f' s (λ z. refl) refl
    ∙ ap (λ rows. with_joined rows o k (λ xs. [])) (rows-map_without es vs ix hs ls o k f m s ∙ ap (λ rows. map (row_without (o, k)) rows) e)

pub flat-cleared : (es : List Entry) (ix : List ℕ) (hs : List Home) (ls ms : List (List ℕ)) (a : ℕ) → IsFlat es ix hs ls → ms ≡ all_parted ls a → IsFlat es ix hs ms
flat-cleared es ix hs ls ms a f em =
    flat-links es ix hs ls ms f (ap length em ∙ length-all_parted ls a) (ap (λ (xs : List (List ℕ)). get_or xs 0 []) em ∙ blank-all_parted ls a f.blank)

pub rows-cleared_at : (es : List Entry) (vs ws : List (List Value)) (ix : List ℕ) (hs : List Home) (ls ms : List (List ℕ)) (v : List Row) (o k a n : ℕ)
    → IsFlat es ix hs ls → IsSimple ls → length vs ≡ length ix → IsSpot es o k
    → rows_of es vs ix hs ls ≡ v → a ≡ end_at es ix o k → n ≡ number_at es o k → ms ≡ all_parted ls a → ws ≡ set vs n []
    → rows_of es ws ix hs ms ≡ cleared_place v o k
rows-cleared_at es vs ws ix hs ls ms v o k a n f m len s e ea en em ew =
    let f' : IsFlat es ix hs ms = flat-cleared es ix hs ls ms a f em in
    rows-values_at es vs ws ix hs ms (rows_of es vs ix hs ms) o k n [] f' len s refl en ew
    ∙ ap (λ rows. with_values rows o k [])
    (ap (rows_of es vs ix hs) em ∙ ap (λ x. rows_of es vs ix hs (all_parted ls x)) ea ∙ rows-all_parted es vs ix hs ls v o k f m s e)

-- a new object
abbrev new_entry : Named → ℕ → ℕ → Entry
new_entry named first count = record { named = Some named; first = first; count = count }

-- a new place is no end
number-new : (ix : List ℕ) (n k : ℕ) → k < n → get_or (ix ++ replicate n 0) (length ix + k) 0 ≡ 0
number-new ix n k l = get_or-append-add ix (replicate n 0) k 0 ∙ get_or-replicate n k 0 0 l

pub flat-add : (es : List Entry) (ix : List ℕ) (hs : List Home) (ls : List (List ℕ)) (named : Named) (n : ℕ) → IsFlat es ix hs ls → 0 < length hs
    → length ix + n + 1 < 2 ^ 32
    → IsFlat (es ++ new_entry named (length ix) n ∷ []) (ix ++ replicate n 0) hs ls
flat-add es ix hs ls named n f some small =
    let x : Entry = new_entry named (length ix) n in
    let fs : List Entry = es ++ x ∷ [] in
    let jx : List ℕ = ix ++ replicate n 0 in
    let lj : length jx ≡ length ix + n = length-append ix (replicate n 0) ∙ ap (λ m. length ix + m) (length-replicate n 0) in
    let lf : length fs ≡ length es + 1 = length-append es (x ∷ []) in
    let old : (o : ℕ) → o < length es → entry_at fs o ≡ entry_at es o = (λ o l. get_or_append_left es (x ∷ []) no_entry o l) in
    let new : entry_at fs (length es) ≡ x = get_or_push es x no_entry (length es) refl in
    let last : (o : ℕ) → length es ≤ o → o < length fs → entry_at fs o ≡ x = (λ o b l. let q : o ≡ length es = omega arith in ap (entry_at fs) q ∙ new) in
    let here : (a : ℕ) → a < length ix → get_or jx a 0 ≡ get_or ix a 0 = (λ a l. get_or_append_left ix (replicate n 0) 0 a l) in
    let end_old : (o k : ℕ) → o < length es → k < (entry_at es o).count → end_at fs jx o k ≡ end_at es ix o k =
    (λ o k l m. ap (λ (z : Entry). get_or jx (z.first + k) 0) (old o l)
    ∙ here (number_at es o k) (number_placed es ix hs ls o k f (record { object = l; place = m }))) in
    record {
      ends = f.ends;
      small = omega arith;
      placed = λ o l. elim (cases_lt o (length es)) [
        | inl a ↦ subst (λ (z : Entry). z.first + z.count ≤ length jx) (sym (old o a)) (let p = f.placed o a in omega arith)
        | inr b ↦ subst (λ (z : Entry). z.first + z.count ≤ length jx) (sym (last o b l)) (omega arith)
      ];
      sorted = λ o i a l. elim (cases_lt i (length es)) [
        | inl b ↦ subst (λ (z : Entry). z.first + z.count ≤ (entry_at fs i).first) (sym (old o (omega arith)))
            (subst (λ (z : Entry). (entry_at es o).first + (entry_at es o).count ≤ z.first) (sym (old i b)) (f.sorted o i a b))
        | inr b ↦ subst (λ (z : Entry). z.first + z.count ≤ (entry_at fs i).first) (sym (old o (omega arith)))
            (subst (λ (z : Entry). (entry_at es o).first + (entry_at es o).count ≤ z.first) (sym (last i b l)) (f.placed o (omega arith)))
      ];
      listed = λ a l. elim (cases_lt a (length ix)) [
        | inl b ↦ subst (λ (z : ℕ). z < length hs) (sym (here a b)) (f.listed a b)
        | inr b ↦ (let q : a ≡ length ix + (a - length ix) = omega arith in
            subst (λ (z : ℕ). z < length hs) (sym (ap (λ y. get_or jx y 0) q ∙ number-new ix n (a - length ix) (omega arith))) some)
      ];
      few = let z = zeros-add ix n in let q = f.few in omega arith;
      blank = f.blank;
      known = λ o k l m ne. elim (cases_lt o (length es)) [
        | inl a ↦ (let m' : k < (entry_at es o).count = subst (λ (z : Entry). k < z.count) (old o a) m in
            let e : end_at fs jx o k ≡ end_at es ix o k = end_old o k a m' in
            ap (address hs) e ∙ f.known o k a m' (λ z. ne (e ∙ z)))
        | inr b ↦ (let w : entry_at fs o ≡ x = last o b l in
            let m' : k < n = subst (λ (z : Entry). k < z.count) w m in
            absurd (ne (ap (λ (z : Entry). get_or jx (z.first + k) 0) w ∙ number-new ix n k m')))
      ];
      owned = λ e l ne. let p = f.owned e l ne in omega arith;
      within = λ e l ne. subst (λ (z : Entry). (home_at hs e).place < z.count) (sym (old _ (f.owned e l ne))) (f.within e l ne);
      found = λ e l ne. end_old (home_at hs e).object (home_at hs e).place (f.owned e l ne) (f.within e l ne) ∙ f.found e l ne;
    }

pub rows-add : (es : List Entry) (vs : List (List Value)) (ix : List ℕ) (hs : List Home) (ls : List (List ℕ)) (v : List Row) (named : Named) (n : ℕ)
    → IsFlat es ix hs ls → length vs ≡ length ix → rows_of es vs ix hs ls ≡ v
    → rows_of (es ++ new_entry named (length ix) n ∷ []) (vs ++ replicate n []) (ix ++ replicate n 0) hs ls ≡ v ++ fresh_row named n ∷ []
rows-add es vs ix hs ls v named n f len e =
    let x : Entry = new_entry named (length ix) n in
    let ws : List (List Value) = vs ++ replicate n [] in
    let jx : List ℕ = ix ++ replicate n 0 in
    let old : rows_of es ws jx hs ls ≡ rows_of es vs ix hs ls = rows_same (place_of vs ix hs ls) (place_of ws jx hs ls) es
    (λ o k lo lk.
    let a : ℕ = number_at es o k in
    let la : a < length ix = number_placed es ix hs ls o k f (record { object = lo; place = lk }) in
    ap (λ us. record { values = us; joined = map (address hs) (get_or ls (get_or jx a 0) []) }) (get_or_append_left vs (replicate n []) [] a (omega arith))
    ∙ ap (λ y. record { values = get_or vs a []; joined = map (address hs) (get_or ls y []) }) (get_or_append_left ix (replicate n 0) 0 a la)) in
    let blank : (k : ℕ) → k < n → place_of ws jx hs ls (length ix + k) ≡ no_place =
    (λ k l.
    let gone : get_or ws (length ix + k) [] ≡ [] =
    ap (λ z. get_or ws (z + k) []) (sym len) ∙ get_or-append-add vs (replicate n []) k [] ∙ get_or-replicate n k [] [] l in
    ap (λ us. record { values = us; joined = map (address hs) (get_or ls (get_or jx (length ix + k) 0) []) }) gone
    ∙ ap (λ y. record { values = []; joined = map (address hs) (get_or ls y []) }) (number-new ix n k l)
    ∙ ap (λ ys. record { values = []; joined = map (address hs) ys }) f.blank) in
    let new : row_of (place_of ws jx hs ls) x ≡ fresh_row named n =
    ap (λ ps. record { named = Some named; places = ps }) (block_const (place_of ws jx hs ls) (length ix) n no_place blank) in
    map-append (row_of (place_of ws jx hs ls)) es (x ∷ [])
    ∙ ap (λ rs. rs ++ row_of (place_of ws jx hs ls) x ∷ []) (old ∙ e)
    ∙ ap (λ r. v ++ r ∷ []) new

pub flat-add_at : (es fs : List Entry) (ix jx : List ℕ) (hs : List Home) (ls : List (List ℕ)) (named : Named) (n first : ℕ) → IsFlat es ix hs ls → 0 < length hs
    → length ix + n + 1 < 2 ^ 32
    → first ≡ length ix → fs ≡ es ++ record { named = Some named; first = first; count = n } ∷ [] → jx ≡ ix ++ replicate n 0
    → IsFlat fs jx hs ls
flat-add_at es fs ix jx hs ls named n first f some small e1 ef ej =
    let w : fs ≡ es ++ new_entry named (length ix) n ∷ [] = ef ∙ ap (λ a. es ++ new_entry named a n ∷ []) e1 in
    subst (λ xs. IsFlat xs jx hs ls) (sym w)
    (subst (λ ys. IsFlat (es ++ new_entry named (length ix) n ∷ []) ys hs ls) (sym ej)
    (flat-add es ix hs ls named n f some small))

pub rows-add_at : (es fs : List Entry) (vs ws : List (List Value)) (ix jx : List ℕ) (hs : List Home) (ls : List (List ℕ)) (v : List Row) (named : Named) (n first : ℕ)
    → IsFlat es ix hs ls → length vs ≡ length ix → rows_of es vs ix hs ls ≡ v
    → first ≡ length ix → fs ≡ es ++ record { named = Some named; first = first; count = n } ∷ [] → ws ≡ vs ++ replicate n [] → jx ≡ ix ++ replicate n 0
    → rows_of fs ws jx hs ls ≡ v ++ fresh_row named n ∷ []
rows-add_at es fs vs ws ix jx hs ls v named n first f len e e1 ef ew ej =
    let w : fs ≡ es ++ new_entry named (length ix) n ∷ [] = ef ∙ ap (λ a. es ++ new_entry named a n ∷ []) e1 in
    ap (λ xs. rows_of xs ws jx hs ls) w ∙ ap (λ us. rows_of (es ++ new_entry named (length ix) n ∷ []) us jx hs ls) ew
    ∙ ap (λ ys. rows_of (es ++ new_entry named (length ix) n ∷ []) (vs ++ replicate n []) ys hs ls) ej
    ∙ rows-add es vs ix hs ls v named n f len e

pub others_all : (hs : List Home) (ls : List (List ℕ)) (ys : List ℕ) (a : ℕ) → length ls ≡ length hs → IsSimple ls → ys ≡ get_or ls a [] → All (λ e. e < length hs) ys
others_all hs ls ys a n m e k d l =
    let l' : k < length (get_or ls a []) = omega (arith, ap length e) in
    let c : Contains (get_or ls a []) (get_or (get_or ls a []) k d) = Contains-get_or (get_or ls a []) k d l' in
    let r = others_ranged ls a _ m c in
    subst (λ (zs : List ℕ). get_or zs k d < length hs) (sym e) (omega arith)

-- what is joined is so at a spot
spot_joined : (es : List Entry) (vs : List (List Value)) (ix : List ℕ) (hs : List Home) (ls : List (List ℕ)) (v : List Row) (o k : ℕ) (x : ℕ × ℕ)
    → rows_of es vs ix hs ls ≡ v → Contains (joined_at v o k) x → IsSpot es o k
spot_joined es vs ix hs ls v o k x e c = elim (cases_lt o (length es)) [
  | inr le ↦ (let gone : joined_at v o k ≡ [] = ap (λ r. (get_or r.places k no_place).joined) (get_or_past v o no_row (omega (
    arith,
    length-rows es vs ix hs ls,
    ap
        length e,
  ))) in
      let h : Contains {X = ℕ × ℕ} [] x = subst (λ (xs : List (ℕ × ℕ)). Contains xs x) gone c in let l = h.1 in absurd (omega arith))
  | inl l ↦ elim (cases_lt k (entry_at es o).count) [
    | inr le ↦ (let gone : joined_at v o k ≡ [] = ap (λ p. p.joined) (get_or_past (row_at v o).places k no_place (let z =
        ap (λ r. length (row_at r o).places) e in let w = length-places es vs ix hs ls o l in omega arith)) in
        let h : Contains {X = ℕ × ℕ} [] x = subst (λ (xs : List (ℕ × ℕ)). Contains xs x) gone c in let l = h.1 in absurd (omega arith))
    | inl lk ↦ record { object = l; place = lk }
  ]
]

-- what a place is joined to is a place
pub ranged_seen : (es : List Entry) (vs : List (List Value)) (ix : List ℕ) (hs : List Home) (ls : List (List ℕ)) (v : List Row) → IsFlat es ix hs ls → IsSimple ls
    → rows_of es vs ix hs ls ≡ v → IsRanged v
ranged_seen es vs ix hs ls v f m e o k x c =
    let s : IsSpot es o k = spot_joined es vs ix hs ls v o k x e c in
    let d : Contains (map (address hs) (get_or ls (end_at es ix o k) [])) x = subst (λ (xs : List (ℕ × ℕ)). Contains xs x) (joined_seen es vs ix hs ls v o k e s) c in
    let (y, cy, ey) = Contains-from_map (address hs) (get_or ls (end_at es ix o k) []) x d in
    let good = others_good es ix hs ls (end_at es ix o k) y f m cy in
    let inside = f.within y good.0 good.1 in
    let count : length (row_at v (home_at hs y).object).places ≡ (entry_at es (home_at hs y).object).count =
    ap (λ r. length (row_at r (home_at hs y).object).places) (sym e) ∙ length-places es vs ix hs ls (home_at hs y).object (f.owned y good.0 good.1) in
    subst (λ (z : ℕ × ℕ). z.1 < length (row_at v z.0).places) ey (omega arith)

pub mutual_seen : (es : List Entry) (vs : List (List Value)) (ix : List ℕ) (hs : List Home) (ls : List (List ℕ)) (v : List Row) → IsFlat es ix hs ls → IsSimple ls
    → rows_of es vs ix hs ls ≡ v → IsMutual v
mutual_seen es vs ix hs ls v f m e o k x c =
    let s : IsSpot es o k = spot_joined es vs ix hs ls v o k x e c in
    let d : Contains (map (address hs) (get_or ls (end_at es ix o k) [])) x = subst (λ (xs : List (ℕ × ℕ)). Contains xs x) (joined_seen es vs ix hs ls v o k e s) c in
    let (y, cy, ey) = Contains-from_map (address hs) (get_or ls (end_at es ix o k) []) x d in
    let good = others_good es ix hs ls (end_at es ix o k) y f m cy in
    let t : IsSpot es (home_at hs y).object (home_at hs y).place = record { object = f.owned y good.0 good.1; place = f.within y good.0 good.1 } in
    let there : Contains (get_or ls y []) (end_at es ix o k) = m.symmetric (end_at es ix o k) y cy in
    let back : Contains (get_or ls (end_at es ix (home_at hs y).object (home_at hs y).place) []) (end_at es ix o k) =
    subst (λ (z : ℕ). Contains (get_or ls z []) (end_at es ix o k)) (sym (f.found y good.0 good.1)) there in
    subst (λ (z : ℕ × ℕ). Contains (joined_at v z.0 z.1) (o, k)) ey (contains_seen es vs ix hs ls v (home_at hs y).object (home_at hs y).place o k f e t s (others_some
    ls y (end_at es ix o k) m f.blank there) back)

-- a place is joined to another once
pub once_seen : (es : List Entry) (vs : List (List Value)) (ix : List ℕ) (hs : List Home) (ls : List (List ℕ)) (v : List Row) → IsFlat es ix hs ls → IsSimple ls
    → rows_of es vs ix hs ls ≡ v → IsSingle v
once_seen es vs ix hs ls v f m e o k i j d before within same =
    let s : IsSpot es o k = spot_joined es vs ix hs ls v o k (get_or (joined_at v o k) j d) e (Contains-get_or (joined_at v o k) j d within) in
    let end : ℕ = end_at es ix o k in
    let zs : List ℕ = get_or ls end [] in
    let shown : joined_at v o k ≡ map (address hs) zs = joined_seen es vs ix hs ls v o k e s in
    let lj : j < length zs = omega (arith, ap length shown, length-map zs (address hs)) in
    let li : i < length zs = omega arith in
    let at_i : get_or (joined_at v o k) i d ≡ address hs (get_or zs i 0) = ap (λ xs. get_or xs i d) shown ∙ get_or-map (address hs) zs i 0 d li in
    let at_j : get_or (joined_at v o k) j d ≡ address hs (get_or zs j 0) = ap (λ xs. get_or xs j d) shown ∙ get_or-map (address hs) zs j 0 d lj in
    let one : address hs (get_or zs i 0) ≡ address hs (get_or zs j 0) = sym at_i ∙ same ∙ at_j in
    let good_i = others_good es ix hs ls end (get_or zs i 0) f m (Contains-get_or zs i 0 li) in
    let good_j = others_good es ix hs ls end (get_or zs j 0) f m (Contains-get_or zs j 0 lj) in
    m.single end i j 0 before lj
    (sym (f.found (get_or zs i 0) good_i.0 good_i.1) ∙ ap (λ (z : ℕ × ℕ). end_at es ix z.0 z.1) one ∙ f.found (get_or zs j 0) good_j.0 good_j.1)

-- an object taken from its number
entry-forget : (es : List Entry) (o i : ℕ) → ((entry_at (update_at es o (λ e. record e { named = None })) i).first ≡ (entry_at es i).first) × ((entry_at (update_at es
    o (λ e. record e { named = None })) i).count ≡ (entry_at es i).count)
entry-forget [] o i = (refl, refl)
entry-forget (x ∷ xs) zero zero = (refl, refl)
entry-forget (x ∷ xs) zero (suc i) = (refl, refl)
entry-forget (x ∷ xs) (suc o) zero = (refl, refl)
entry-forget (x ∷ xs) (suc o) (suc i) = entry-forget xs o i

pub flat-forget : (es fs : List Entry) (ix : List ℕ) (hs : List Home) (ls : List (List ℕ)) (o : ℕ) → IsFlat es ix hs ls
    → fs ≡ update_at es o (λ e. record e { named = None }) → IsFlat fs ix hs ls
flat-forget es fs ix hs ls o f e =
    let g : Entry → Entry = λ e. record e { named = None } in
    let len : length (update_at es o g) ≡ length es = length-update_at es o g in
    let fst_is : (i : ℕ) → (entry_at (update_at es o g) i).first ≡ (entry_at es i).first = (λ i. (entry-forget es o i).0) in
    let cnt_is : (i : ℕ) → (entry_at (update_at es o g) i).count ≡ (entry_at es i).count = (λ i. (entry-forget es o i).1) in
    subst (λ xs. IsFlat xs ix hs ls) (sym e) (record {
      ends = f.ends;
      small = f.small;
      placed = λ i l. let p = f.placed i (omega arith) in let a = fst_is i in let b = cnt_is i in omega arith;
      sorted = λ i j a l. let p = f.sorted i j a (omega arith) in let b = fst_is i in let d = cnt_is i in let h = fst_is j in omega arith;
      listed = f.listed;
      few = f.few;
      blank = f.blank;
      known = λ i k l m ne. ap (λ z. address hs (get_or ix (z + k) 0)) (fst_is i)
          ∙ f.known i k (omega arith) (subst (λ (z : ℕ). k < z) (cnt_is i) m) (λ z. ne (ap (λ y. get_or ix (y + k) 0) (fst_is i) ∙ z));
      owned = λ x l ne. let p = f.owned x l ne in omega arith;
      within = λ x l ne. subst (λ (z : ℕ). (home_at hs x).place < z) (sym (cnt_is (home_at hs x).object)) (f.within x l ne);
      found = λ x l ne. ap (λ z. get_or ix (z + (home_at hs x).place) 0) (fst_is (home_at hs x).object) ∙ f.found x l ne;
    })

pub rows-forget : (es fs : List Entry) (vs : List (List Value)) (ix : List ℕ) (hs : List Home) (ls : List (List ℕ)) (v : List Row) (o : ℕ)
    → rows_of es vs ix hs ls ≡ v → fs ≡ update_at es o (λ e. record e { named = None }) → rows_of fs vs ix hs ls ≡ unnamed v o
rows-forget es fs vs ix hs ls v o e ef =
    ap (λ xs. rows_of xs vs ix hs ls) ef
    ∙ map-update_at (row_of (place_of vs ix hs ls)) es o (λ e. record e { named = None }) (λ r. record r { named = None }) (λ x. refl)
    ∙ ap (λ rows. unnamed rows o) e
