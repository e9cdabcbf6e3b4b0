-- Places that are given ends.
use Rattle.std.proofs.Common.{◌≡◌, ◌≢◌, ℕ, ◌+◌, ◌<◌, ◌^◌, List, [], ◌∷◌, ◌++◌, length, get_or, set, map, refl, ap, sym, ◌∙◌, arith, subst, inl, inr}
use Rattle.std.specs.Prelude.{◌==◌}
use Rattle.std.proofs.lemmas.Bool.{cases_eq}
use Rattle.std.proofs.lemmas.List.{length-set, length_push, get_or_push, get_or_append_left, get_or-set_same, get_or-set_other}
use Rattle.std.proofs.lemmas.List.Sums.{count_by-le-length}
use Rattle.link_arena.specs.Links.{IsSimple}
use Rattle.object_tables.specs.declared.tables.Entry.{Entry}
use Rattle.object_tables.specs.declared.tables.Home.{Home}
use Rattle.object_tables.specs.declared.value.Value.{Value}
use Rattle.object_tables.specs.Rows.{Row}
use Rattle.object_tables.specs.Flat.{rows_of, entry_at, home_at, no_home, address, joined_of, place_of, number_at, end_at, IsFlat, IsSpot, IsGrown}
use Rattle.object_tables.proofs.ListLemmas.{map-same_all}
use Rattle.object_tables.proofs.ZeroLemmas.{zeros-set}
use Rattle.object_tables.proofs.RowLemmas.{rows_same}
use Rattle.object_tables.proofs.FlatLemmas.{number_placed, same_spot, others_good}

pub grown_none : (es : List Entry) (ix jx : List ℕ) (hs gs : List Home) (ls ms : List (List ℕ)) → IsFlat es ix hs ls → jx ≡ ix → gs ≡ hs → ms ≡ ls
    → IsGrown es ix hs ls jx gs ms
grown_none es ix jx hs gs ls ms f ej eg em =
    let same : IsGrown es ix hs ls ix hs ls = record { flat = f; length_is = refl; seen = λ n l. refl; kept = λ n ne. refl } in
    subst (λ xs. IsGrown es ix hs ls xs gs ms) (sym ej) (subst (λ xs. IsGrown es ix hs ls ix xs ms) (sym eg) (subst (λ xs. IsGrown es ix hs ls ix hs xs) (sym em) same))

-- without an end no object has a place
pub grown_first : (es : List Entry) (ix : List ℕ) (hs gs : List Home) (ls ms : List (List ℕ)) (h : Home) → IsFlat es ix hs ls → length hs ≡ 0 → gs ≡ hs ++ h ∷ []
    → ms ≡ ls ++ [] ∷ []
    → IsGrown es ix hs ls ix gs ms
grown_first es ix hs gs ls ms h f none eg em =
    let lg : length gs ≡ length hs + 1 = ap length eg ∙ length_push hs h in
    let lm : length ms ≡ length ls + 1 = ap length em ∙ length_push ls [] in
    let bare : (n : ℕ) → n < length ix → ⊥ = (λ n l. let p = f.listed n l in absurd (omega arith)) in
    let empty : get_or ms 0 [] ≡ [] = ap (λ (xs : List (List ℕ)). get_or xs 0 []) em ∙ get_or_push ls [] [] 0 (f.ends ∙ none) in
    record {
      flat = record {
        ends = let e = f.ends in omega arith;
        small = f.small;
        placed = f.placed;
        sorted = f.sorted;
        listed = λ n l. absurd (bare n l);
        few = let z = count_by-le-length (λ i. i == 0) ix in omega arith;
        blank = empty;
        known = λ o k l m ne. absurd (bare (number_at es o k) (let p = f.placed o l in omega arith));
        owned = λ e l ne. absurd (ne (omega arith));
        within = λ e l ne. absurd (ne (omega arith));
        found = λ e l ne. absurd (ne (omega arith));
      };
      length_is = refl;
      seen = λ n l. absurd (bare n l);
      kept = λ n ne. refl;
    }

-- a place that is no end becomes the last
module _ (es : List Entry) (ix : List ℕ) (hs : List Home) (ls : List (List ℕ)) (o k : ℕ) (f : IsFlat es ix hs ls) (s : IsSpot es o k) (none : end_at es ix o k ≡ 0)
  where
    abbrev here : ℕ
    here = number_at es o k

    abbrev index_then : List ℕ
    index_then = set ix here (length hs)

    abbrev homes_then : List Home
    homes_then = hs ++ record { object = o; place = k } ∷ []

    abbrev links_then : List (List ℕ)
    links_then = ls ++ [] ∷ []

    inside : here < length ix
    inside = number_placed es ix hs ls o k f s

    some : 0 < length hs
    some = let p = f.listed here inside in omega arith

    longer : length homes_then ≡ length hs + 1
    longer = length_push hs (record { object = o; place = k })

    more : length links_then ≡ length ls + 1
    more = length_push ls []

    same_length : length index_then ≡ length ix
    same_length = length-set ix here (length hs)

    home_old : (e : ℕ) → e < length hs → home_at homes_then e ≡ home_at hs e
    home_old e l = get_or_append_left hs (record { object = o; place = k } ∷ []) no_home e l

    home_new : home_at homes_then (length hs) ≡ record { object = o; place = k }
    home_new = get_or_push hs (record { object = o; place = k }) no_home (length hs) refl

    links_old : (e : ℕ) → e < length hs → get_or links_then e [] ≡ get_or ls e []
    links_old e l = get_or_append_left ls ([] ∷ []) [] e (let q = f.ends in omega arith)

    links_new : get_or links_then (length hs) [] ≡ []
    links_new = get_or_push ls [] [] (length hs) f.ends

    index_new : get_or index_then here 0 ≡ length hs
    index_new = get_or-set_same ix here (length hs) 0 inside

    index_old : (n : ℕ) → n ≢ here → get_or index_then n 0 ≡ get_or ix n 0
    index_old n ne = get_or-set_other ix here n (length hs) 0 ne

    -- an end but the last is one that was there
    was : (e : ℕ) → e < length homes_then → e ≢ length hs → e < length hs
    was e l ne = let q = longer in omega arith

    listed_grown : (n : ℕ) → n < length index_then → get_or index_then n 0 < length homes_then
    listed_grown n l = elim (cases_eq n here) [
      | inl e ↦ subst (λ (z : ℕ). z < length homes_then) (sym (ap (λ x. get_or index_then x 0) e ∙ index_new)) (let q = longer in omega arith)
      | inr ne ↦ subst (λ (z : ℕ). z < length homes_then) (sym (index_old n ne)) (let p = f.listed n (let q = same_length in omega arith) in let q =
          longer in omega arith)
    ]

    known_grown : (i j : ℕ) → i < length es → j < (entry_at es i).count → end_at es index_then i j ≢ 0 → address homes_then (end_at es index_then i j) ≡ (i, j)
    known_grown i j li lj ne = elim (cases_eq (number_at es i j) here) [
      | inl e ↦ (let w = same_spot es ix hs ls o k i j f s (record { object = li; place = lj }) e in
          let at : end_at es index_then i j ≡ length hs = ap (λ x. get_or index_then x 0) e ∙ index_new in
          ap (address homes_then) at ∙ ap (λ (h : Home). (h.object, h.place)) home_new ∙ ap (λ x. (x, k)) (sym w.0) ∙ ap (λ x. (i, x)) (sym w.1))
      | inr other ↦ (let at : end_at es index_then i j ≡ end_at es ix i j = index_old (number_at es i j) other in
          let l : end_at es ix i j < length hs = f.listed (number_at es i j) (number_placed es ix hs ls i j f (record { object = li; place = lj })) in
          ap (address homes_then) at ∙ ap (λ (h : Home). (h.object, h.place)) (home_old (end_at es ix i j) l) ∙ f.known i j li lj (λ z. ne (at ∙ z)))
    ]

    owned_grown : (e : ℕ) → e < length homes_then → e ≢ 0 → (home_at homes_then e).object < length es
    owned_grown e l ne = elim (cases_eq e (length hs)) [
      | inl is ↦ subst (λ (h : Home). h.object < length es) (sym (ap (home_at homes_then) is ∙ home_new)) s.object
      | inr other ↦ subst (λ (h : Home). h.object < length es) (sym (home_old e (was e l other))) (f.owned e (was e l other) ne)
    ]

    within_grown : (e : ℕ) → e < length homes_then → e ≢ 0 → (home_at homes_then e).place < (entry_at es (home_at homes_then e).object).count
    within_grown e l ne = elim (cases_eq e (length hs)) [
      | inl is ↦ subst (λ (h : Home). h.place < (entry_at es h.object).count) (sym (ap (home_at homes_then) is ∙ home_new)) s.place
      | inr other ↦ subst (λ (h : Home). h.place < (entry_at es h.object).count) (sym (home_old e (was e l other))) (f.within e (was e l other) ne)
    ]

    found_grown : (e : ℕ) → e < length homes_then → e ≢ 0 → end_at es index_then (home_at homes_then e).object (home_at homes_then e).place ≡ e
    found_grown e l ne = elim (cases_eq e (length hs)) [
      | inl is ↦ ap (λ (h : Home). end_at es index_then h.object h.place) (ap (home_at homes_then) is ∙ home_new) ∙ index_new ∙ sym is
      | inr other ↦ (let old : e < length hs = was e l other in
          let at : end_at es ix (home_at hs e).object (home_at hs e).place ≡ e = f.found e old ne in
          ap (λ (h : Home). end_at es index_then h.object h.place) (home_old e old)
          ∙ index_old (number_at es (home_at hs e).object (home_at hs e).place) (λ z. ne (sym at ∙ ap (λ x. get_or ix x 0) z ∙ none)) ∙ at)
    ]

    flat_grown : IsFlat es index_then homes_then links_then
    flat_grown = record {
      ends = let e = f.ends in let p = more in let q = longer in omega arith;
      small = let p = f.small in let q = same_length in omega arith;
      placed = λ i l. let p = f.placed i l in let q = same_length in omega arith;
      sorted = f.sorted;
      listed = listed_grown;
      few = let z = zeros-set ix here (length hs) inside none (λ e. let l = some in absurd (omega arith)) in let p = f.few in let q = longer in let r = same_length in omega arith;
      blank = links_old 0 some ∙ f.blank;
      known = known_grown;
      owned = owned_grown;
      within = within_grown;
      found = found_grown;
    }

    seen_grown : IsSimple ls → (n : ℕ) → n < length ix → joined_of index_then homes_then links_then n ≡ joined_of ix hs ls n
    seen_grown simple n l = elim (cases_eq n here) [
      | inl e ↦ ap (λ x. map (address homes_then) (get_or links_then x [])) (ap (λ x. get_or index_then x 0) e ∙ index_new) ∙ ap (map (address homes_then)) links_new
          ∙ sym (ap (map (address hs)) (ap (λ x. get_or ls x []) (ap (λ x. get_or ix x 0) e ∙ none) ∙ f.blank))
      | inr other ↦ (let a : ℕ = get_or ix n 0 in
          ap (λ x. map (address homes_then) (get_or links_then x [])) (index_old n other) ∙ ap (map (address homes_then)) (links_old a (f.listed n l))
          ∙ map-same_all (address homes_then) (address hs) (get_or ls a [])
          (λ y c. ap (λ (h : Home). (h.object, h.place)) (home_old y (others_good es ix hs ls a y f simple c).0)))
    ]

    last_grown : IsSimple ls → IsGrown es ix hs ls index_then homes_then links_then
    last_grown simple = record {
      flat = flat_grown;
      length_is = same_length;
      seen = seen_grown simple;
      kept = λ n ne. index_old n (λ z. ne (ap (λ x. get_or ix x 0) z ∙ none));
    }

-- where a place is no end, there is a number for one more
pub ends_few : (es : List Entry) (ix : List ℕ) (hs : List Home) (ls : List (List ℕ)) (o k n : ℕ) → IsFlat es ix hs ls → IsSpot es o k → n ≡ number_at es o k → get_or ix n 0 ≡ 0 → length ls + 1 < 2 ^ 32
ends_few es ix hs ls o k n f s en none =
    let l : n < length ix = (let p = number_placed es ix hs ls o k f s in omega arith) in
    let z = zeros-set ix n 1 l none (λ e. absurd (omega arith)) in
    let p = f.few in
    let q = f.small in
    let r = f.ends in
    omega arith

pub grown_at : (es : List Entry) (ix jx : List ℕ) (hs gs : List Home) (ls ms : List (List ℕ)) (o k n e : ℕ) → IsFlat es ix hs ls → IsSimple ls → IsSpot es o k
    → n ≡ number_at es o k → get_or ix n 0 ≡ 0 → e ≡ length hs → jx ≡ set ix n e → gs ≡ hs ++ record { object = o; place = k } ∷ [] → ms ≡ ls ++ [] ∷ []
    → IsGrown es ix hs ls jx gs ms
grown_at es ix jx hs gs ls ms o k n e f simple s en none ee ej eg em =
    subst (λ xs. IsGrown es ix hs ls xs gs ms) (sym (ej ∙ ap (λ x. set ix x e) en ∙ ap (set ix (number_at es o k)) ee))
    (subst (λ xs. IsGrown es ix hs ls (set ix (number_at es o k) (length hs)) xs ms) (sym eg)
    (subst (λ xs. IsGrown es ix hs ls (set ix (number_at es o k) (length hs)) (hs ++ record { object = o; place = k } ∷ []) xs) (sym em)
    (last_grown es ix hs ls o k f s (ap (λ x. get_or ix x 0) (sym en) ∙ none) simple)))

-- the end that it is then
pub end_grown : (es : List Entry) (ix jx : List ℕ) (hs : List Home) (ls : List (List ℕ)) (o k n e : ℕ) → IsFlat es ix hs ls → IsSpot es o k → n ≡ number_at es o k
    → jx ≡ set ix n e → e ≡ end_at es jx o k
end_grown es ix jx hs ls o k n e f s en ej =
    sym (ap (λ (xs : List ℕ). end_at es xs o k) (ej ∙ ap (λ x. set ix x e) en) ∙ get_or-set_same ix (number_at es o k) e 0 (number_placed es ix hs ls o k f s))

-- an end that is added isn't 0
pub end_added : (es : List Entry) (ix : List ℕ) (hs : List Home) (ls : List (List ℕ)) (o k e : ℕ) → IsFlat es ix hs ls → IsSpot es o k → e ≡ length hs → e ≢ 0
end_added es ix hs ls o k e f s ee z = let p = f.listed (number_at es o k) (number_placed es ix hs ls o k f s) in absurd (omega arith)

pub grown_through : (es : List Entry) (ix jx kx : List ℕ) (hs gs fs : List Home) (ls ms ns : List (List ℕ)) → IsGrown es ix hs ls jx gs ms
    → IsGrown es jx gs ms kx fs ns → IsGrown es ix hs ls kx fs ns
grown_through es ix jx kx hs gs fs ls ms ns g h = record {
  flat = h.flat;
  length_is = h.length_is ∙ g.length_is;
  seen = λ n l. h.seen n (let q = g.length_is in omega arith) ∙ g.seen n l;
  kept = λ n ne. h.kept n (λ z. ne (sym (g.kept n ne) ∙ z)) ∙ g.kept n ne;
}

-- the rows stay as they were
pub rows_grown : (es : List Entry) (vs : List (List Value)) (ix jx : List ℕ) (hs gs : List Home) (ls ms : List (List ℕ)) (v : List Row)
    → IsGrown es ix hs ls jx gs ms → rows_of es vs ix hs ls ≡ v → rows_of es vs jx gs ms ≡ v
rows_grown es vs ix jx hs gs ls ms v g e =
    rows_same (place_of vs ix hs ls) (place_of vs jx gs ms) es
    (λ o k l m.
    let there : number_at es o k < length ix = (let p = g.flat.placed o l in let q = g.length_is in omega arith) in
    ap (λ js. record { values = get_or vs (number_at es o k) []; joined = js }) (g.seen (number_at es o k) there))
    ∙ e
