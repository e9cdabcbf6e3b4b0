-- What a place is joined to, in the order of a list of objects.
use Rattle.std.proofs.Common.{◌≡◌, ◌≢◌, ℕ, ◌<◌, ◌≤◌, List, [], ◌∷◌, ◌++◌, length, get_or, set, map, refl, ap, sym, ◌∙◌, arith, subst, eqb, inl, inr}
use Rattle.std.specs.Prelude.{Contains, All, IsPermutation}
use Rattle.std.specs.List.{IsDistinct, AllPairs}
use Rattle.std.proofs.lemmas.Bool.{cases_eq, eqb-true}
use Rattle.std.proofs.lemmas.Bool.Decides.{Decides-eqb}
use Rattle.std.proofs.lemmas.List.{nil_from_length, length-map, get_or-map, get_or-set_same, get_or-set_other}
use Rattle.std.proofs.lemmas.List.Elements.{Contains-get_or, Contains-push_cases}
use Rattle.std.proofs.lemmas.List.Sorted.{IsPermutation-map, Contains-permutation, length_permutation}
use Rattle.std.proofs.lemmas.Map.Made.{IsDistinct-from_AllPairs}
use Rattle.std.proofs.lemmas.Map.Steps.{length-le_from_distinct_below}
use Rattle.std.proofs.lemmas.Map.Views.{Contains-from_any}
use Rattle.link_arena.specs.Links.{IsSimple}
use Rattle.object_tables.specs.declared.tables.Entry.{Entry}
use Rattle.object_tables.specs.declared.tables.Home.{Home}
use Rattle.object_tables.specs.declared.value.ObjId.{ObjId}
use Rattle.object_tables.specs.declared.value.Value.{Value}
use Rattle.object_tables.specs.Rows.{Row, joined_at, with_joined}
use Rattle.object_tables.specs.Flat.{rows_of, home_at, address, end_at, IsFlat, IsSpot}
use Rattle.object_tables.specs.Orders.{AreOfObjects, IsReordered, IsMarkedFor}
use Rattle.object_tables.proofs.ListLemmas.{Contains-from_map}
use Rattle.mof_metamodel.proofs.Facts.{contains_map}
use Rattle.object_tables.proofs.MapLemmas.{map-map, map-back}
use Rattle.object_tables.proofs.FlatLemmas.{joined_seen, rows-links, others_good}

-- ---- the objects of ends

abbrev object : List Home → ℕ → ℕ
object hs e = (home_at hs e).object

objects_seen : (es : List Entry) (vs : List (List Value)) (ix : List ℕ) (hs : List Home) (ls : List (List ℕ)) (v : List Row) (o k : ℕ) → rows_of es vs ix hs ls ≡ v
    → IsSpot es o k
    → map (λ e. e.0) (joined_at v o k) ≡ map (object hs) (get_or ls (end_at es ix o k) [])
objects_seen es vs ix hs ls v o k e s = ap (map (λ e. e.0)) (joined_seen es vs ix hs ls v o k e s) ∙ map-map (address hs) (λ e. e.0) (get_or ls (end_at es ix o k) [])

-- ends of one object are one, where no two places are of one object
pub ends_of_objects : (es : List Entry) (vs : List (List Value)) (ix : List ℕ) (hs : List Home) (ls : List (List ℕ)) (v : List Row) (o k : ℕ) (ys : List ℕ)
    → IsFlat es ix hs ls → IsSimple ls → rows_of es vs ix hs ls ≡ v → IsSpot es o k
    → AreOfObjects (joined_at v o k) → ys ≡ get_or ls (end_at es ix o k) []
    → (d e : ℕ) → Contains ys d → Contains ys e → object hs d ≡ object hs e → d ≡ e
ends_of_objects es vs ix hs ls v o k ys f m e s apart ey x y cx cy h =
    let zs : List ℕ = get_or ls (end_at es ix o k) [] in
    let dx : Contains zs x = subst (λ us. Contains us x) ey cx in
    let dy : Contains zs y = subst (λ us. Contains us y) ey cy in
    let gx = others_good es ix hs ls (end_at es ix o k) x f m dx in
    let gy = others_good es ix hs ls (end_at es ix o k) y f m dy in
    let seen : (z : ℕ) → Contains zs z → Contains (joined_at v o k) (address hs z) =
    (λ z cz. subst (λ us. Contains us (address hs z)) (sym (joined_seen es vs ix hs ls v o k e s)) (contains_map (address hs) zs z cz)) in
    let same : address hs x ≡ address hs y = apart (address hs x) (address hs y) (seen x dx) (seen y dy) h in
    sym (f.found x gx.0 gx.1) ∙ ap (λ a. end_at es ix a.0 a.1) same ∙ f.found y gy.0 gy.1

-- an end is of an object
owned_below : (es : List Entry) (vs : List (List Value)) (ix : List ℕ) (hs : List Home) (ls : List (List ℕ)) (a x : ℕ) → IsFlat es ix hs ls → IsSimple ls
    → Contains (get_or ls a []) x → object hs x < length es
owned_below es vs ix hs ls a x f m c = let g = others_good es ix hs ls a x f m c in f.owned x g.0 g.1

pub objects_all : (es : List Entry) (vs : List (List Value)) (ix : List ℕ) (hs : List Home) (ls : List (List ℕ)) (ys : List ℕ) (a n : ℕ) → IsFlat es ix hs ls
    → IsSimple ls → ys ≡ get_or ls a [] → length es ≤ n
    → All (λ e. object hs e < n) ys
objects_all es vs ix hs ls ys a n f m e le k d l =
    let c : Contains ys (get_or ys k d) = Contains-get_or ys k d l in
    let r = owned_below es vs ix hs ls a (get_or ys k d) f m (subst (λ zs. Contains zs (get_or ys k d)) e c) in
    omega arith

-- the objects of a list are objects of ends, where they are those of the ends in another order
in_order_of : (es : List Entry) (vs : List (List Value)) (ix : List ℕ) (hs : List Home) (ls : List (List ℕ)) (v : List Row) (o k : ℕ) (order : List ObjId)
    → rows_of es vs ix hs ls ≡ v → IsSpot es o k
    → IsPermutation (map (λ b. b.0) order) (map (λ e. e.0) (joined_at v o k)) → IsPermutation (map (λ b. b.0) order) (map (object hs) (get_or ls (end_at es ix o k) []))
in_order_of es vs ix hs ls v o k order e s p = subst (λ xs. IsPermutation (map (λ b. b.0) order) xs) (objects_seen es vs ix hs ls v o k e s) p

pub order_all : (es : List Entry) (vs : List (List Value)) (ix : List ℕ) (hs : List Home) (ls : List (List ℕ)) (v : List Row) (o k n : ℕ) (order : List ObjId)
    → IsFlat es ix hs ls → IsSimple ls → rows_of es vs ix hs ls ≡ v → IsSpot es o k
    → IsPermutation (map (λ b. b.0) order) (map (λ e. e.0) (joined_at v o k)) → length es ≤ n → All (λ b. b.0 < n) order
order_all es vs ix hs ls v o k n order f m e s p le i d l =
    let b : ObjId = get_or order i d in
    let c : Contains (map (λ b. b.0) order) b.0 = contains_map (λ b. b.0) order b (Contains-get_or order i d l) in
    let (x, cx, ex) = Contains-from_map (object hs) (get_or ls (end_at es ix o k) []) b.0 (Contains-permutation _ _ b.0 (in_order_of es vs ix hs ls v o k order e s p)
    c) in
    let r = owned_below es vs ix hs ls (end_at es ix o k) x f m cx in
    omega arith

-- there are no more of them than objects
pub order_few : (es : List Entry) (vs : List (List Value)) (ix : List ℕ) (hs : List Home) (ls : List (List ℕ)) (v : List Row) (o k n : ℕ) (order : List ObjId)
    → IsFlat es ix hs ls → IsSimple ls → rows_of es vs ix hs ls ≡ v → IsSpot es o k
    → AreOfObjects (joined_at v o k)
    → IsPermutation (map (λ b. b.0) order) (map (λ e. e.0) (joined_at v o k)) → length es ≤ n → length order ≤ n
order_few es vs ix hs ls v o k n order f m e s apart p le =
    let zs : List ℕ = get_or ls (end_at es ix o k) [] in
    let pairs : AllPairs (λ x y. x ≢ y) (map (object hs) zs) =
    (λ i j d li lj same.
    let mj : j < length zs = omega (arith, length-map zs (object hs)) in
    let mi : i < length zs = omega arith in
    let there : object hs (get_or zs i 0) ≡ object hs (get_or zs j 0) = sym (get_or-map (object hs) zs i 0 d mi) ∙ same ∙ get_or-map (object hs) zs j 0 d mj in
    m.single (end_at es ix o k) i j 0 li mj
    (ends_of_objects es vs ix hs ls v o k zs f m e s apart refl (get_or zs i 0) (get_or zs j 0) (Contains-get_or zs i 0 mi) (Contains-get_or zs j 0 mj) there)) in
    let distinct : IsDistinct eqb (map (object hs) zs) = IsDistinct-from_AllPairs Decides-eqb (map (object hs) zs) pairs in
    let few : length (map (object hs) zs) ≤ length es =
    length-le_from_distinct_below (map (object hs) zs) (length es) distinct
    (λ q h.
    let (x, cx, ex) = Contains-from_map (object hs) zs q (Contains-from_any (λ x y. eqb-true x y) q (map (object hs) zs) h) in
    subst (λ (z : ℕ). z < length es) ex (owned_below es vs ix hs ls (end_at es ix o k) x f m cx)) in
    let same : length (map (object hs) zs) ≡ length (map (λ b. b.0) order) = length_permutation _ _ (in_order_of es vs ix hs ls v o k order e s p) in
    let len : length (map (λ b. b.0) order) ≡ length order = length-map order (λ b. b.0) in
    omega arith

-- ---- marks

-- one more end is marked
pub marked_more : (hs : List Home) (marks marks' ends done : List ℕ) (x : ℕ) → IsMarkedFor hs marks done → object hs x < length marks
    → marks' ≡ set marks (object hs x) x
    → ((e : ℕ) → Contains done e → Contains ends e) → Contains ends x → ((d e : ℕ) → Contains ends d → Contains ends e → object hs d ≡ object hs e → d ≡ e)
    → IsMarkedFor hs marks' (done ++ x ∷ [])
marked_more hs marks marks' ends done x marked room is given here apart e c = elim (cases_eq (object hs e) (object hs x)) [
  | inl same ↦
      (let e_is : e ≡ x = elim (Contains-push_cases done x e c) [
        | inl old ↦ apart e x (given e old) here same
        | inr new ↦ sym new
      ] in
      ap (λ ms. get_or ms (object hs e) 0) is ∙ ap (λ i. get_or (set marks (object hs x) x) i 0) same ∙ get_or-set_same marks (object hs x) x 0 room ∙ sym e_is)
  | inr other ↦ elim (Contains-push_cases done x e c) [
    | inl old ↦ ap (λ ms. get_or ms (object hs e) 0) is ∙ get_or-set_other marks (object hs x) (object hs e) x 0 other ∙ marked e old
    | inr new ↦ absurd (other (ap (object hs) (sym new)))
  ]
]

pub given_more : (ends done : List ℕ) (x : ℕ) → ((e : ℕ) → Contains done e → Contains ends e) → Contains ends x → (e : ℕ) → Contains (done ++ x ∷ []) e
    → Contains ends e
given_more ends done x given here e c = elim (Contains-push_cases done x e c) [
  | inl old ↦ given e old
  | inr new ↦ subst (Contains ends) new here
]

-- ---- the marked ends, in the order of their objects

abbrev mark_of : List ℕ → ℕ → ℕ
mark_of marks b = get_or marks b 0

pub ends_in_order : (es : List Entry) (vs : List (List Value)) (ix : List ℕ) (hs : List Home) (ls : List (List ℕ)) (v : List Row) (o k a : ℕ) (ys marks ends : List ℕ)
    (order : List ObjId) → rows_of es vs ix hs ls ≡ v → IsSpot es o k
    → IsPermutation (map (λ b. b.0) order) (map (λ e. e.0) (joined_at v o k))
    → a ≡ end_at es ix o k → ys ≡ get_or ls a [] → IsMarkedFor hs marks ys → ends ≡ map (λ b. get_or marks b.0 0) order
    → IsPermutation ends (get_or ls a [])
ends_in_order es vs ix hs ls v o k a ys marks ends order e s p ea ey marked ee =
    let zs : List ℕ = get_or ls (end_at es ix o k) [] in
    let yz : ys ≡ zs = ey ∙ ap (λ x. get_or ls x []) ea in
    let back : map (mark_of marks) (map (object hs) zs) ≡ zs = map-back (object hs) (mark_of marks) zs (λ x c. marked x (subst (λ us. Contains us x) (sym yz) c)) in
    let moved : IsPermutation (map (mark_of marks) (map (λ b. b.0) order)) (map (mark_of marks) (map (object hs) zs)) =
    IsPermutation-map (mark_of marks) _ _ (in_order_of es vs ix hs ls v o k order e s p) in
    subst (λ us. IsPermutation ends us) (back ∙ ap (λ x. get_or ls x []) (sym ea))
    (subst (λ us. IsPermutation us (map (mark_of marks) (map (object hs) zs))) (map-map (λ b. b.0) (mark_of marks) order ∙ sym ee) moved)

blank_first : (ls : List (List ℕ)) → get_or (set ls 0 []) 0 [] ≡ []
blank_first [] = refl
blank_first (x ∷ xs) = refl

-- what stands at no end, in another order
pub none_ordered : (ls : List (List ℕ)) (ends : List ℕ) (a : ℕ) → IsPermutation ends (get_or ls a []) → a ≡ 0 → get_or ls 0 [] ≡ [] → ends ≡ []
none_ordered ls ends a p z blank = nil_from_length ends (sym (length_permutation _ _ p) ∙ ap length (ap (λ x. get_or ls x []) z ∙ blank))

-- 0 stays joined to nothing
pub blank_ordered : (ls ms : List (List ℕ)) (ends : List ℕ) (a : ℕ) → IsPermutation ends (get_or ls a []) → ms ≡ set ls a ends → get_or ls 0 [] ≡ []
    → get_or ms 0 [] ≡ []
blank_ordered ls ms ends a p em blank = elim (cases_eq a 0) [
  | inr other ↦ ap (λ (xs : List (List ℕ)). get_or xs 0 []) em ∙ get_or-set_other ls a 0 ends [] (λ z. other (sym z)) ∙ blank
  | inl z ↦ ap (λ (xs : List (List ℕ)). get_or xs 0 []) (em ∙ ap (λ x. set ls x ends) z ∙ ap (set ls 0) (none_ordered ls ends a p z blank)) ∙ blank_first ls
]

pub reordered : (es : List Entry) (vs : List (List Value)) (ix : List ℕ) (hs : List Home) (ls ms : List (List ℕ)) (v : List Row) (o k a : ℕ) (ys marks ends : List ℕ)
    (order : List ObjId) → IsFlat es ix hs ls → rows_of es vs ix hs ls ≡ v → IsSpot es o k
    → IsPermutation (map (λ b. b.0) order) (map (λ e. e.0) (joined_at v o k))
    → a ≡ end_at es ix o k → ys ≡ get_or ls a [] → IsMarkedFor hs marks ys → ends ≡ map (λ b. get_or marks b.0 0) order → ms ≡ set ls a ends
    → IsReordered v o k (map (λ b. b.0) order) (rows_of es vs ix hs ms)
reordered es vs ix hs ls ms v o k a ys marks ends order f e s p ea ey marked ee em =
    let zs : List ℕ = get_or ls (end_at es ix o k) [] in
    let yz : ys ≡ zs = ey ∙ ap (λ x. get_or ls x []) ea in
    let order_is : ends ≡ map (mark_of marks) (map (λ b. b.0) order) = ee ∙ sym (map-map (λ b. b.0) (mark_of marks) order) in
    let permuted : IsPermutation ends (get_or ls a []) = ends_in_order es vs ix hs ls v o k a ys marks ends order e s p ea ey marked ee in
    let none : end_at es ix o k ≡ 0 → ends ≡ [] = (λ z. none_ordered ls ends a permuted (ea ∙ z) f.blank) in
    record {
      joined = map (address hs) ends;
      same = subst (λ us. IsPermutation (map (address hs) ends) us) (ap (λ x. map (address hs) (get_or ls x [])) ea ∙ sym (joined_seen es vs ix hs ls v o k e s))
          (IsPermutation-map (address hs) _ _ permuted);
      objects = map-map (address hs) (λ e. e.0) ends ∙ ap (map (object hs)) order_is
          ∙ map-back (mark_of marks) (object hs) (map (λ b. b.0) order)
          (λ b c.
          let (x, cx, ex) = Contains-from_map (object hs) zs b (Contains-permutation _ _ b (in_order_of es vs ix hs ls v o k order e s p) c) in
          ap (λ z. object hs (mark_of marks z)) (sym ex) ∙ ap (object hs) (marked x (subst (λ us. Contains us x) (sym yz) cx)) ∙ ex);
      is = ap (rows_of es vs ix hs) (em ∙ ap (λ x. set ls x ends) ea) ∙ rows-links es vs ix hs ls o k ends (λ xs. map (address hs) ends) f s none refl
          ∙ ap (λ rows. with_joined rows o k (λ xs. map (address hs) ends)) e;
    }
