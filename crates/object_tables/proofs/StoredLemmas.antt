-- Values that are stored by the numbers that their places have.
use Rattle.std.proofs.Common.{◌≡◌, ◌≢◌, ℕ, ◌+◌, ◌<◌, ◌≤◌, ◌^◌, List, [], ◌∷◌, ◌++◌, zero, suc, length, get_or, set, map, replicate, refl, ap, sym, ◌∙◌, arith, subst, inl, inr, ◌-◌}
use Rattle.std.specs.Prelude.{◌==◌}
use Rattle.std.proofs.lemmas.Bool.{cases_lt, cases_eq}
use Rattle.std.proofs.lemmas.List.{length-map, length-append, length-replicate, length-set, length_push, get_or_push, get_or_append_left, get_or-append-add, get_or-replicate, get_or-set_same, get_or-set_other, get_or-map, map-append, map-set}
use Rattle.std.proofs.lemmas.List.Sums.{count_by-le-length}
use lib.LanesLaws.{map-replicate}
use Rattle.object_tables.specs.declared.value.Value.{Value}
use Rattle.object_tables.specs.Stored.{stored, IsStored}
use Rattle.object_tables.proofs.ZeroLemmas.{zeros, zeros-set, zeros-add}

-- two maps that agree at each element
map-same_each : {X : Type 0} (f g : ℕ → X) (xs : List ℕ) → ((m : ℕ) → m < length xs → f (get_or xs m 0) ≡ g (get_or xs m 0)) → map f xs ≡ map g xs
map-same_each f g [] h = refl
map-same_each f g (x ∷ xs) h =
    let a : f x ≡ g x = h 0 (omega arith) in
    let b : map f xs ≡ map g xs = map-same_each f g xs (λ m l. h (suc m) (omega arith)) in
    cc

-- two maps that agree at each element but one
map-one : {X : Type 0} (f g : ℕ → X) (xs : List ℕ) (n : ℕ) (y : X) → n < length xs → g (get_or xs n 0) ≡ y → ((m : ℕ) → m < length xs → m ≢ n
    → g (get_or xs m 0) ≡ f (get_or xs m 0)) → map g xs ≡ set (map f xs) n y
map-one f g [] n y l e h = absurd (omega arith)
map-one f g (x ∷ xs) zero y l e h = ap (λ z. z ∷ map g xs) e ∙ ap (λ zs. y ∷ zs) (map-same_each g f xs (λ m lm. h (suc m) (omega arith) (λ z. absurd (omega arith))))
map-one f g (x ∷ xs) (suc n) y l e h = ap (λ z. z ∷ map g xs) (h 0 (omega arith) (λ z. absurd (omega arith)))
    ∙ ap (λ zs. f x ∷ zs) (map-one f g xs n y (omega arith) e (λ m lm ne. h (suc m) (omega arith) (λ z. ne (omega arith))))

-- a place that has no number yet leaves room for its values
pub room_for : (ix : List ℕ) (lists : List (List Value)) (capacity n : ℕ) → IsStored ix lists capacity → n < length ix → get_or ix n 0 ≡ 0 → length lists < capacity
room_for ix lists capacity n s l e =
    let p = zeros-set ix n 1 l e (λ z. absurd (omega arith)) in
    let few = s.few in
    let room = s.room (omega arith) in
    omega arith

pub lists_small : (ix : List ℕ) (lists : List (List Value)) (capacity n : ℕ) → IsStored ix lists capacity → n < length ix → get_or ix n 0 ≡ 0 → length lists < 2 ^ 32
lists_small ix lists capacity n s l e =
    let p = zeros-set ix n 1 l e (λ z. absurd (omega arith)) in
    let few = s.few in
    let small = s.small in
    omega arith

pub length-stored : (ix : List ℕ) (lists : List (List Value)) → length (stored ix lists) ≡ length ix
length-stored ix lists = length-map ix (λ i. get_or lists i [])

pub at-stored : (ix : List ℕ) (lists : List (List Value)) (n : ℕ) → n < length ix → get_or (stored ix lists) n [] ≡ get_or lists (get_or ix n 0) []
at-stored ix lists n l = get_or-map (λ i. get_or lists i []) ix n 0 [] l

-- there is room for more
pub stored_room : (ix : List ℕ) (lists : List (List Value)) (capacity larger : ℕ) → IsStored ix lists capacity → capacity ≤ larger → IsStored ix lists larger
stored_room ix lists capacity larger s l = record {
  small = s.small;
  within = s.within;
  blank = s.blank;
  apart = s.apart;
  few = s.few;
  room = λ some. let r = s.room some in omega arith;
}

-- values of a place that had none
pub stored-new : (ix : List ℕ) (lists : List (List Value)) (capacity n : ℕ) (values : List Value) → IsStored ix lists capacity → n < length ix → get_or ix n 0 ≡ 0
    → IsStored (set ix n (length lists)) (lists ++ values ∷ []) capacity
stored-new ix lists capacity n values s l e =
    let y : ℕ = length lists in
    let some : 0 < y = (let p = s.within n l in omega arith) in
    let len : length (set ix n y) ≡ length ix = length-set ix n y in
    let longer : length (lists ++ values ∷ []) ≡ y + 1 = length_push lists values in
    let less : zeros (set ix n y) + 1 ≡ zeros ix = zeros-set ix n y l e (λ z. absurd (omega arith)) in
    let new : get_or (set ix n y) n 0 ≡ y = get_or-set_same ix n y 0 l in
    let other : (m : ℕ) → m ≢ n → get_or (set ix n y) m 0 ≡ get_or ix m 0 = (λ m ne. get_or-set_other ix n m y 0 ne) in
    let old : (m : ℕ) → m < length ix → get_or ix m 0 < y = s.within in
    record {
      small = let q = s.small in omega arith;
      within = λ m lm. elim (cases_eq m n) [
        | inl is ↦ subst (λ (z : ℕ). z < length (lists ++ values ∷ [])) (sym (ap (λ x. get_or (set ix n y) x 0) is ∙ new)) (omega arith)
        | inr ne ↦ subst (λ (z : ℕ). z < length (lists ++ values ∷ [])) (sym (other m ne)) (let p = old m (omega arith) in omega arith)
      ];
      blank = get_or_append_left lists (values ∷ []) [] 0 some ∙ s.blank;
      apart = λ m k lm lk same ne. elim (cases_eq m n) [
        | inl is ↦ elim (cases_eq k n) [
          | inl ks ↦ is ∙ sym ks
          | inr kn ↦ absurd (let p = old k (omega arith) in
              let q : y ≡ get_or ix k 0 = sym (ap (λ x. get_or (set ix n y) x 0) is ∙ new) ∙ same ∙ other k kn in omega arith)
        ]
        | inr mn ↦ elim (cases_eq k n) [
          | inl ks ↦ absurd (let p = old m (omega arith) in
              let q : get_or ix m 0 ≡ y = sym (other m mn) ∙ same ∙ ap (λ x. get_or (set ix n y) x 0) ks ∙ new in omega arith)
          | inr kn ↦ s.apart m k (omega arith) (omega arith) (sym (other m mn) ∙ same ∙ other k kn) (λ z. ne (other k kn ∙ z))
        ]
      ];
      few = let q = s.few in omega arith;
      room = λ h. let r = s.room (omega arith) in omega arith;
    }

pub seen-new : (ix : List ℕ) (lists : List (List Value)) (capacity n : ℕ) (values : List Value) → IsStored ix lists capacity → n < length ix → get_or ix n 0 ≡ 0
    → stored (set ix n (length lists)) (lists ++ values ∷ []) ≡ set (stored ix lists) n values
seen-new ix lists capacity n values s l e =
    map-set (λ i. get_or (lists ++ values ∷ []) i []) ix n (length lists)
    ∙ ap (λ us. set (map (λ i. get_or (lists ++ values ∷ []) i []) ix) n us) (get_or_push lists values [] (length lists) refl)
    ∙ ap (λ xs. set xs n values) (map-same_each (λ i. get_or (lists ++ values ∷ []) i []) (λ i. get_or lists i []) ix
    (λ m lm. get_or_append_left lists (values ∷ []) [] (get_or ix m 0) (s.within m lm)))

-- other values of a place that has some
pub stored-old : (ix : List ℕ) (lists : List (List Value)) (capacity y : ℕ) (values : List Value) → IsStored ix lists capacity → y ≢ 0
    → IsStored ix (set lists y values) capacity
stored-old ix lists capacity y values s ne =
    let len : length (set lists y values) ≡ length lists = length-set lists y values in
    record {
      small = s.small;
      within = λ m l. let p = s.within m l in omega arith;
      blank = get_or-set_other lists y 0 values [] (λ z. ne (sym z)) ∙ s.blank;
      apart = s.apart;
      few = let q = s.few in omega arith;
      room = s.room;
    }

pub seen-old : (ix : List ℕ) (lists : List (List Value)) (capacity n : ℕ) (values : List Value) → IsStored ix lists capacity → n < length ix → get_or ix n 0 ≢ 0
    → stored ix (set lists (get_or ix n 0) values) ≡ set (stored ix lists) n values
seen-old ix lists capacity n values s l ne =
    map-one (λ i. get_or lists i []) (λ i. get_or (set lists (get_or ix n 0) values) i []) ix n values l
    (get_or-set_same lists (get_or ix n 0) values [] (s.within n l))
    (λ m lm other. get_or-set_other lists (get_or ix n 0) (get_or ix m 0) values [] (λ same. other (s.apart m n lm l same ne)))

-- ---- more places

-- the first list is that of no values
abbrev begun : List (List Value) → List (List Value)
begun [] = [] ∷ []
begun (x ∷ xs) = x ∷ xs

begun_some : (lists : List (List Value)) → 0 < length (begun lists)
begun_some [] = omega arith
begun_some (x ∷ xs) = omega arith

begun_kept : (lists : List (List Value)) (i : ℕ) → get_or (begun lists) i [] ≡ get_or lists i []
begun_kept [] zero = refl
begun_kept [] (suc i) = refl
begun_kept (x ∷ xs) i = refl

begun_longer : (lists : List (List Value)) → length lists ≤ length (begun lists)
begun_longer [] = omega arith
begun_longer (x ∷ xs) = omega arith

begun_few : (ix : List ℕ) (lists : List (List Value)) → zeros ix + length lists ≤ length ix + 1 → zeros ix + length (begun lists) ≤ length ix + 1
begun_few ix [] h = let p = count_by-le-length (λ i. i == 0) ix in omega arith
begun_few ix (x ∷ xs) h = h

begun_is : (lists ms : List (List Value)) → (length lists ≡ 0 → ms ≡ [] ∷ []) → (length lists ≢ 0 → ms ≡ lists) → ms ≡ begun lists
begun_is [] ms none some = none refl
begun_is (x ∷ xs) ms none some = some (λ e. absurd (omega arith))

module _ (ix : List ℕ) (lists : List (List Value)) (capacity count : ℕ) (s : IsStored ix lists capacity) where
  abbrev longer : List ℕ
  longer = ix ++ replicate count 0

  length_is : length longer ≡ length ix + count
  length_is = length-append ix (replicate count 0) ∙ ap (λ n. length ix + n) (length-replicate count 0)

  old : (n : ℕ) → n < length ix → get_or longer n 0 ≡ get_or ix n 0
  old n l = get_or_append_left ix (replicate count 0) 0 n l

  new : (n : ℕ) → length ix ≤ n → n < length longer → get_or longer n 0 ≡ 0
  new n b l =
      let q : n ≡ length ix + (n - length ix) = omega arith in
      ap (λ x. get_or longer x 0) q ∙ get_or-append-add ix (replicate count 0) (n - length ix) 0
      ∙ get_or-replicate count (n - length ix) 0 0 (let e = length_is in omega arith)

  -- a number that isn't 0 is an old place's
  was : (n : ℕ) → n < length longer → get_or longer n 0 ≢ 0 → n < length ix
  was n l ne = elim (cases_lt n (length ix)) [
    | inl a ↦ a
    | inr b ↦ absurd (ne (new n b l))
  ]

  stored_longer : (larger : ℕ) → length ix + count < 2 ^ 32 → length ix + count < larger → IsStored longer (begun lists) larger
  stored_longer larger small room = record {
    small = let e = length_is in omega arith;
    within = λ n l. elim (cases_lt n (length ix)) [
      | inl a ↦ subst (λ (z : ℕ). z < length (begun lists)) (sym (old n a)) (let p = s.within n a in let q = begun_longer lists in omega arith)
      | inr b ↦ subst (λ (z : ℕ). z < length (begun lists)) (sym (new n b l)) (begun_some lists)
    ];
    blank = begun_kept lists 0 ∙ s.blank;
    apart = λ m n lm ln same ne.
        let wn : n < length ix = was n ln ne in
        let wm : m < length ix = was m lm (λ z. ne (sym same ∙ z)) in
        s.apart m n wm wn (sym (old m wm) ∙ same ∙ old n wn) (λ z. ne (old n wn ∙ z));
    few = let z = zeros-add ix count in let e = length_is in let q = begun_few ix lists s.few in omega arith;
    room = λ h. let e = length_is in omega arith;
  }

  seen_longer : stored longer (begun lists) ≡ stored ix lists ++ replicate count []
  seen_longer =
      map-append (λ i. get_or (begun lists) i []) ix (replicate count 0)
      ∙ ap (λ xs. xs ++ map (λ i. get_or (begun lists) i []) (replicate count 0)) (map-same_each (λ i. get_or (begun lists) i []) (λ i. get_or lists i []) ix (λ m l.
      begun_kept lists (get_or ix m 0)))
      ∙ ap (λ xs. stored ix lists ++ xs) (map-replicate (λ i. get_or (begun lists) i []) count 0 ∙ ap (λ us. replicate count us) (begun_kept lists 0 ∙ s.blank))

pub stored-add : (ix jx : List ℕ) (lists ms : List (List Value)) (capacity larger count : ℕ) → IsStored ix lists capacity → length ix + count < 2 ^ 32
    → jx ≡ ix ++ replicate count 0 → (length lists ≡ 0 → ms ≡ [] ∷ []) → (length lists ≢ 0 → ms ≡ lists) → length ix + count < larger → IsStored jx ms larger
stored-add ix jx lists ms capacity larger count s small ej none some room =
    subst (λ xs. IsStored xs ms larger) (sym ej) (subst (λ xs. IsStored (ix ++ replicate count 0) xs larger) (sym (begun_is lists ms none some)) (stored_longer ix
    lists capacity count s larger small room))

pub seen-add : (ix jx : List ℕ) (lists ms : List (List Value)) (capacity count : ℕ) → IsStored ix lists capacity → jx ≡ ix ++ replicate count 0 → (length lists ≡ 0
    → ms ≡ [] ∷ []) → (length lists ≢ 0 → ms ≡ lists)
    → stored jx ms ≡ stored ix lists ++ replicate count []
seen-add ix jx lists ms capacity count s ej none some =
    ap (λ xs. stored xs ms) ej ∙ ap (stored (ix ++ replicate count 0)) (begun_is lists ms none some) ∙ seen_longer ix lists capacity count s
