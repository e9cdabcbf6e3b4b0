-- A walk along superclasses meets the classes that are reached, and no others.
use Rattle.std.proofs.Common.{◌≡◌, ℕ, zero, suc, ◌+◌, ◌<◌, ◌≤◌, List, [], ◌∷◌, ◌++◌, Bool, true, false, cond, refl, sym, ◌∙◌, ap, subst, arith, length, get_or, inl, inr, eqb}
use Rattle.std.specs.Prelude.{◌≢◌, All, Contains, nat_eq, filter}
use Rattle.std.specs.List.{list_any, range_with_len, IsDistinct, AllByRecursion}
use Rattle.std.specs.Cmp.{both_ways}
use Rattle.std.proofs.lemmas.Bool.{ne_eqb, cases_lt}
use Rattle.std.proofs.lemmas.List.{get_or_append_left, get_or-map, length-map, length_push}
use Rattle.std.proofs.lemmas.List.Elements.{filter-append}
use Rattle.std.proofs.lemmas.Map.Steps.{length-le_from_distinct_below}
use Rattle.mof_metamodel.specs.declared.desc.ClassId.{ClassId}
use Rattle.mof_metamodel.specs.declared.desc.MetaDesc.{MetaDesc}
use Rattle.mof_metamodel.specs.Metamodels.{class_count, supers_of, IsPath, Conforms, IsCircular, conforms_within, reached_classes, with_item, united}
use Rattle.mof_metamodel.specs.Tables.{class_numbers, IsClassOf, AreMarks, AreReached, IsReached, IsWalk}
use Rattle.mof_metamodel.proofs.TableLemmas.{range_more}
use Rattle.mof_metamodel.proofs.LineageLemmas.{Has, Has-from_Contains, Contains-from_Has, supers_within, united-keeps, united-right, united-cases}
use Rattle.mof_metamodel.proofs.DistinctLemmas.{IsOnce, once_nil}
use Rattle.mof_metamodel.proofs.OnceLemmas.{united-once}
use Rattle.mof_metamodel.proofs.ReachLemmas.{conforms_through, steps_sound, steps_complete}

-- one number more of a filter
pub filter_step : (p : ℕ → Bool) (n : ℕ) → filter p (range_with_len 0 (n + 1)) ≡ filter p (range_with_len 0 n) ++ cond (p n) (n ∷ []) []
filter_step p n = ap (filter p) (range_more 0 n n (omega arith)) ∙ filter-append p (range_with_len 0 n) (n ∷ [])

filter_below : (p q : ℕ → Bool) (n a : ℕ) → ((d : ℕ) → d < a + n → p d ≡ q d) → filter p (range_with_len a n) ≡ filter q (range_with_len a n)
filter_below p q zero a same = refl
filter_below p q (suc n) a same =
    ap (λ b. cond b (a ∷ filter p (range_with_len (a + 1) n)) (filter p (range_with_len (a + 1) n))) (same a (omega arith))
    ∙ ap (λ xs. cond (q a) (a ∷ xs) xs) (filter_below p q n (a + 1) (λ d l. same d (omega (arith, l))))

-- ---- lists that grow

with_item-at : (xs : List ℕ) (x i d : ℕ) → i < length xs → get_or (with_item xs x) i d ≡ get_or xs i d
with_item-at xs x i d l = by (list_any (nat_eq x) xs)
  where
    by : (b : Bool) → get_or (cond b xs (xs ++ x ∷ [])) i d ≡ get_or xs i d
    by true = refl
    by false = get_or_append_left xs (x ∷ []) d i l

with_item-longer : (xs : List ℕ) (x : ℕ) → length xs ≤ length (with_item xs x)
with_item-longer xs x = by (list_any (nat_eq x) xs)
  where
    by : (b : Bool) → length xs ≤ length (cond b xs (xs ++ x ∷ []))
    by true = omega arith
    by false = omega (arith, length_push xs x)

pub united-longer : (xs ys : List ℕ) → length xs ≤ length (united xs ys)
united-longer xs [] = omega arith
united-longer xs (y ∷ ys) = omega (arith, with_item-longer xs y, united-longer (with_item xs y) ys)

pub united-at : (xs ys : List ℕ) (i d : ℕ) → i < length xs → get_or (united xs ys) i d ≡ get_or xs i d
united-at xs [] i d l = refl
united-at xs (y ∷ ys) i d l = united-at (with_item xs y) ys i d (omega (arith, l, with_item-longer xs y)) ∙ with_item-at xs y i d l

pub distinct_from_once : (xs : List ℕ) → IsOnce xs → IsDistinct eqb xs
unfolding IsDistinct
distinct_from_once [] h = tt
distinct_from_once (x ∷ xs) h = (apart xs (λ k d l. h 0 (suc k) d (omega arith) (omega arith)), distinct_from_once xs (λ i j d l m. h (suc i) (suc j) d (omega arith) (omega arith)))
  where
    apart : (ys : List ℕ) → ((k d : ℕ) → k < length ys → x ≢ get_or ys k d) → AllByRecursion (λ y. eqb x y ≡ false) ys
    apart [] new = tt
    apart (y ∷ ys) new = (ne_eqb x y (new 0 x (omega arith)), apart ys (λ k d l. new (suc k) d (omega arith)))

module _ (desc : MetaDesc) (starts : List ℕ) where
  -- no more classes are met than there are
  pub walk_short : (next : ℕ) (met : List ℕ) → IsWalk desc starts next met → length met ≤ class_count desc
  walk_short next met walk = length-le_from_distinct_below met (class_count desc) (distinct_from_once met walk.once) (λ q h. walk.below q h)

  -- a walk begins with the classes that it starts from
  pub walk_begun : ((q : ℕ) → Has starts q → q < class_count desc) → IsWalk desc starts 0 (united [] starts)
  walk_begun within = record {
    begins = λ q h. united-right [] starts q h;
    once = united-once [] starts once_nil;
    below = λ q h. within q (is_start q h);
    reached = λ q h. (q, Contains-from_Has starts q (is_start q h), ([], refl));
    closed = λ i l m. absurd (omega arith);
  }
    where
      is_start : (q : ℕ) → Has (united [] starts) q → Has starts q
      is_start q h = elim (united-cases [] starts q h) [ inl e ↦ absurd cc | inr e ↦ e ]

  -- the superclasses of one class more
  pub walk_more : (next : ℕ) (met : List ℕ) (c : ℕ) → IsWalk desc starts next met → next < length met → c ≡ get_or met next 0 → IsWalk desc starts (next + 1) (united met (supers_of desc c))
  walk_more next met c walk l is = record {
    begins = λ q h. united-keeps met (supers_of desc c) q (walk.begins q h);
    once = united-once met (supers_of desc c) walk.once;
    below = λ q h. elim (united-cases met (supers_of desc c) q h) [ inl e ↦ walk.below q e | inr e ↦ supers_within desc c q e ];
    reached = λ q h. elim (united-cases met (supers_of desc c) q h) [
      | inl e ↦ walk.reached q e
      | inr e ↦ (let from = walk.reached c there in (from.0, from.1, conforms_through desc from.0 c q from.2 (q ∷ [], (Contains-from_Has (supers_of desc c) q e, refl))))
    ];
    closed = λ i m n q h. elim (cases_lt i next) [
      | inl before ↦ (
          let old : i < length met = omega (arith, before, l) in
          let at : get_or (united met (supers_of desc c)) i 0 ≡ get_or met i 0 = united-at met (supers_of desc c) i 0 old in
          united-keeps met (supers_of desc c) q (walk.closed i before old q (let P : ℕ → Type 0 = λ z. Has (supers_of desc z) q in subst P at h)))
      | inr at ↦ (
          let same : i ≡ next = omega (arith, at, m) in
          let here : get_or (united met (supers_of desc c)) i 0 ≡ c = ap (λ k. get_or (united met (supers_of desc c)) k 0) same ∙ united-at met (supers_of desc c) next 0 l ∙ sym is in
          united-right met (supers_of desc c) q (let P : ℕ → Type 0 = λ z. Has (supers_of desc z) q in subst P here h))
    ];
  }
    where
      there : Has met c
      there = Has-from_Contains met c (next, l, read met next l is)
        where
          read : (xs : List ℕ) (k : ℕ) → k < length xs → c ≡ get_or xs k 0 → get_or xs k c ≡ c
          read [] k m e = absurd (omega (arith, m))
          read (x ∷ xs) zero m e = sym e
          read (x ∷ xs) (suc k) m e = read xs k (omega (arith, m)) e

  -- where each class's superclasses were met, each class is that is reached
  walk_closed : (next : ℕ) (met : List ℕ) → IsWalk desc starts next met → length met ≤ next → (c d : ℕ) (path : List ℕ) → Has met c → IsPath desc c path d → Has met d
  walk_closed next met walk done c d [] h p = let P : ℕ → Type 0 = λ z. Has met z in subst P p h
  walk_closed next met walk done c d (e ∷ path) h p =
      let at = Contains-from_Has met c h in
      let here : get_or met at.0 0 ≡ c = any_default met at.0 c at.1 ∙ at.2 in
      walk_closed next met walk done e d path
      (walk.closed at.0 (let m = at.1 in omega (arith, m, done)) at.1 e (let P : ℕ → Type 0 = λ z. Has (supers_of desc z) e in subst P (sym here) (Has-from_Contains (supers_of desc c) e p.0)))
      p.1
    where
      any_default : (xs : List ℕ) (k x : ℕ) → k < length xs → get_or xs k 0 ≡ get_or xs k x
      any_default [] k x m = absurd (omega (arith, m))
      any_default (y ∷ xs) zero x m = refl
      any_default (y ∷ xs) (suc k) x m = any_default xs k x (omega (arith, m))

  pub walk_done : (next : ℕ) (met : List ℕ) (marks : List Bool) → IsWalk desc starts next met → length met ≤ next → length marks ≡ class_count desc → AreMarks marks met → AreReached desc starts marks
  walk_done next met marks walk done long are = record {
    long = long;
    sound = λ d h. elim (cases_lt d (length marks)) [
      | inl l ↦ walk.reached d (sym (are d l) ∙ h)
      | inr past ↦ absurd (let none = beyond marks d past in cc)
    ];
    complete = λ d from.
        let met_it : Has met d = walk_closed next met walk done from.0 d from.2.0 (walk.begins from.0 (Has-from_Contains starts from.0 from.1)) from.2.1 in
        are d (let b = walk.below d met_it in omega (arith, b, long)) ∙ met_it;
  }
    where
      beyond : (xs : List Bool) (k : ℕ) → length xs ≤ k → get_or xs k false ≡ false
      beyond [] k l = refl
      beyond (x ∷ xs) zero l = absurd (omega (arith, l))
      beyond (x ∷ xs) (suc k) l = beyond xs k (omega (arith, l))

-- ---- from classes

pub starts_within : (desc : MetaDesc) (starts : List ClassId) → All (IsClassOf desc) starts → (q : ℕ) → Has (class_numbers starts) q → q < class_count desc
starts_within desc starts within q h =
    let there = Contains-from_Has (class_numbers starts) q h in
    let long : length (class_numbers starts) ≡ length starts = length-map starts (λ i. i.0) in
    let short : there.0 < length starts = (let l = there.1 in omega (arith, l, long)) in
    let one : ClassId = record { 0 = q } in
    let at : get_or (class_numbers starts) there.0 q ≡ (get_or starts there.0 one).0 = get_or-map (λ i. i.0) starts there.0 one q short in
    let is : (get_or starts there.0 one).0 ≡ q = sym at ∙ there.2 in
    let inside : (get_or starts there.0 one).0 < class_count desc = within there.0 one short in
    omega (arith, is, inside)

-- ---- from one class

only : (c e : ℕ) → Contains (c ∷ []) e → c ≡ e
only c e (zero, l, is) = is
only c e (suc k, l, is) = absurd (omega arith)

pub reached_is : (desc : MetaDesc) (c : ℕ) (marks : List Bool) → c < class_count desc → AreReached desc (c ∷ []) marks
    → filter (λ d. get_or marks d false) (range_with_len 0 (class_count desc)) ≡ reached_classes desc c
reached_is desc c marks l are = filter_below (λ d. get_or marks d false) (conforms_within desc (class_count desc) c) (class_count desc) 0 (λ d m. both_ways _ _
    (λ h. let from = are.sound d h in steps_complete desc c d l (let P : ℕ → Type 0 = λ z. Conforms desc z d in subst P (sym (only c from.0 from.1)) from.2))
    (λ h. are.complete d (c, (0, omega arith, refl), steps_sound desc (class_count desc) c d h)))

-- a class that is reached from its superclasses reaches itself
pub circular_is : (desc : MetaDesc) (c : ℕ) → (IsReached desc (supers_of desc c) c → IsCircular desc c) × (IsCircular desc c → IsReached desc (supers_of desc c) c)
circular_is desc c = (λ h. (h.0, h.2.0, h.1, h.2.1), λ h. (h.0, h.2, (h.1, h.3)))
