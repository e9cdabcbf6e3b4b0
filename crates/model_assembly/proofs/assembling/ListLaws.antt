-- Lists by their heads and by places: what stands in them, what a filter keeps and what a map gives.
use Rattle.std.proofs.Common.{◌≡◌, ℕ, zero, suc, ◌<◌, ◌≤◌, ◌⊎◌, Bool, true, false, cond, List, [], ◌∷◌, length, take, map, get_or, refl, sym, ◌∙◌, ap, arith, Some, None, inl, inr, true≢false}
use Rattle.std.specs.Prelude.{slice_get, Contains}
use Rattle.std.specs.List.{filter, list_any}
use Rattle.std.proofs.lemmas.Bool.{cond-true, cond-false, or_cases, or_left, or_right}
use Rattle.std.proofs.lemmas.List.Elements.{Contains-append_right, Contains-append_cases}
use Rattle.object_tables.proofs.ListLemmas.{Contains-cons}
use Rattle.std.proofs.lemmas.Option.{none-some, same_Some}
use Rattle.mof_metamodel.proofs.Facts.{contains_at, only_one}

-- what stands behind the head
pub in_cons : {X : Type 0} (x : X) (xs : List X) (y : X) → Contains (x ∷ xs) y → (x ≡ y) ⊎ Contains xs y
in_cons x xs y c = by (Contains-append_cases (x ∷ []) xs y c)
  where
    by : Contains (x ∷ []) y ⊎ Contains xs y → (x ≡ y) ⊎ Contains xs y
    by (inl h) = inl (only_one x y h)
    by (inr h) = inr h

pub in_tail : {X : Type 0} (x : X) (xs : List X) (y : X) → Contains xs y → Contains (x ∷ xs) y
in_tail x xs y c = Contains-append_right (x ∷ []) xs y c

pub contains_tail : {X : Type 0} (x y : X) (xs : List X) → Contains xs y → Contains (x ∷ xs) y
contains_tail x y xs c = let (k, l, e) = c in (suc k, omega arith, e)

-- what stands at a place
pub get_within : {X : Type 0} (xs : List X) (i : ℕ) (x : X) → slice_get xs i ≡ Some x → i < length xs
get_within [] i x e = absurd (none-some x e)
get_within (y ∷ ys) zero x e = omega arith
get_within (y ∷ ys) (suc i) x e = let l = get_within ys i x e in omega (arith, l)

pub get_is : {X : Type 0} (xs : List X) (i : ℕ) (x d : X) → slice_get xs i ≡ Some x → get_or xs i d ≡ x
get_is [] i x d e = absurd (none-some x e)
get_is (y ∷ ys) zero x d e = same_Some y x e
get_is (y ∷ ys) (suc i) x d e = get_is ys i x d e

pub get_some : {X : Type 0} (xs : List X) (i : ℕ) (d : X) → i < length xs → slice_get xs i ≡ Some (get_or xs i d)
get_some [] i d l = absurd (omega (arith, l))
get_some (y ∷ ys) zero d l = refl
get_some (y ∷ ys) (suc i) d l = get_some ys i d (omega (arith, l))

-- what a filter keeps, and where it stood
pub get_filter : {X : Type 0} (q : X → Bool) (xs : List X) (n : ℕ) (x : X) → slice_get (filter q xs) n ≡ Some x
    → (i : ℕ) × (slice_get xs i ≡ Some x) × (q x ≡ true) × (length (filter q (take i xs)) ≡ n)
get_filter q [] n x e = absurd (none-some x e)
get_filter {X} q (y ∷ ys) n x e = by (q y) refl (λ k. get_filter q ys k x) n e
  where
    by : (b : Bool) → q y ≡ b → ((k : ℕ) → slice_get (filter q ys) k ≡ Some x → (i : ℕ) × (slice_get ys i ≡ Some x) × (q x ≡ true) × (length (filter q (take i ys)) ≡ k))
        → (n : ℕ) → slice_get (cond b (y ∷ filter q ys) (filter q ys)) n ≡ Some x
        → (i : ℕ) × (slice_get (y ∷ ys) i ≡ Some x) × (q x ≡ true) × (length (filter q (take i (y ∷ ys))) ≡ n)
    by true t more zero g = (0, g, sym (ap q (same_Some y x g)) ∙ t, refl)
    by true t more (suc n) g =
        let r = more n g in
        (suc r.0, r.1, r.2, ap length (cond-true (q y) (y ∷ filter q (take r.0 ys)) (filter q (take r.0 ys)) t) ∙ ap suc r.3)
    by false t more n g =
        let r = more n g in
        (suc r.0, r.1, r.2, ap length (cond-false (q y) (y ∷ filter q (take r.0 ys)) (filter q (take r.0 ys)) t) ∙ r.3)

pub filter_get : {X : Type 0} (q : X → Bool) (xs : List X) (i : ℕ) (x : X) → slice_get xs i ≡ Some x → q x ≡ true → slice_get (filter q xs) (length (filter q (take i xs))) ≡ Some x
filter_get q [] i x e t = absurd (none-some x e)
filter_get q (y ∷ ys) zero x e t = ap (λ zs. slice_get zs 0) (cond-true (q y) (y ∷ filter q ys) (filter q ys) (ap q (same_Some y x e) ∙ t)) ∙ e
filter_get q (y ∷ ys) (suc i) x e t = by (q y) refl (filter_get q ys i x e t)
  where
    by : (b : Bool) → q y ≡ b → slice_get (filter q ys) (length (filter q (take i ys))) ≡ Some x → slice_get (filter q (y ∷ ys)) (length (filter q (take (suc i) (y ∷ ys)))) ≡ Some x
    by true u rest =
        (λ j. slice_get (cond-true (q y) (y ∷ filter q ys) (filter q ys) u j) (length (cond-true (q y) (y ∷ filter q (take i ys)) (filter q (take i ys)) u j)))
        ∙ rest
    by false u rest =
        (λ j. slice_get (cond-false (q y) (y ∷ filter q ys) (filter q ys) u j) (length (cond-false (q y) (y ∷ filter q (take i ys)) (filter q (take i ys)) u j)))
        ∙ rest

-- a filter keeps no fewer of more
pub filter_rises : {X : Type 0} (q : X → Bool) (xs : List X) (i j : ℕ) → i ≤ j → length (filter q (take i xs)) ≤ length (filter q (take j xs))
filter_rises q [] i j l = by i j
  where
    by : (i j : ℕ) → length (filter q (take i [])) ≤ length (filter q (take j []))
    by zero zero = omega arith
    by zero (suc j) = omega arith
    by (suc i) zero = omega arith
    by (suc i) (suc j) = omega arith
filter_rises q (y ∷ ys) zero j l = omega arith
filter_rises q (y ∷ ys) (suc i) zero l = absurd (omega (arith, l))
filter_rises q (y ∷ ys) (suc i) (suc j) l = by (q y) (filter_rises q ys i j (omega (arith, l)))
  where
    by : (b : Bool) → length (filter q (take i ys)) ≤ length (filter q (take j ys)) → length (cond b (y ∷ filter q (take i ys)) (filter q (take i ys))) ≤ length (cond b (y ∷ filter q (take j ys)) (filter q (take j ys)))
    by true rest = omega (arith, rest)
    by false rest = rest

-- what a map gives at a place
pub get_map : {X Y : Type 0} (f : X → Y) (xs : List X) (n : ℕ) (y : Y) → slice_get (map f xs) n ≡ Some y → (x : X) × (slice_get xs n ≡ Some x) × (f x ≡ y)
get_map f [] n y e = absurd (none-some y e)
get_map f (x ∷ xs) zero y e = (x, refl, same_Some (f x) y e)
get_map f (x ∷ xs) (suc n) y e = get_map f xs n y e

pub map_get : {X Y : Type 0} (f : X → Y) (xs : List X) (n : ℕ) (x : X) → slice_get xs n ≡ Some x → slice_get (map f xs) n ≡ Some (f x)
map_get f [] n x e = absurd (none-some x e)
map_get f (y ∷ ys) zero x e = ap (λ z. Some (f z)) (same_Some y x e)
map_get f (y ∷ ys) (suc n) x e = map_get f ys n x e

-- what passes is kept, so that there is more behind it
pub filter_over : {X : Type 0} (q : X → Bool) (xs : List X) (i j : ℕ) (x : X) → i < j → slice_get xs i ≡ Some x → q x ≡ true → length (filter q (take i xs)) < length (filter q (take j xs))
filter_over q [] i j x l e t = absurd (none-some x e)
filter_over q (y ∷ ys) i zero x l e t = absurd (omega (arith, l))
filter_over q (y ∷ ys) zero (suc j) x l e t =
    let more : length (cond (q y) (y ∷ filter q (take j ys)) (filter q (take j ys))) ≡ suc (length (filter q (take j ys))) = ap length (cond-true (q y) (y ∷ filter q (take j ys)) (filter q (take j ys)) (ap q (same_Some y x e) ∙ t)) in
    omega (arith, more)
filter_over q (y ∷ ys) (suc i) (suc j) x l e t = by (q y) (filter_over q ys i j x (omega (arith, l)) e t)
  where
    by : (b : Bool) → length (filter q (take i ys)) < length (filter q (take j ys)) → length (cond b (y ∷ filter q (take i ys)) (filter q (take i ys))) < length (cond b (y ∷ filter q (take j ys)) (filter q (take j ys)))
    by true rest = omega (arith, rest)
    by false rest = rest

-- a test that an element passes
pub any_contains : {X : Type 0} (q : X → Bool) (xs : List X) → list_any q xs ≡ true → (x : X) × Contains xs x × (q x ≡ true)
any_contains q [] h = absurd (true≢false (sym h))
any_contains {X} q (y ∷ ys) h = by (or_cases (q y) (list_any q ys) h) (any_contains q ys)
  where
    by : (q y ≡ true) ⊎ (list_any q ys ≡ true) → (list_any q ys ≡ true → (x : X) × Contains ys x × (q x ≡ true)) → (x : X) × Contains (y ∷ ys) x × (q x ≡ true)
    by (inl e) more = (y, (0, omega arith, refl), e)
    by (inr e) more = let c = more e in (c.0, Contains-cons y ys c.0 c.1, c.2)

pub contains_any : {X : Type 0} (q : X → Bool) (xs : List X) (x : X) → Contains xs x → q x ≡ true → list_any q xs ≡ true
contains_any q [] x (k, l, e) t = absurd (omega (arith, l))
contains_any q (y ∷ ys) x (zero, l, e) t = or_left (q y) (list_any q ys) (ap q e ∙ t)
contains_any q (y ∷ ys) x (suc k, l, e) t = or_right (q y) (list_any q ys) (contains_any q ys x (k, omega (arith, l), e) t)
