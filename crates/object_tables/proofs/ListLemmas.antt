-- Lemmas on one changed element of a list.
use Rattle.std.proofs.Common.{◌≡◌, ◌≢◌, ℕ, ◌+◌, ◌<◌, ◌≤◌, zero, suc, List, [], ◌∷◌, length, get_or, set, map, refl, ap, sym, ◌∙◌, arith, Bool, true, false, cond, filter}
use Rattle.std.specs.Prelude.{count_by, Contains, OnOk, Result, Ok, Err}
use Rattle.std.proofs.lemmas.List.Sums.{sum_by-cons}
use Rattle.object_tables.specs.Lists.{update_at}

pub length-update_at : {X : Type 0} (xs : List X) (n : ℕ) (f : X → X) → length (update_at xs n f) ≡ length xs
length-update_at [] n f = refl
length-update_at (x ∷ xs) zero f = refl
length-update_at (x ∷ xs) (suc n) f = ap suc (length-update_at xs n f)

pub get_or-update_at_same : {X : Type 0} (xs : List X) (n : ℕ) (f : X → X) (d : X) → n < length xs → get_or (update_at xs n f) n d ≡ f (get_or xs n d)
get_or-update_at_same [] n f d l = absurd (omega arith)
get_or-update_at_same (x ∷ xs) zero f d l = refl
get_or-update_at_same (x ∷ xs) (suc n) f d l = get_or-update_at_same xs n f d (omega arith)

pub get_or-update_at_other : {X : Type 0} (xs : List X) (n m : ℕ) (f : X → X) (d : X) → m ≢ n → get_or (update_at xs n f) m d ≡ get_or xs m d
get_or-update_at_other [] n m f d l = refl
get_or-update_at_other (x ∷ xs) zero zero f d l = absurd (l refl)
get_or-update_at_other (x ∷ xs) zero (suc m) f d l = refl
get_or-update_at_other (x ∷ xs) (suc n) zero f d l = refl
get_or-update_at_other (x ∷ xs) (suc n) (suc m) f d l = get_or-update_at_other xs n m f d (λ e. l (ap suc e))

pub update_at_past : {X : Type 0} (xs : List X) (n : ℕ) (f : X → X) → length xs ≤ n → update_at xs n f ≡ xs
update_at_past [] n f l = refl
update_at_past (x ∷ xs) zero f l = absurd (omega arith)
update_at_past (x ∷ xs) (suc n) f l = ap (λ ys. x ∷ ys) (update_at_past xs n f (omega arith))

-- a write of what a function makes of the old element
pub set-update_at : {X : Type 0} (xs : List X) (n : ℕ) (f : X → X) (d : X) → set xs n (f (get_or xs n d)) ≡ update_at xs n f
set-update_at [] n f d = refl
set-update_at (x ∷ xs) zero f d = refl
set-update_at (x ∷ xs) (suc n) f d = ap (λ ys. x ∷ ys) (set-update_at xs n f d)

-- a map over a changed list, where the map turns one change into another
pub map-update_at : {X Y : Type 0} (m : X → Y) (xs : List X) (n : ℕ) (f : X → X) (g : Y → Y) → ((x : X) → m (f x) ≡ g (m x)) → map m (update_at xs n f) ≡ update_at (map m xs) n g
map-update_at m [] n f g h = refl
map-update_at m (x ∷ xs) zero f g h = ap (λ y. y ∷ map m xs) (h x)
map-update_at m (x ∷ xs) (suc n) f g h = ap (λ ys. m x ∷ ys) (map-update_at m xs n f g h)

pub update_at_id : {X : Type 0} (xs : List X) (n : ℕ) (f : X → X) → ((x : X) → f x ≡ x) → update_at xs n f ≡ xs
update_at_id [] n f h = refl
update_at_id (x ∷ xs) zero f h = ap (λ y. y ∷ xs) (h x)
update_at_id (x ∷ xs) (suc n) f h = ap (λ ys. x ∷ ys) (update_at_id xs n f h)

pub Contains-cons : {X : Type 0} (y : X) (xs : List X) (x : X) → Contains xs x → Contains (y ∷ xs) x
Contains-cons y xs x (k, l, e) = (suc k, omega arith, e)

pub Contains-from_map : {X Y : Type 0} (f : X → Y) (xs : List X) (y : Y) → Contains (map f xs) y → (x : X) × Contains xs x × (f x ≡ y)
Contains-from_map f [] y (k, l, e) = absurd (omega arith)
Contains-from_map f (x ∷ xs) y (zero, l, e) = (x, (0, omega arith, refl), e)
Contains-from_map f (x ∷ xs) y (suc k, l, e) =
    let (z, c, g) = Contains-from_map f xs y (k, omega arith, e) in
    (z, Contains-cons x xs z c, g)

pub on_ok : {T E : Type 0} (r : Result T E) {P Q : Type 0} → (P → Q) → OnOk r P → OnOk r Q
on_ok (Ok x) f h = f h
on_ok (Err e) f h = h

pub map-same : {X Y : Type 0} (f g : X → Y) (xs : List X) → ((x : X) → f x ≡ g x) → map f xs ≡ map g xs
map-same f g [] h = refl
map-same f g (x ∷ xs) h = let a : f x ≡ g x = h x in let b : map f xs ≡ map g xs = map-same f g xs h in cc

pub map-same_all : {X Y : Type 0} (f g : X → Y) (xs : List X) → ((x : X) → Contains xs x → f x ≡ g x) → map f xs ≡ map g xs
map-same_all f g [] h = refl
map-same_all f g (x ∷ xs) h =
    let a : f x ≡ g x = h x (0, omega arith, refl) in
    let b : map f xs ≡ map g xs = map-same_all f g xs (λ y c. h y (Contains-cons x xs y c)) in cc

map-cond : {X Y : Type 0} (f : X → Y) (b : Bool) (x : X) (xs : List X) → map f (cond b (x ∷ xs) xs) ≡ cond b (f x ∷ map f xs) (map f xs)
map-cond f true x xs = refl
map-cond f false x xs = refl

-- a filter of a map, where the tests agree at each element
pub filter-map_all : {X Y : Type 0} (f : X → Y) (p : X → Bool) (q : Y → Bool) (xs : List X) → ((x : X) → Contains xs x → q (f x) ≡ p x) → map f (filter p xs) ≡ filter q (map f xs)
filter-map_all f p q [] h = refl
filter-map_all f p q (x ∷ xs) h =
    let rest : map f (filter p xs) ≡ filter q (map f xs) = filter-map_all f p q xs (λ y c. h y (Contains-cons x xs y c)) in
    let here : q (f x) ≡ p x = h x (0, omega arith, refl) in
    map-cond f (p x) x (filter p xs) ∙ ap (λ ys. cond (p x) (f x ∷ ys) ys) rest ∙ ap (λ b. cond b (f x ∷ filter q (map f xs)) (filter q (map f xs))) (sym here)

-- a write of what a function makes of the element that was read
pub set-read : {X : Type 0} (xs : List X) (n : ℕ) (f : X → X) (x : X) → n < length xs → x ≡ get_or xs n x → set xs n (f x) ≡ update_at xs n f
set-read xs n f x l e = ap (λ y. set xs n (f y)) e ∙ set-update_at xs n f x

-- a map over a changed list, where the map turns the change at the element there into another
pub map-update_at_at : {X Y : Type 0} (m : X → Y) (xs : List X) (n : ℕ) (f : X → X) (g : Y → Y) (d : X) → m (f (get_or xs n d)) ≡ g (m (get_or xs n d)) → map m (update_at xs n f) ≡ update_at (map m xs) n g
map-update_at_at m [] n f g d h = refl
map-update_at_at m (x ∷ xs) zero f g d h = ap (λ y. y ∷ map m xs) h
map-update_at_at m (x ∷ xs) (suc n) f g d h = ap (λ ys. m x ∷ ys) (map-update_at_at m xs n f g d h)

-- two changes that agree at the element there
pub update_at_agree : {X : Type 0} (xs : List X) (n : ℕ) (f g : X → X) (d : X) → f (get_or xs n d) ≡ g (get_or xs n d) → update_at xs n f ≡ update_at xs n g
update_at_agree [] n f g d h = refl
update_at_agree (x ∷ xs) zero f g d h = ap (λ y. y ∷ xs) h
update_at_agree (x ∷ xs) (suc n) f g d h = ap (λ ys. x ∷ ys) (update_at_agree xs n f g d h)

pub count_by-update_at : {X : Type 0} (p : X → Bool) (xs : List X) (n : ℕ) (f : X → X) → ((x : X) → p (f x) ≡ p x) → count_by p (update_at xs n f) ≡ count_by p xs
count_by-update_at p [] n f h = refl
count_by-update_at p (x ∷ xs) zero f h =
    sum_by-cons (λ x. cond (p x) 1 0) (f x) xs ∙ ap (λ b. cond b 1 0 + count_by p xs) (h x) ∙ sym (sum_by-cons (λ x. cond (p x) 1 0) x xs)
count_by-update_at p (x ∷ xs) (suc n) f h =
    sum_by-cons (λ x. cond (p x) 1 0) x (update_at xs n f) ∙ ap (λ k. cond (p x) 1 0 + k) (count_by-update_at p xs n f h) ∙ sym (sum_by-cons (λ x. cond (p x) 1 0) x xs)

-- what a filter keeps was there
pub Contains-filter : {X : Type 0} (p : X → Bool) (xs : List X) (x : X) → Contains (filter p xs) x → Contains xs x
Contains-filter p [] x c = c
Contains-filter p (y ∷ ys) x c = by_test (λ d. Contains-filter p ys x d) (p y) c where
  by_test : (Contains (filter p ys) x → Contains ys x) → (b : Bool) → Contains (cond b (y ∷ filter p ys) (filter p ys)) x → Contains (y ∷ ys) x
  by_test rest true (zero, l, e) = (0, omega arith, e)
  by_test rest true (suc k, l, e) = Contains-cons y ys x (rest (k, omega arith, e))
  by_test rest false d = Contains-cons y ys x (rest d)
