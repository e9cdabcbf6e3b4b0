-- What stands in lists.
use Rattle.std.proofs.Common.{Result, Ok, Err, ◌≡◌, ◌≢◌, ◌<◌, ◌⊎◌, ◌||◌, ◌&&◌, ◌+◌, ℕ, zero, suc, List, [], ◌∷◌, Bool, true, false, refl, sym, ap, ◌∙◌, subst, inl, inr, ⊎_elim, arith, length, map, get_or, drop, replicate, add-one, Some, true≢false}
use Rattle.std.specs.Prelude.{Contains, IfOk, not, slice_get}
use Rattle.std.specs.List.{list_any, list_all}
use Rattle.std.proofs.Math.Seq.{drop-cons}
use Rattle.std.proofs.lemmas.Bool.{cases_order}
use Rattle.std.proofs.lemmas.Option.{slice_get-get_or, slice_get_within, get_or_from_slice_get}
use Rattle.std.proofs.lemmas.List.{get_or-replicate, length-replicate, get_or_past}
use Rattle.std.proofs.lemmas.List.Elements.{Contains-append_left, Contains-append_right, Contains-append_cases, Contains-push, Contains-push_cases}

pub first_in : {X : Type 0} (x y : X) (xs : List X) → x ≡ y → Contains (x ∷ xs) y
first_in x y xs same = Contains-append_left (x ∷ []) xs y (subst (Contains (x ∷ [])) same (Contains-push [] x))

pub later_in : {X : Type 0} (x y : X) (xs : List X) → Contains xs y → Contains (x ∷ xs) y
later_in x y xs among = Contains-append_right (x ∷ []) xs y among

pub nothing_in : {X : Type 0} (x : X) → Contains [] x → ⊥
nothing_in x among = let below : among.0 < 0 = among.1 in absurd (omega arith)

pub in_either : {X : Type 0} (x y : X) (xs : List X) → Contains (x ∷ xs) y → (x ≡ y) ⊎ Contains xs y
in_either x y xs among = ⊎_elim
    (λ (here : Contains (x ∷ []) y). ⊎_elim (λ (none : Contains [] y). absurd (nothing_in y none)) (λ (same : x ≡ y). inl same) (Contains-push_cases [] x y here))
    (λ (there : Contains xs y). inr there)
    (Contains-append_cases (x ∷ []) xs y among)

pub only_in : {X : Type 0} (x y : X) → Contains (x ∷ []) y → x ≡ y
only_in x y among = ⊎_elim (λ (same : x ≡ y). same) (λ (none : Contains [] y). absurd (nothing_in y none)) (in_either x y [] among)

-- ---- tests

pub or_cases : (a b : Bool) → (a || b) ≡ true → (a ≡ true) ⊎ (b ≡ true)
or_cases true b h = inl refl
or_cases false b h = inr h

pub or_first : (a b : Bool) → a ≡ true → (a || b) ≡ true
or_first a b h = ap (λ (c : Bool). c || b) h

pub or_second : (a b : Bool) → b ≡ true → (a || b) ≡ true
or_second true b h = refl
or_second false b h = h

pub and_cases : (a b : Bool) → (a && b) ≡ false → (a ≡ false) ⊎ (b ≡ false)
and_cases true b h = inr h
and_cases false b h = inl refl

pub and_first : (a b : Bool) → (a && b) ≡ true → a ≡ true
and_first true b h = refl
and_first false b h = h

pub and_second : (a b : Bool) → (a && b) ≡ true → b ≡ true
and_second true b h = h
and_second false b h = absurd (cc)

pub and_both : (a b : Bool) → a ≡ true → b ≡ true → (a && b) ≡ true
and_both a b h g = ap (λ (c : Bool). c && b) h ∙ g

pub not_true : (b : Bool) → not b ≡ true → b ≡ false
not_true true h = sym h
not_true false h = refl

pub not_false : (b : Bool) → b ≡ false → not b ≡ true
not_false b h = ap not h

pub false_unless : (b : Bool) → ¬ (b ≡ true) → b ≡ false
false_unless true h = absurd (h refl)
false_unless false h = refl

pub never_both : (b : Bool) → b ≡ true → b ≡ false → ⊥
never_both b h g = true≢false (sym h ∙ g)

pub any_there : {X : Type 0} (p : X → Bool) (xs : List X) → list_any p xs ≡ true → (x : X) × Contains xs x × (p x ≡ true)
any_there p [] h = absurd (cc)
any_there p (x ∷ xs) h = elim (or_cases (p x) (list_any p xs) h) [
  | inl here ↦ (x, first_in x x xs refl, here)
  | inr there ↦ (let r = any_there p xs there in (r.0, later_in x r.0 xs r.1, r.2))
]

pub any_here : {X : Type 0} (p : X → Bool) (xs : List X) (x : X) → Contains xs x → p x ≡ true → list_any p xs ≡ true
any_here p [] x among is = absurd (nothing_in x among)
any_here p (y ∷ ys) x among is = elim (in_either y x ys among) [
  | inl same ↦ or_first (p y) (list_any p ys) (ap p same ∙ is)
  | inr there ↦ or_second (p y) (list_any p ys) (any_here p ys x there is)
]

pub all_each : {X : Type 0} (p : X → Bool) (xs : List X) → list_all p xs ≡ true → (x : X) → Contains xs x → p x ≡ true
all_each p [] h x among = absurd (nothing_in x among)
all_each p (y ∷ ys) h x among = elim (in_either y x ys among) [
  | inl same ↦ sym (ap p same) ∙ and_first (p y) (list_all p ys) h
  | inr there ↦ all_each p ys (and_second (p y) (list_all p ys) h) x there
]

pub all_from : {X : Type 0} (p : X → Bool) (xs : List X) → ((x : X) → Contains xs x → p x ≡ true) → list_all p xs ≡ true
all_from p [] h = refl
all_from p (y ∷ ys) h = and_both (p y) (list_all p ys) (h y (first_in y y ys refl)) (all_from p ys (λ x among. h x (later_in y x ys among)))

pub all_fails : {X : Type 0} (p : X → Bool) (xs : List X) → list_all p xs ≡ false → (x : X) × Contains xs x × (p x ≡ false)
all_fails p [] h = absurd (cc)
all_fails p (y ∷ ys) h = elim (and_cases (p y) (list_all p ys) h) [
  | inl here ↦ (y, first_in y y ys refl, here)
  | inr there ↦ (let r = all_fails p ys there in (r.0, later_in y r.0 ys r.1, r.2))
]

-- ---- places

pub same_or_not : (m n : ℕ) → (m ≡ n) ⊎ (m ≢ n)
same_or_not m n = ⊎_elim (λ e. inl e) (λ h. inr (λ e. ⊎_elim (λ l. omega arith) (λ l. omega arith) h)) (cases_order m n)

pub within_some : {X : Type 0} (xs : List X) (k : ℕ) → k < length xs → (x : X) × (slice_get xs k ≡ Some x)
within_some [] k below = absurd (omega (arith, below))
within_some (x ∷ xs) zero below = (x, refl)
within_some (x ∷ xs) (suc k) below = within_some xs k (omega (arith, below))

pub among_some : {X : Type 0} (xs : List X) (x : X) → Contains xs x → (k : ℕ) × (slice_get xs k ≡ Some x)
among_some xs x (k, below, at) = (k, slice_get-get_or xs k x below ∙ ap Some at)

pub some_among : {X : Type 0} (xs : List X) (k : ℕ) (x : X) → slice_get xs k ≡ Some x → Contains xs x
some_among xs k x found = (k, slice_get_within xs k x found, get_or_from_slice_get xs k x x found)

pub place_found : {X : Type 0} (xs ys : List X) (k : ℕ) (x : X) → xs ≡ ys → k < length xs → x ≡ get_or xs k x → slice_get ys k ≡ Some x
place_found xs ys k x same below is = subst (λ zs. slice_get zs k ≡ Some x) same (slice_get-get_or xs k x below ∙ ap Some (sym is))

pub at_place : {X : Type 0} (xs : List X) (k : ℕ) (d : X) → k < length xs → Contains xs (get_or xs k d)
at_place xs k d below = some_among xs k (get_or xs k d) (slice_get-get_or xs k d below)

-- the items from a place on
pub drop_here : {X : Type 0} (xs : List X) (k : ℕ) (x : X) → k < length xs → x ≡ get_or xs k x → drop k xs ≡ x ∷ drop (k + 1) xs
drop_here xs k x below is = drop-cons xs k x below ∙ ap (λ y. y ∷ drop (suc k) xs) (sym is) ∙ ap (λ (n : ℕ). x ∷ drop n xs) (sym (add-one k))

-- a loop over a list stops where a test fails, and goes on where it doesn't
pub all_stops : {X : Type 0} (p : X → Bool) (xs : List X) (k : ℕ) (d : X) → k < length xs → p (get_or xs k d) ≡ false → list_all p (drop k xs) ≡ list_all p xs → false ≡ list_all p xs
all_stops p xs k d below h kept = sym (ap (list_all p) (drop-cons xs k d below) ∙ ap (λ (b : Bool). b && list_all p (drop (suc k) xs)) h) ∙ kept

pub all_goes_on : {X : Type 0} (p : X → Bool) (xs : List X) (k : ℕ) (d : X) → k < length xs → p (get_or xs k d) ≡ true → list_all p (drop k xs) ≡ list_all p xs
    → list_all p (drop (k + 1) xs) ≡ list_all p xs
all_goes_on p xs k d below h kept = ap (λ (n : ℕ). list_all p (drop n xs)) (add-one k) ∙ sym (ap (list_all p) (drop-cons xs k d below) ∙ ap (λ (b : Bool). b && list_all p (drop (suc k) xs)) h) ∙ kept

-- what is everywhere in a list is so past its end too
pub everywhere : {X : Type 0} (count n : ℕ) (d : X) → get_or (replicate count d) n d ≡ d
everywhere count n d = ⊎_elim
    (λ same. get_or_past (replicate count d) n d (omega (arith, length-replicate count d)))
    (λ apart. ⊎_elim (λ less. get_or-replicate count n d d less) (λ more. get_or_past (replicate count d) n d (omega (arith, length-replicate count d))) apart)
    (cases_order n count)

-- ---- what a function makes of a list

pub mapped_in : {X Y : Type 0} (f : X → Y) (xs : List X) (x : X) → Contains xs x → Contains (map f xs) (f x)
mapped_in f [] x among = absurd (nothing_in x among)
mapped_in f (y ∷ ys) x among = elim (in_either y x ys among) [
  | inl same ↦ first_in (f y) (f x) (map f ys) (ap f same)
  | inr there ↦ later_in (f y) (f x) (map f ys) (mapped_in f ys x there)
]

pub mapped_from : {X Y : Type 0} (f : X → Y) (xs : List X) (y : Y) → Contains (map f xs) y → (x : X) × Contains xs x × (f x ≡ y)
mapped_from f [] y among = absurd (nothing_in y among)
mapped_from f (x ∷ xs) y among = elim (in_either (f x) y (map f xs) among) [
  | inl same ↦ (x, first_in x x xs refl, same)
  | inr there ↦ (let r = mapped_from f xs y there in (r.0, later_in x r.0 xs r.1, r.2))
]

-- ---- what a call gives

pub if_ok : {X E : Type 0} (r : Result X E) (P Q : X → Type 0) → ((x : X) → P x → Q x) → IfOk r P → IfOk r Q
if_ok (Ok x) P Q on h = on x h
if_ok (Err e) P Q on h = tt
