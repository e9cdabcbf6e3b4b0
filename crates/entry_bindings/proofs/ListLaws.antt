-- What filtered and joined lists contain, and lists with the same elements at each place.
use Rattle.std.specs.Prelude.{◌≡◌, ◌⊎◌, ◌<◌, ℕ, zero, suc, Bool, true, false, List, [], ◌∷◌, map, length, Option, None, Some, slice_get, slice_index_or, Contains}
use Rattle.std.specs.List.{filter, filter_map, cons_option, flat_map}
use Rattle.std.proofs.Common.{refl, sym, ap, subst, ◌∙◌, inl, inr, arith, cond}
use Rattle.std.proofs.lemmas.List.Elements.{Contains-append_cases, Contains-append_left, Contains-append_right}
use Rattle.mof_metamodel.proofs.Facts.{nothing_in, contains_first}
use Rattle.template_match.proofs.ListLaws.{contains_later}

pub parts_of : {X : Type 0} (P : X → Type 0) (y : X) (ys : List X) → P y → ((x : X) → Contains ys x → P x) → (x : X) → Contains (y ∷ ys) x → P x
parts_of P y ys one all x (zero, less, is) = subst P is one
parts_of P y ys one all x (suc k, less, is) = all x (k, omega (arith, less), is)

pub filtered_from : {X : Type 0} (p : X → Bool) (xs : List X) (x : X) → Contains (filter p xs) x → Contains xs x × (p x ≡ true)
filtered_from p [] x there = absurd (nothing_in x there)
filtered_from {X} p (y ∷ ys) x there = by (p y) refl (filtered_from p ys) there
  where
    by : (b : Bool) → p y ≡ b → ((z : X) → Contains (filter p ys) z → Contains ys z × (p z ≡ true)) → Contains (cond b (y ∷ filter p ys) (filter p ys)) x
        → Contains (y ∷ ys) x × (p x ≡ true)
    by true is rest h = parts_of (λ z. Contains (y ∷ ys) z × (p z ≡ true)) y (filter p ys) (contains_first y ys, is)
        (λ z c. let both = rest z c in (contains_later z y ys both.0, both.1)) x h
    by false is rest h = let both = rest x h in (contains_later x y ys both.0, both.1)

pub filtered_in : {X : Type 0} (p : X → Bool) (xs : List X) (x : X) → Contains xs x → p x ≡ true → Contains (filter p xs) x
filtered_in p [] x there is = absurd (nothing_in x there)
filtered_in p (y ∷ ys) x (zero, less, same) is = subst (λ b. Contains (cond b (y ∷ filter p ys) (filter p ys)) x) (sym (ap p same ∙ is)) (subst (λ z. Contains (y ∷ filter p ys) z) same (contains_first y (filter p ys)))
filtered_in p (y ∷ ys) x (suc k, less, same) is = by (p y) (filtered_in p ys x (k, omega (arith, less), same) is)
  where
    by : (b : Bool) → Contains (filter p ys) x → Contains (cond b (y ∷ filter p ys) (filter p ys)) x
    by true h = contains_later x y (filter p ys) h
    by false h = h

pub picked_from : {X Y : Type 0} (f : X → Option Y) (xs : List X) (y : Y) → Contains (filter_map f xs) y → (x : X) × Contains xs x × (f x ≡ Some y)
picked_from f [] y there = absurd (nothing_in y there)
picked_from {X} {Y} f (x ∷ xs) y there = by (f x) refl (λ z h. let (w, c, is) = picked_from f xs z h in (w, contains_later w x xs c, is)) there
  where
    by : (o : Option Y) → f x ≡ o → ((z : Y) → Contains (filter_map f xs) z → (w : X) × Contains (x ∷ xs) w × (f w ≡ Some z)) → Contains (cons_option o (filter_map f xs)) y
        → (w : X) × Contains (x ∷ xs) w × (f w ≡ Some y)
    by None is later h = later y h
    by (Some z) is later h = parts_of (λ u. (w : X) × Contains (x ∷ xs) w × (f w ≡ Some u)) z (filter_map f xs) (x, contains_first x xs, is) later y h

pub picked_in : {X Y : Type 0} (f : X → Option Y) (xs : List X) (x : X) (y : Y) → Contains xs x → f x ≡ Some y → Contains (filter_map f xs) y
picked_in f [] x y there is = absurd (nothing_in x there)
picked_in f (z ∷ zs) x y (zero, less, same) is = subst (λ o. Contains (cons_option o (filter_map f zs)) y) (sym (ap f same ∙ is)) (contains_first y (filter_map f zs))
picked_in {X} {Y} f (z ∷ zs) x y (suc k, less, same) is = by (f z) (picked_in f zs x y (k, omega (arith, less), same) is)
  where
    by : (o : Option Y) → Contains (filter_map f zs) y → Contains (cons_option o (filter_map f zs)) y
    by None h = h
    by (Some w) h = contains_later y w (filter_map f zs) h

pub joined_from : {X Y : Type 0} (f : X → List Y) (xs : List X) (y : Y) → Contains (flat_map f xs) y → (x : X) × Contains xs x × Contains (f x) y
joined_from f [] y there = absurd (nothing_in y there)
joined_from {X} {Y} f (x ∷ xs) y there = by (λ h. let (w, c, is) = joined_from f xs y h in (w, contains_later w x xs c, is)) (Contains-append_cases (f x) (flat_map f xs) y there)
  where
    by : (Contains (flat_map f xs) y → (w : X) × Contains (x ∷ xs) w × Contains (f w) y) → Contains (f x) y ⊎ Contains (flat_map f xs) y → (w : X) × Contains (x ∷ xs) w × Contains (f w) y
    by later (inl h) = (x, contains_first x xs, h)
    by later (inr h) = later h

pub joined_in : {X Y : Type 0} (f : X → List Y) (xs : List X) (x : X) (y : Y) → Contains xs x → Contains (f x) y → Contains (flat_map f xs) y
joined_in f [] x y there within = absurd (nothing_in x there)
joined_in f (z ∷ zs) x y (zero, less, is) within = Contains-append_left (f z) (flat_map f zs) y (subst (λ w. Contains (f w) y) (sym is) within)
joined_in f (z ∷ zs) x y (suc k, less, is) within = Contains-append_right (f z) (flat_map f zs) y (joined_in f zs x y (k, omega (arith, less), is) within)

pub mapped_from : {X Y : Type 0} (f : X → Y) (xs : List X) (y : Y) → Contains (map f xs) y → (x : X) × Contains xs x × (f x ≡ y)
mapped_from f [] y there = absurd (nothing_in y there)
mapped_from f (x ∷ xs) y (zero, less, is) = (x, contains_first x xs, is)
mapped_from f (x ∷ xs) y (suc k, less, is) = let (w, c, same) = mapped_from f xs y (k, omega (arith, less), is) in (w, contains_later w x xs c, same)

pub there_is : {X : Type 0} (xs : List X) (x : X) → Contains xs x → (k : ℕ) × (slice_get xs k ≡ Some x)
there_is [] x there = absurd (nothing_in x there)
there_is (y ∷ ys) x (zero, less, is) = (zero, ap (λ z. Some z) is)
there_is (y ∷ ys) x (suc k, less, is) = let (j, at) = there_is ys x (k, omega (arith, less), is) in (suc j, at)

-- lists of optional elements that are as long and have the same at each place
pub same_lists : {X : Type 0} (a b : List (Option X)) → length a ≡ length b → ((v : ℕ) → slice_index_or a v None ≡ slice_index_or b v None) → a ≡ b
same_lists [] [] long same = refl
same_lists [] (y ∷ b) long same = absurd (omega (arith, long))
same_lists (x ∷ a) [] long same = absurd (omega (arith, long))
same_lists (x ∷ a) (y ∷ b) long same = ap (λ z. z ∷ a) (same zero) ∙ ap (λ zs. y ∷ zs) (same_lists a b (omega (arith, long)) (λ v. same (suc v)))

pub below : {X : Type 0} (xs : List X) (k : ℕ) (x : X) → slice_get xs k ≡ Some x → k < length xs
below [] k x at = absurd (cc)
below (y ∷ ys) zero x at = omega arith
below (y ∷ ys) (suc k) x at = let less = below ys k x at in omega (arith, less)
