-- Names each once.
use Rattle.std.proofs.Common.{◌≡◌, ℕ, ◌+◌, List, [], ◌∷◌, ◌++◌, Bool, true, false, cond, ◌||◌, ◌&&◌, not, refl, sym, ◌∙◌, ap, subst, length, get_or, take, drop, append_assoc, append-nil, true≢false}
use Rattle.std.specs.Prelude.{Contains, All, filter, Some, slice_get}
use Rattle.std.specs.List.{AllByRecursion, IsDistinct}
use Rattle.std.specs.Set.{is_member}
use Rattle.std.specs.Cmp.Lexicographic.{nat_list_eq_equiv}
use Rattle.std.proofs.lemmas.List.Folds.{list_any-append}
use Rattle.std.proofs.lemmas.List.Elements.{Contains-get_or, All-contains, Contains-push}
use Rattle.std.proofs.lemmas.Option.{slice_get_within, get_or_from_slice_get}
use Rattle.std.proofs.lemmas.List.{take-append-drop, drop_more}
use Rattle.std.proofs.Math.Seq.{take-append_seam}
use Rattle.std.proofs.lemmas.Map.Keys.{IsDistinct-cons, IsDistinct-head, IsDistinct-tail}
use Rattle.std.proofs.lemmas.Map.Made.{length-from_same_keys}
use Rattle.mof_metamodel.specs.Characters.{same_name}
use Rattle.script_scopes.specs.ScriptNames.{new_names, each_once, IsFirstLacking}
use Rattle.script_scopes.specs.NameSearches.{IsFirstOther}
use Rattle.script_scopes.proofs.NameLemmas.{same_is, has_name, name_had, lacks_name}

abbrev front : List (List ℕ) → List ℕ → List (List ℕ)
front before x = cond (is_member same_name before x) [] (x ∷ [])

-- ---- names behind names

pub new_names-append : (before xs ys : List (List ℕ)) → new_names before (xs ++ ys) ≡ new_names before xs ++ new_names (before ++ xs) ys
new_names-append before [] ys = ap (λ b. new_names b ys) (sym (append-nil before))
new_names-append before (x ∷ xs) ys =
    ap (λ ns. front before x ++ ns) (new_names-append (before ++ x ∷ []) xs ys ∙ ap (λ b. new_names (before ++ x ∷ []) xs ++ new_names b ys) (append_assoc before (x ∷ []) xs))
    ∙ sym (append_assoc (front before x) (new_names (before ++ x ∷ []) xs) (new_names (before ++ (x ∷ xs)) ys))

-- what stands in front is the name, if it is new
front_member : (x q : List ℕ) (b : Bool) → is_member same_name (cond b [] (x ∷ [])) q ≡ (not b && same_name q x)
front_member x q true = refl
front_member x q false = or_none (same_name q x)
  where
    or_none : (s : Bool) → (s || false) ≡ (true && s)
    or_none true = refl
    or_none false = refl

-- a name is met, or is the next one, or comes later; where it is the next one, that one was met as it was
table : (next met same later : Bool) → (same ≡ true → next ≡ met) → ((not next && same) || (not (met || (same || false)) && later)) ≡ (not met && (same || later))
table true true true later h = refl
table false false true later h = refl
table true false true later h = absurd (true≢false (h refl))
table false true true later h = absurd (true≢false (sym (h refl)))
table true true false later h = refl
table true false false later h = refl
table false true false later h = refl
table false false false later h = refl

-- what is among the new names
pub member_new : (before xs : List (List ℕ)) (q : List ℕ) → is_member same_name (new_names before xs) q ≡ (not (is_member same_name before q) && is_member same_name xs q)
member_new before [] q = none (is_member same_name before q)
  where
    none : (b : Bool) → false ≡ (not b && false)
    none true = refl
    none false = refl
member_new before (x ∷ xs) q =
    list_any-append (same_name q) (front before x) (new_names (before ++ x ∷ []) xs)
    ∙ ap (λ f. f || is_member same_name (new_names (before ++ x ∷ []) xs) q) (front_member x q (is_member same_name before x))
    ∙ ap (λ r. (not (is_member same_name before x) && same_name q x) || r) (member_new (before ++ x ∷ []) xs q
    ∙ ap (λ m. not m && is_member same_name xs q) (list_any-append (same_name q) before (x ∷ [])))
    ∙ table (is_member same_name before x) (is_member same_name before q) (same_name q x) (is_member same_name xs q)
    (λ s. ap (is_member same_name before) (sym (same_is q x s)))

-- and among names each once
pub member_once : (xs : List (List ℕ)) (q : List ℕ) → is_member same_name (each_once xs) q ≡ is_member same_name xs q
member_once xs q = member_new [] xs q

-- ---- no name stands twice

none_same : (x : List ℕ) (ys : List (List ℕ)) → is_member same_name ys x ≡ false → AllByRecursion (λ y. same_name x y ≡ false) ys
none_same x [] h = tt
none_same x (y ∷ ys) h = by (none_same x ys) (same_name x y) refl
  where
    by : (is_member same_name ys x ≡ false → AllByRecursion (λ y. same_name x y ≡ false) ys) → (b : Bool) → same_name x y ≡ b → AllByRecursion (λ y. same_name x y ≡ false) (y ∷ ys)
    by rest true e = absurd (true≢false (sym (ap (λ c. c || is_member same_name ys x) e) ∙ h))
    by rest false e = (e, rest (sym (ap (λ c. c || is_member same_name ys x) e) ∙ h))

pub new_names-distinct : (before xs : List (List ℕ)) → IsDistinct same_name (new_names before xs)
unfolding IsDistinct
new_names-distinct before [] = tt
new_names-distinct before (x ∷ xs) = by (new_names-distinct (before ++ x ∷ []) xs) (is_member same_name before x)
  where
    new : is_member same_name (new_names (before ++ x ∷ []) xs) x ≡ false
    new = member_new (before ++ x ∷ []) xs x
        ∙ ap (λ m. not m && is_member same_name xs x) (name_had (before ++ x ∷ []) x (Contains-push before x))

    by : IsDistinct same_name (new_names (before ++ x ∷ []) xs) → (b : Bool) → IsDistinct same_name (cond b [] (x ∷ []) ++ new_names (before ++ x ∷ []) xs)
    by rest true = rest
    by rest false = IsDistinct-cons same_name x (new_names (before ++ x ∷ []) xs) (none_same x (new_names (before ++ x ∷ []) xs) new) rest

filter_same : (p : List ℕ → Bool) (x : List ℕ) (ys : List (List ℕ)) → AllByRecursion (λ y. same_name x y ≡ false) ys → AllByRecursion (λ y. same_name x y ≡ false) (filter p ys)
filter_same p x [] h = tt
filter_same p x (y ∷ ys) h = by (filter_same p x ys h.1) (p y)
  where
    by : AllByRecursion (λ y. same_name x y ≡ false) (filter p ys) → (b : Bool) → AllByRecursion (λ y. same_name x y ≡ false) (cond b (y ∷ filter p ys) (filter p ys))
    by rest true = (h.0, rest)
    by rest false = rest

filter-distinct : (p : List ℕ → Bool) (xs : List (List ℕ)) → IsDistinct same_name xs → IsDistinct same_name (filter p xs)
unfolding IsDistinct
filter-distinct p [] h = tt
filter-distinct p (x ∷ xs) h = by (filter-distinct p xs (IsDistinct-tail same_name x xs h)) (p x)
  where
    by : IsDistinct same_name (filter p xs) → (b : Bool) → IsDistinct same_name (cond b (x ∷ filter p xs) (filter p xs))
    by rest true = IsDistinct-cons same_name x (filter p xs) (filter_same p x xs (IsDistinct-head same_name x xs h)) rest
    by rest false = rest

kept_table : (passes same wanted later : Bool) → (same ≡ true → passes ≡ wanted) → (cond passes (same || (wanted && later)) (wanted && later)) ≡ (wanted && (same || later))
kept_table true true true later h = refl
kept_table true true false later h = absurd (true≢false (h refl))
kept_table false true true later h = absurd (true≢false (sym (h refl)))
kept_table false true false later h = refl
kept_table true false wanted later h = refl
kept_table false false wanted later h = refl

-- what is among the names that pass a test
member_filter : (p : List ℕ → Bool) (xs : List (List ℕ)) (q : List ℕ) → is_member same_name (filter p xs) q ≡ (p q && is_member same_name xs q)
member_filter p [] q = none (p q)
  where
    none : (b : Bool) → false ≡ (b && false)
    none true = refl
    none false = refl
member_filter p (x ∷ xs) q = shown (member_filter p xs q) (p x) ∙ kept_table (p x) (same_name q x) (p q) (is_member same_name xs q) (λ s. ap p (sym (same_is q x s)))
  where
    shown : is_member same_name (filter p xs) q ≡ (p q && is_member same_name xs q) → (b : Bool) → is_member same_name (cond b (x ∷ filter p xs) (filter p xs)) q ≡ cond b (same_name q x || (p q && is_member same_name xs q)) (p q && is_member same_name xs q)
    shown rest true = ap (λ r. same_name q x || r) rest
    shown rest false = rest

-- the names each once are among those that all are among
pub all_given : (written names : List (List ℕ)) → All (λ n. is_member same_name names n ≡ true) written → All (Contains names) (each_once written)
all_given written names h = λ k d l.
    let n : List ℕ = get_or (each_once written) k d in
    let m : is_member same_name written n ≡ true = sym (member_once written n) ∙ name_had (each_once written) n (Contains-get_or (each_once written) k d l) in
    has_name names n (All-contains (λ n. is_member same_name names n ≡ true) written n h (has_name written n m))

-- ---- the place of a name among names each once

-- names that are all among others are as many as those of the others, each once, that are among them
pub count_among : (xs names : List (List ℕ)) → All (λ n. is_member same_name names n ≡ true) xs
    → length (each_once xs) ≡ length (filter (is_member same_name xs) (each_once names))
count_among xs names all = length-from_same_keys nat_list_eq_equiv (each_once xs) (filter (is_member same_name xs) (each_once names)) (new_names-distinct [] xs)
    (filter-distinct (is_member same_name xs) (each_once names) (new_names-distinct [] names))
    (λ q. member_once xs q ∙ by q (is_member same_name xs q) refl ∙ ap (λ m. is_member same_name xs q && m) (sym (member_once names q)) ∙ sym (member_filter (is_member same_name xs) (each_once names) q))
  where
    by : (q : List ℕ) (b : Bool) → is_member same_name xs q ≡ b → is_member same_name xs q ≡ (is_member same_name xs q && is_member same_name names q)
    by q true e = e ∙ sym (ap (λ b. b && is_member same_name names q) e ∙ All-contains (λ n. is_member same_name names n ≡ true) xs q all (has_name xs q e))
    by q false e = e ∙ sym (ap (λ b. b && is_member same_name names q) e)

pub get_at : {X : Type 0} (xs : List X) (x : X) (ys : List X) → slice_get (xs ++ x ∷ ys) (length xs) ≡ Some x
get_at [] x ys = refl
get_at (w ∷ xs) x ys = get_at xs x ys

split_at : (xs : List (List ℕ)) (k : ℕ) (x : List ℕ) → slice_get xs k ≡ Some x → xs ≡ take k xs ++ x ∷ drop (k + 1) xs
split_at xs k x e =
    sym (take-append-drop k xs) ∙ ap (λ ys. take k xs ++ ys) (drop_more xs k x (slice_get_within xs k x e) ∙ ap (λ y. y ∷ drop (k + 1) xs) (get_or_from_slice_get xs k x x e))

module _ (written names : List (List ℕ)) (k : ℕ) (h : IsFirstOther (is_member same_name names) written k) where
  abbrev front_names : List (List ℕ)
  front_names = take k written

  is_new : is_member same_name front_names h.name ≡ false
  is_new = by (is_member same_name front_names h.name) refl
    where
      by : (b : Bool) → is_member same_name front_names h.name ≡ b → is_member same_name front_names h.name ≡ false
      by true e = absurd (true≢false (sym (All-contains (λ n. is_member same_name names n ≡ true) front_names h.name h.before (has_name front_names h.name e)) ∙ h.other))
      by false e = e

  once_split : each_once written ≡ each_once front_names ++ h.name ∷ new_names (front_names ++ h.name ∷ []) (drop (k + 1) written)
  once_split =
      ap each_once (split_at written k h.name h.found) ∙ new_names-append [] front_names (h.name ∷ drop (k + 1) written)
      ∙ ap (λ b. each_once front_names ++ (cond b [] (h.name ∷ []) ++ new_names (front_names ++ h.name ∷ []) (drop (k + 1) written))) is_new

  here : length (each_once front_names) ≡ length (filter (is_member same_name front_names) (each_once names))
  here = count_among front_names names h.before

  -- The first of the written names that isn't given is, among the written names each once, at the place that counts the given ones before it.
  pub first_missing_place : IsFirstLacking names (each_once written) (length (filter (is_member same_name (take k written)) (each_once names)))
  first_missing_place = record {
    name = h.name;
    found = subst (λ n. slice_get (each_once written) n ≡ Some h.name) here
        (ap (λ ns. slice_get ns (length (each_once front_names))) once_split ∙ get_at (each_once front_names) h.name (new_names (front_names ++ h.name ∷ []) (drop (k + 1) written)));
    lacking = lacks_name names h.name h.other;
    before = subst (λ n. All (Contains names) (take n (each_once written))) here
        (subst (All (Contains names)) (sym (ap (take (length (each_once front_names))) once_split ∙ take-append_seam (each_once front_names) (h.name ∷ new_names (front_names ++ h.name ∷ []) (drop (k + 1) written))))
        (all_given front_names names h.before));
  }
