-- The files of `check` one after the other.
use Rattle.std.proofs.Common.{◌≡◌, ℕ, suc, zero, ◌+◌, ◌-◌, ◌<◌, Bool, List, [], ◌∷◌, ◌++◌, length, take, drop, map, refl, sym, ◌∙◌, ap, arith, get_or, Some}
use Rattle.std.specs.Prelude.{slice_get}
use Rattle.std.specs.Borrow.{Bor}
use Rattle.std.specs.Option.{option_map}
use Rattle.std.proofs.lemmas.List.{drop_more, take_more, length-map, length-drop, map-append}
use Rattle.std.proofs.lemmas.Option.{slice_get-map, slice_get_within, slice_get-get_or, get_or_from_slice_get}
use Rattle.qvtr_engine.specs.Reading.{nth, parts, name_part, path_part}

-- the item at a place is the first of those that are left, and the last of those so far
pub drop_at : {A : Type 0} (xs : List A) (i : ℕ) (x : A) → slice_get xs i ≡ Some x → drop i xs ≡ x ∷ drop (i + 1) xs
drop_at xs i x e = drop_more xs i x (slice_get_within xs i x e) ∙ ap (λ y. y ∷ drop (i + 1) xs) (get_or_from_slice_get xs i x x e)

pub take_at : {A : Type 0} (xs : List A) (i : ℕ) (x : A) → slice_get xs i ≡ Some x → take (i + 1) xs ≡ take i xs ++ x ∷ []
take_at xs i x e = take_more xs i x (slice_get_within xs i x e) ∙ ap (λ y. take i xs ++ y ∷ []) (get_or_from_slice_get xs i x x e)

pub item_at : {A : Type 0} (xs : List A) (i : ℕ) (x : A) → i < length xs → x ≡ get_or xs i x → slice_get xs i ≡ Some x
item_at xs i x l e = slice_get-get_or xs i x l ∙ ap Some (sym e)

pub mapped_at : {A B : Type 0} (f : A → B) (xs : List A) (i : ℕ) (d : A) → i < length xs → slice_get (map f xs) i ≡ Some (f (get_or xs i d))
mapped_at f xs i d l = slice_get-map f xs i ∙ ap (option_map f) (slice_get-get_or xs i d l)

pub mapped_more : {A B : Type 0} (f : A → B) (xs : List A) (i : ℕ) (x : A) (ys : List B) (y : B) → slice_get xs i ≡ Some x → y ≡ f x
    → ys ≡ map f (take i xs) → ys ++ y ∷ [] ≡ map f (take (i + 1) xs)
mapped_more f xs i x ys y at is h = (λ j. h j ++ is j ∷ []) ∙ sym (ap (map f) (take_at xs i x at) ∙ map-append f (take i xs) (x ∷ []))

-- a test of a list, one item on, and at an item that decides it
pub one_on : {A : Type 0} (test : List A → Bool) (xs : List A) (i : ℕ) (x : A) (whole : Bool) → slice_get xs i ≡ Some x
    → test (x ∷ drop (i + 1) xs) ≡ test (drop (i + 1) xs) → test (drop i xs) ≡ whole → test (drop (i + 1) xs) ≡ whole
one_on test xs i x whole at same h = sym (ap test (drop_at xs i x at) ∙ same) ∙ h

pub decided : {A : Type 0} (test : List A → Bool) (xs : List A) (i : ℕ) (x : A) (answer whole : Bool) → slice_get xs i ≡ Some x
    → test (x ∷ drop (i + 1) xs) ≡ answer → test (drop i xs) ≡ whole → answer ≡ whole
decided test xs i x answer whole at is h = sym (ap test (drop_at xs i x at) ∙ is) ∙ h

-- texts that are borrowed
abbrev pub texts_in : List (Bor (List ℕ)) → List (List ℕ)
texts_in = map (λ t. t.now)

-- the argument at a place
pub nth_argument : {A : Type 0} (f : A → List ℕ) (xs : List A) (i : ℕ) (d : A) → i < length xs → f (get_or xs i d) ≡ nth (map f xs) i
nth_argument f [] i d l = absurd (omega (arith, l))
nth_argument f (x ∷ xs) zero d l = refl
nth_argument f (x ∷ xs) (suc i) d l = let less : i < length xs = omega (arith, l) in nth_argument f xs i d less

-- how many files there are
pub file_count : (words : List (List ℕ)) → length (map parts (drop 2 words)) ≡ length words - 2
file_count words = length-map (drop 2 words) parts ∙ length-drop 2 words

-- the file at a place, by its word
word_at : (words : List (List ℕ)) (k : ℕ) → k < length (map parts words) → slice_get (map parts words) k ≡ Some (parts (nth words k))
word_at [] k l = absurd (omega (arith, l))
word_at (x ∷ xs) zero l = refl
word_at (x ∷ xs) (suc k) l = let less : k < length (map parts xs) = omega (arith, l) in word_at xs k less

pub file_word : (words : List (List ℕ)) (i : ℕ) → i < length (map parts (drop 2 words)) → slice_get (map parts (drop 2 words)) i ≡ Some (parts (nth words (i + 2)))
file_word [] i l = absurd (omega (arith, l))
file_word (a ∷ []) i l = absurd (omega (arith, l))
file_word (a ∷ b ∷ words) i l =
    let two : suc (suc i) ≡ i + 2 = omega arith in
    word_at words i l ∙ ap (λ k. Some (parts (nth (a ∷ b ∷ words) k))) two

pub file_is : (words : List (List ℕ)) (i : ℕ) (word name path : List ℕ) → i < length (map parts (drop 2 words)) → word ≡ nth words (i + 2)
    → (name ≡ name_part word) × (path ≡ path_part word) → slice_get (map parts (drop 2 words)) i ≡ Some (record { name = name; path = path })
file_is words i word name path l is split =
    file_word words i l ∙ (λ j. Some (record { name = (ap name_part (sym is) ∙ sym split.0) j; path = (ap path_part (sym is) ∙ sym split.1) j }))
