-- The arguments that are read are those that stand in the words, and the only ones.
use Rattle.std.proofs.Common.{◌≡◌, ℕ, ◌≤◌, Bool, true, false, cond, List, [], ◌∷◌, ◌++◌, length, refl, sym, ◌∙◌, ap, subst, arith, Option, Some, None, option_map}
use Rattle.std.specs.Prelude.{unwrap_or}
use Rattle.std.specs.List.{list_all}
use Rattle.std.specs.Str.{bytes_eq}
use Rattle.std.proofs.lemmas.Bool.{false_from_ne_true, and_from, and_parts}
use Rattle.std.proofs.lemmas.Slice.Eq.{bytes_eq-Decides}
use Rattle.command_words.specs.Arguments.{divider, is_argument, AreArguments, undivided, divided, arguments_of}

-- the words read behind a first one
abbrev after : List ℕ → List (List ℕ) → Bool → Bool → Option (List (List ℕ))
after word words is_divider is_read = cond is_divider (Some words) (cond is_read (option_map (λ more. word ∷ more) (arguments_of words)) None)

pub not_divider : (word : List ℕ) → is_argument word ≡ true → bytes_eq word divider ≡ false
not_divider word h = false_from_ne_true (bytes_eq word divider) (λ is.
    let gone : is_argument divider ≡ true = subst (λ x. is_argument x ≡ true) ((bytes_eq-Decides word divider).0 is) h in
    let never : false ≡ true = gone in cc)

-- an argument before those of the words behind it
one_more : (word : List ℕ) (words more : List (List ℕ)) → is_argument word ≡ true → AreArguments words more → AreArguments (word ∷ words) (word ∷ more)
one_more word words more is (undivided same all) = undivided (ap (λ xs. word ∷ xs) same) (and_from _ _ is all)
one_more word words more is (divided before behind parts all same) =
    divided (word ∷ before) behind (ap (λ xs. word ∷ xs) parts) (and_from _ _ is all) (ap (λ xs. word ∷ xs) same)

some_same : {A : Type 0} (x y : A) → Some x ≡ Some y → x ≡ y
some_same x y e = ap (λ o. unwrap_or o x) e

behind_one : (word : List ℕ) (words arguments : List (List ℕ)) (read : Option (List (List ℕ)))
    → ((more : List (List ℕ)) → read ≡ Some more → AreArguments words more) → is_argument word ≡ true
    → option_map (λ more. word ∷ more) read ≡ Some arguments → AreArguments (word ∷ words) arguments
behind_one word words arguments None found is e = let gone : None ≡ Some arguments = e in cc
behind_one word words arguments (Some more) found is e =
    subst (AreArguments (word ∷ words)) (some_same _ _ e) (one_more word words more is (found more refl))

pub arguments_found : (words arguments : List (List ℕ)) → arguments_of words ≡ Some arguments → AreArguments words arguments
arguments_found [] arguments e = undivided (sym (some_same _ _ e)) refl
arguments_found (word ∷ words) arguments e = go (bytes_eq word divider) refl (is_argument word) refl (arguments_found words) e
  where
    go : (d : Bool) → bytes_eq word divider ≡ d → (a : Bool) → is_argument word ≡ a
        → ((more : List (List ℕ)) → arguments_of words ≡ Some more → AreArguments words more) → after word words d a ≡ Some arguments
        → AreArguments (word ∷ words) arguments
    go true d a is found f = divided [] words (ap (λ x. x ∷ words) ((bytes_eq-Decides word divider).0 d)) refl (sym (some_same _ _ f))
    go false d true is found f = behind_one word words arguments (arguments_of words) found is f
    go false d false is found f = let gone : None ≡ Some arguments = f in cc

-- words are read as an argument and those behind it
read_one : (word : List ℕ) (words more : List (List ℕ)) → is_argument word ≡ true → arguments_of words ≡ Some more
    → arguments_of (word ∷ words) ≡ Some (word ∷ more)
read_one word words more is e =
    (λ i. after word words (not_divider word is i) (is i)) ∙ ap (option_map (λ xs. word ∷ xs)) e

all_read : (words : List (List ℕ)) → list_all is_argument words ≡ true → arguments_of words ≡ Some words
all_read [] h = refl
all_read (word ∷ words) h = let p = and_parts _ _ h in read_one word words words p.0 (all_read words p.1)

divided_read : (before behind : List (List ℕ)) → list_all is_argument before ≡ true → arguments_of (before ++ divider ∷ behind) ≡ Some (before ++ behind)
divided_read [] behind h = refl
divided_read (word ∷ words) behind h =
    let p = and_parts _ _ h in read_one word (words ++ divider ∷ behind) (words ++ behind) p.0 (divided_read words behind p.1)

pub arguments_again : (words arguments : List (List ℕ)) → AreArguments words arguments → arguments_of words ≡ Some arguments
arguments_again words arguments (undivided same h) = all_read words h ∙ ap Some (sym same)
arguments_again words arguments (divided before behind parts h same) =
    ap arguments_of parts ∙ divided_read before behind h ∙ ap Some (sym same)

-- words have one list of arguments at most
pub one_list : (words a b : List (List ℕ)) → AreArguments words a → AreArguments words b → a ≡ b
one_list words a b f g = some_same _ _ (sym (arguments_again words a f) ∙ arguments_again words b g)

-- there are no more arguments than words
pub no_more : (words arguments : List (List ℕ)) → arguments_of words ≡ Some arguments → length arguments ≤ length words
no_more [] arguments e = let none = ap length (some_same _ _ e) in omega (arith, none)
no_more (word ∷ words) arguments e = go (bytes_eq word divider) (is_argument word) (arguments_of words) (no_more words) e
  where
    go : (d a : Bool) (read : Option (List (List ℕ))) → ((more : List (List ℕ)) → read ≡ Some more → length more ≤ length words)
        → cond d (Some words) (cond a (option_map (λ more. word ∷ more) read) None) ≡ Some arguments → length arguments ≤ length (word ∷ words)
    go true a read less f = let same = ap length (some_same _ _ f) in omega (arith, same)
    go false true (Some more) less f = let same = ap length (some_same _ _ f) in omega (arith, same, less more refl)
    go false true None less f = let gone : None ≡ Some arguments = f in cc
    go false false read less f = let gone : None ≡ Some arguments = f in cc
