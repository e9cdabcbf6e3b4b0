-- Names: by characters and by bytes, and the numbers that are found for them.
use Rattle.std.proofs.Common.{◌≡◌, ℕ, ◌+◌, ◌<◌, ◌≤◌, List, [], ◌∷◌, ◌++◌, Bool, true, false, cond, refl, sym, ◌∙◌, ap, arith, length, get_or, map, take, not, suc, true≢false}
use Rattle.std.specs.Prelude.{nat_eq, encode_utf8_all, position, Option, Some, None, is_some, codes}
use Rattle.std.specs.Str.{chars, IsUtf8, bytes_eq}
use Rattle.std.specs.List.{position_or_len}
use Rattle.std.specs.Map.{lookup}
use Rattle.std.specs.Option.{option_or}
use Rattle.std.proofs.lemmas.Bool.Decides.{nat_tests}
use Rattle.std.specs.Cmp.Lexicographic.{pointwise, same_text}
use Rattle.std.specs.Prelude.{string_bytes, String}
use Rattle.std.proofs.lemmas.Str.{encodes-chars, IsUtf8-string_bytes}
use Rattle.std.proofs.lemmas.List.{length-take-le, take_more, length_push}
use Rattle.std.proofs.lemmas.List.Folds.{position_or_len_push}
use Rattle.mof_metamodel.specs.TextLaws.{equal_encodings}
use Rattle.mof_metamodel.specs.Metamodels.{same_name}
use Rattle.mof_metamodel.specs.NameTables.{value_of}
use Rattle.mof_metamodel.specs.Tables.{Names, number_in, with_name, Numbers}

-- names are the same where their bytes are
pub named_bytes : (a b : List ℕ) → IsUtf8 a → IsUtf8 b → pointwise nat_eq a b ≡ same_name (chars a) (chars b)
named_bytes a b ua ub =
    sym (equal_encodings (chars a) (chars b) ∙ ap (λ x. pointwise nat_eq x (encode_utf8_all (chars b))) (encodes-chars a ua) ∙ ap (λ x. pointwise nat_eq a x) (encodes-chars b ub))

pub string_characters : chars (codes "String") ≡ codes "String"
unfolding chars
string_characters = refl

pub integer_characters : chars (codes "Integer") ≡ codes "Integer"
unfolding chars
integer_characters = refl

pub boolean_characters : chars (codes "Boolean") ≡ codes "Boolean"
unfolding chars
boolean_characters = refl

pub xmlns_characters : chars (codes "xmlns") ≡ codes "xmlns"
unfolding chars
xmlns_characters = refl

pub empty_characters : chars [] ≡ []
unfolding chars
empty_characters = refl

-- ---- look-ups

pub lookup-view : {K V : Type 0} (bytes_of : K → List ℕ) (p : List ℕ → Bool) (es : List (K × V)) → lookup p (map (λ e. (chars (bytes_of e.0), e.1)) es) ≡ lookup (λ k. p (chars (bytes_of k))) es
lookup-view bytes_of p [] = refl
lookup-view bytes_of p (e ∷ es) = ap (cond (p (chars (bytes_of e.0))) (Some e.1)) (lookup-view bytes_of p es)

pub lookup-agree : {K V : Type 0} (p q : K → Bool) → ((k : K) → p k ≡ q k) → (es : List (K × V)) → lookup p es ≡ lookup q es
lookup-agree p q same [] = refl
lookup-agree p q same (e ∷ es) = ap (λ b. cond b (Some e.1) (lookup p es)) (same e.0) ∙ ap (cond (q e.0) (Some e.1)) (lookup-agree p q same es)

pub lookup-push : {K : Type 0} (p : K → Bool) (es : List (K × ℕ)) (k : K) (v : ℕ) → lookup p (es ++ (k, v) ∷ []) ≡ option_or (lookup p es) (cond (p k) (Some v) None)
lookup-push p [] k v = refl
lookup-push p (e ∷ es) k v = by (p e.0) (lookup-push p es k v)
  where
    by : (b : Bool) → lookup p (es ++ (k, v) ∷ []) ≡ option_or (lookup p es) (cond (p k) (Some v) None)
        → cond b (Some e.1) (lookup p (es ++ (k, v) ∷ [])) ≡ option_or (cond b (Some e.1) (lookup p es)) (cond (p k) (Some v) None)
    by true h = refl
    by false h = h

-- a name is looked up among strings by its bytes
pub string_lookup : {Y V : Type 0} (bs : List ℕ) (es : List (String Y × V)) → IsUtf8 bs → lookup (λ k. bytes_eq bs (string_bytes k)) es ≡ value_of (map (λ e. (chars (string_bytes e.0), e.1)) es) (chars bs)
string_lookup bs es utf8 =
    lookup-agree _ _ (λ k. named_bytes bs (string_bytes k) utf8 (IsUtf8-string_bytes k)) es ∙ sym (lookup-view string_bytes (same_name (chars bs)) es)

-- ---- one more name

pub with_name-there : (names : Names) (name : List ℕ) (n : ℕ) → is_some (number_in names name) ≡ true → with_name names name n ≡ names
with_name-there names name n h = ap (λ b. cond b names (names ++ (name, n) ∷ [])) h

pub with_name-new : (names : Names) (name : List ℕ) (n : ℕ) → is_some (number_in names name) ≡ false → with_name names name n ≡ names ++ (name, n) ∷ []
with_name-new names name n h = ap (λ b. cond b names (names ++ (name, n) ∷ [])) h

position_or_len-le : {X : Type 0} (p : X → Bool) (xs : List X) → position_or_len p xs ≤ length xs
position_or_len-le p [] = omega arith
position_or_len-le p (x ∷ xs) = by (not (p x)) (position_or_len-le p xs)
  where
    by : (b : Bool) → position_or_len p xs ≤ length xs → cond b (1 + position_or_len p xs) 0 ≤ suc (length xs)
    by true h = omega (arith, h)
    by false h = omega arith

pub position_push : {X : Type 0} (p : X → Bool) (xs : List X) (x : X) → position p (xs ++ x ∷ []) ≡ option_or (position p xs) (cond (p x) (Some (length xs)) None)
position_push p xs x = grind (arith, nat_tests, position_or_len_push, length_push, position_or_len-le)

module _ {X : Type 0} (name_of : X → List ℕ) (xs : List X) where
  pub numbers_none : Numbers name_of [] []
  numbers_none name = refl

  -- the names of one more item
  pub numbers_more : (i : ℕ) (x : X) (names : Names) → i < length xs → x ≡ get_or xs i x → Numbers name_of (take i xs) names → Numbers name_of (take (i + 1) xs) (with_name names (name_of x) i)
  numbers_more i x names l r h name =
      by (is_some (number_in names (name_of x))) refl
      ∙ sym (ap (position test) (take_more xs i x l ∙ ap (λ y. take i xs ++ y ∷ []) (sym r)) ∙ position_push test (take i xs) x ∙ ap (λ n. option_or (position test (take i xs)) (cond (test x) (Some n) None)) (length-take-le i xs (omega (arith, l))) ∙ ap (λ o. option_or o (cond (test x) (Some i) None)) (sym (h name)))
    where
      test : X → Bool
      test y = same_name name (name_of y)

      same : (b : Bool) → same_name name (name_of x) ≡ b → is_some (number_in names (name_of x)) ≡ true → number_in names name ≡ option_or (number_in names name) (cond b (Some i) None)
      same true e s = some (number_in names name) (ap (λ n. is_some (number_in names n)) (same_text name (name_of x) (sym e)) ∙ s)
        where
          some : (o : Option ℕ) → is_some o ≡ true → o ≡ option_or o (Some i)
          some None k = absurd (true≢false (sym k))
          some (Some m) k = refl
      same false e s = none (number_in names name)
        where
          none : (o : Option ℕ) → o ≡ option_or o None
          none None = refl
          none (Some m) = refl

      by : (b : Bool) → is_some (number_in names (name_of x)) ≡ b → number_in (cond b names (names ++ (name_of x, i) ∷ [])) name ≡ option_or (number_in names name) (cond (test x) (Some i) None)
      by true s = same (same_name name (name_of x)) refl s
      by false s = lookup-push (same_name name) names (name_of x) i
