-- What is spelled is read, and what is read is spelled: a word that binds a name to a path.
use Rattle.std.proofs.Common.{◌≡◌, ℕ, suc, ◌⊎◌, inl, inr, true, false, cond, List, [], ◌∷◌, ◌++◌, ◌+◌, ◌≤◌, length, take, drop, refl, sym, ◌∙◌, ap, subst, arith, Some}
use Rattle.std.specs.Prelude.{◌&&◌, ◌==◌, not, ◌||◌}
use Rattle.std.specs.List.{list_any, position_or_len}
use Rattle.std.proofs.lemmas.Bool.{eqb-true}
use Rattle.std.proofs.Math.Numerals.{one-add}
use Rattle.std.proofs.Math.Seq.{take-length}
use Rattle.std.proofs.Math.ListN.{drop_of_length-le}
use Rattle.qvtr_engine.specs.CheckWords.{Bound, bound_word, is_bound, equals_sign, is_equals_sign}
use Rattle.qvtr_engine.specs.Reading.{when_true, name_part, path_part, parts, bound_of}
use Rattle.qvtr_engine.proofs.ReadingLaws.{when_some, when_holds, any_false}
use Rattle.std.proofs.lemmas.Bool.{not-true}
use Rattle.std.proofs.lemmas.Bool.{and_from}
use Rattle.std.proofs.lemmas.Bool.{and_parts}

-- a word without a path, or one that is a name, `=` and a path
split : (word : List ℕ) → (path_part word ≡ []) ⊎ (word ≡ name_part word ++ equals_sign ∷ path_part word)
split [] = inl refl
split (c ∷ cs) =
    elim (is_equals_sign c) as (λ b. is_equals_sign c ≡ b
    → (cond b cs (path_part cs) ≡ []) ⊎ (c ∷ cs ≡ cond b [] (c ∷ name_part cs) ++ equals_sign ∷ cond b cs (path_part cs))) [
      | true ↦ λ is. inr (ap (λ x. x ∷ cs) (eqb-true c equals_sign is))
      | false ↦ λ is. elim (split cs) [ inl none ↦ inl none | inr found ↦ inr (ap (λ xs. c ∷ xs) found) ]
    ] refl

no_path : (path : List ℕ) → path ≡ [] → not (length path == 0) ≡ true → ⊥
no_path path e h = let gone : not (length {A = ℕ} [] == 0) ≡ true = subst (λ p. not (length p == 0) ≡ true) e h in cc

parts_found : (word : List ℕ) → not (length (path_part word) == 0) ≡ true → word ≡ bound_word (parts word)
parts_found word h = elim (split word) [ inl none ↦ absurd (no_path (path_part word) none h) | inr found ↦ found ]

-- the name of a word has no `=`
name_plain : (word : List ℕ) → not (list_any is_equals_sign (name_part word)) ≡ true
name_plain [] = refl
name_plain (c ∷ cs) =
    elim (is_equals_sign c) as (λ b. is_equals_sign c ≡ b → not (list_any is_equals_sign (cond b [] (c ∷ name_part cs))) ≡ true) [
      | true ↦ λ is. refl
      | false ↦ λ is. ap (λ b. not (b || list_any is_equals_sign (name_part cs))) is ∙ name_plain cs
    ] refl

name_again : (name path : List ℕ) → list_any is_equals_sign name ≡ false → (name_part (name ++ equals_sign ∷ path) ≡ name) × (path_part (name ++ equals_sign ∷ path) ≡ path)
name_again [] path h = (refl, refl)
name_again (c ∷ cs) path h =
    let s = any_false is_equals_sign c cs h in let more = name_again cs path s.1 in (
      ap (λ b. cond b [] (c ∷ name_part (cs ++ equals_sign ∷ path))) s.0 ∙ ap (λ n. c ∷ n) more.0,
      ap (λ b. cond b (cs ++ equals_sign ∷ path) (path_part (cs ++ equals_sign ∷ path))) s.0 ∙ more.1,
    )

pub bound_found : (word : List ℕ) (b : Bound) → bound_of word ≡ Some b → (word ≡ bound_word b) × (is_bound b ≡ true)
unfolding bound_of
bound_found word b e =
    let w = when_some _ _ b e in
    let t = and_parts _ _ w.0 in
    subst (λ x. (word ≡ bound_word x) × (is_bound x ≡ true)) w.1 (parts_found word t.1, and_from _ _ (and_from _ _ t.0 (name_plain word)) t.1)

pub bound_again : (b : Bound) → is_bound b ≡ true → bound_of (bound_word b) ≡ Some b
unfolding bound_of
bound_again b h =
    let s = and_parts _ _ h in let t = and_parts _ _ s.0 in
    let again = name_again b.name b.path (not-true (list_any is_equals_sign b.name) t.1) in
    let are : parts (bound_word b) ≡ b = λ i. record { name = again.0 i; path = again.1 i } in
    ap (λ x. when_true (not (length x.name == 0) && not (length x.path == 0)) x) are ∙ when_holds _ _ (and_from _ _ t.0 s.1)

-- the parts of a word by the place of its first `=`
pub name_taken : (word : List ℕ) → take (position_or_len is_equals_sign word) word ≡ name_part word
name_taken [] = refl
name_taken (c ∷ cs) =
    elim (is_equals_sign c) as (λ b. take (cond (not b) (1 + position_or_len is_equals_sign cs) 0) (c ∷ cs) ≡ cond b [] (c ∷ name_part cs)) [
      | true ↦ refl
      | false ↦ ap (λ n. take n (c ∷ cs)) (one-add (position_or_len is_equals_sign cs)) ∙ ap (λ w. c ∷ w) (name_taken cs)
    ]

pub path_dropped : (word : List ℕ) → drop (suc (position_or_len is_equals_sign word)) word ≡ path_part word
path_dropped [] = refl
path_dropped (c ∷ cs) =
    elim (is_equals_sign c) as (λ b. drop (suc (cond (not b) (1 + position_or_len is_equals_sign cs) 0)) (c ∷ cs) ≡ cond b cs (path_part cs)) [
      | true ↦ refl
      | false ↦ ap (λ n. drop (suc n) (c ∷ cs)) (one-add (position_or_len is_equals_sign cs)) ∙ path_dropped cs
    ]

-- a word without `=` is a name alone
pub all_name : (word : List ℕ) → position_or_len is_equals_sign word ≡ length word → (word ≡ name_part word) × ([] ≡ path_part word)
all_name word h = (
  sym (take-length word) ∙ ap (λ n. take n word) (sym h) ∙ name_taken word,
  let longer : length word ≤ suc (length word) = omega arith in sym (drop_of_length-le word longer) ∙ ap (λ n. drop (suc n) word) (sym h) ∙ path_dropped word,
)
