-- The words of an attribute, read character by character.
use Rattle.std.proofs.Common.{◌≡◌, ℕ, Bool, true, false, List, [], ◌∷◌, ◌++◌, length, refl, sym, ◌∙◌, ap, arith, append_assoc, append-nil}
use Rattle.std.specs.Prelude.{◌==◌, if◌then◌else◌}
use Rattle.std.specs.List.{fold}
use Rattle.std.proofs.lemmas.Bool.{ne_eqb}
use Rattle.mof_metamodel.specs.Characters.{is_blank}
use Rattle.model_assembly.specs.References.{with_word, words_behind, words}
use Rattle.xmi_profile.specs.WordList.{Words, ended, words_on}

has_character : (c : ℕ) (t : List ℕ) → (length (c ∷ t) == 0) ≡ false
has_character c t = ne_eqb (length (c ∷ t)) 0 (λ e. omega (arith, e))

abbrev All : Type 0
All = List (List ℕ)

-- a word ends
ended_none : (done : All) → ended (done, []) ≡ (done, [])
ended_none done = refl

ended_some : (done : All) (c : ℕ) (t : List ℕ) → ended (done, c ∷ t) ≡ (done ++ (c ∷ t) ∷ [], [])
ended_some done c t = ap (λ (b : Bool). if b then (done, c ∷ t) else (done ++ (c ∷ t) ∷ [], [])) (has_character c t)

with_some : (c : ℕ) (t : List ℕ) (rest : All) → with_word (c ∷ t) rest ≡ (c ∷ t) ∷ rest
with_some c t rest = ap (λ (b : Bool). if b then rest else (c ∷ t) ∷ rest) (has_character c t)

ended_words : (done : All) (word : List ℕ) (rest : All) → (ended (done, word)).0 ++ rest ≡ done ++ with_word word rest
ended_words done [] rest = refl
ended_words done (c ∷ t) rest =
    ap (λ (w : Words). w.0 ++ rest) (ended_some done c t) ∙ append_assoc done ((c ∷ t) ∷ []) rest ∙ ap (λ (xs : All). done ++ xs) (sym (with_some c t rest))

ended_word : (done : All) (word : List ℕ) → ended (done, word) ≡ ((ended (done, word)).0, [])
ended_word done [] = refl
ended_word done (c ∷ t) = ended_some done c t ∙ sym (ap (λ (w : Words). (w.0, [])) (ended_some done c t))

words_from : (done : All) (word : List ℕ) (cs : List ℕ) → (ended (fold words_on (done, word) cs)).0 ≡ done ++ words_behind word cs
words_from done word [] = sym (append-nil (ended (done, word)).0) ∙ ended_words done word []
words_from done word (c ∷ cs) = by (is_blank c) (words_from (ended (done, word)).0 [] cs) (words_from done (word ++ c ∷ []) cs)
  where
    by : (b : Bool) → (ended (fold words_on ((ended (done, word)).0, []) cs)).0 ≡ (ended (done, word)).0 ++ words_behind [] cs
        → (ended (fold words_on (done, word ++ c ∷ []) cs)).0 ≡ done ++ words_behind (word ++ c ∷ []) cs
        → (ended (fold words_on (if b then ended (done, word) else (done, word ++ c ∷ [])) cs)).0
        ≡ done ++ (if b then with_word word (words_behind [] cs) else words_behind (word ++ c ∷ []) cs)
    by true h i = ap (λ (w : Words). (ended (fold words_on w cs)).0) (ended_word done word) ∙ h ∙ ended_words done word (words_behind [] cs)
    by false h i = i

pub words_folded : (cs : List ℕ) → (ended (fold words_on ([], []) cs)).0 ≡ words cs
words_folded cs = words_from [] [] cs
