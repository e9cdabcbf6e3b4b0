-- Identifiers with one space between are read as the words that they are.
use Rattle.std.proofs.Common.{◌≡◌, ℕ, suc, false, List, [], ◌∷◌, ◌++◌, length, refl, sym, ◌∙◌, ap, arith, append_assoc, append-nil}
use Rattle.std.specs.Prelude.{◌==◌, ◌&&◌, not, All, IsTrue}
use Rattle.std.specs.List.{list_any}
use Rattle.std.proofs.lemmas.Bool.{and_parts, or_parts, cond-false, not-true}
use Rattle.mof_metamodel.specs.Characters.{is_blank, is_storable_text, is_identifier_text}
use Rattle.xmi_profile.specs.Canon.{spaced, spaced_behind}
use Rattle.model_assembly.specs.References.{with_word, words_behind, words}

-- a word
record IsWord (text : List ℕ) : Type 0 where
  plain : list_any is_blank text ≡ false
  some : (length text == 0) ≡ false

word_of : (id : List ℕ) → IsTrue (is_identifier_text id) → IsWord id
word_of id h =
    let both = and_parts (is_storable_text id && not (list_any is_blank id)) (not (length id == 0)) h in
    record {
      plain = not-true (list_any is_blank id) (and_parts (is_storable_text id) (not (list_any is_blank id)) both.0).1;
      some = not-true (length id == 0) both.1;
    }

passed : (word cs rest : List ℕ) → list_any is_blank cs ≡ false → words_behind word (cs ++ rest) ≡ words_behind (word ++ cs) rest
passed word [] rest e = ap (λ w. words_behind w rest) (sym (append-nil word))
passed word (c ∷ cs) rest e =
    let n = or_parts (is_blank c) (list_any is_blank cs) e in
    cond-false (is_blank c) (with_word word (words_behind [] (cs ++ rest))) (words_behind (word ++ c ∷ []) (cs ++ rest)) n.0
    ∙ passed (word ++ c ∷ []) cs rest n.1
    ∙ ap (λ w. words_behind w rest) (append_assoc word (c ∷ []) cs)

last_word : (text : List ℕ) → IsWord text → words text ≡ text ∷ []
last_word text w =
    ap words (sym (append-nil text)) ∙ passed [] text [] w.plain ∙ cond-false (length text == 0) [] (text ∷ []) w.some

next_word : (text rest : List ℕ) → IsWord text → words (text ++ 32 ∷ rest) ≡ text ∷ words rest
next_word text rest w = passed [] text (32 ∷ rest) w.plain ∙ cond-false (length text == 0) (words rest) (text ∷ words rest) w.some

words_behind_first : (text : List ℕ) (ids : List (List ℕ)) → All (λ id. IsTrue (is_identifier_text id)) (text ∷ ids) → words (spaced_behind text ids) ≡ text ∷ ids
words_behind_first text [] h = last_word text (word_of text (h 0 [] (omega arith)))
words_behind_first text (id ∷ ids) h =
    next_word text (spaced_behind id ids) (word_of text (h 0 [] (omega arith)))
    ∙ ap (λ ws. text ∷ ws) (words_behind_first id ids (λ k d l. h (suc k) d (omega (arith, l))))

pub words_read : (ids : List (List ℕ)) → All (λ id. IsTrue (is_identifier_text id)) ids → words (spaced ids) ≡ ids
words_read [] h = refl
words_read (id ∷ ids) h = words_behind_first id ids h
