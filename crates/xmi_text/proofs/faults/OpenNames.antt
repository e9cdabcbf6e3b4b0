-- No `>` stands in the name of an open element.
use Rattle.std.proofs.Common.{◌≡◌, ℕ, Bool, true, List, [], ◌∷◌, refl, sym, ◌∙◌, ap, true≢false, ◌≤◌, arith}
use Rattle.std.proofs.lemmas.Bool.{ne_eqb, and_parts, and_from, not_from_false, false_from_ne_true, eqb-true}
use Rattle.std.specs.Prelude.{◌==◌, not}
use Rattle.std.specs.List.{list_all}
use Rattle.xmi_text.specs.Reading.{state_of}
use Rattle.xmi_text.proofs.faults.Lettered.{is_letter, name_letters}
use Rattle.xmi_text.proofs.faults.Named.{AllGood, names_of}

abbrev pub is_plain : ℕ → Bool
is_plain c = not (c == 62)

abbrev pub are_plain : List ℕ → Bool
are_plain name = list_all is_plain name

pub far_plain : (c : ℕ) → 128 ≤ c → is_plain c ≡ true
far_plain c h = not_from_false (c == 62) (ne_eqb c 62 (λ x. omega (arith, x)))

letter_plain : (c : ℕ) → is_letter c ≡ true → is_plain c ≡ true
letter_plain c h = not_from_false (c == 62) (false_from_ne_true (c == 62) (λ e. true≢false (sym h ∙ ap is_letter (eqb-true c 62 e))))

letters_plain : (name : List ℕ) → list_all is_letter name ≡ true → are_plain name ≡ true
letters_plain [] h = refl
letters_plain (c ∷ name) h = let p = and_parts (is_letter c) (list_all is_letter name) h in and_from (is_plain c) (are_plain name) (letter_plain c p.0) (letters_plain name p.1)

all_plain : (names : List (List ℕ)) → AllGood names → list_all are_plain names ≡ true
all_plain [] p = refl
all_plain (name ∷ names) p = and_from (are_plain name) (list_all are_plain names) (letters_plain name (name_letters name p.0.0)) (all_plain names p.1)

pub plain_of : (bytes : List ℕ) → list_all are_plain (state_of bytes).elements ≡ true
plain_of bytes = all_plain (state_of bytes).elements (names_of bytes)
