-- What is spelled is read, and what is read is spelled: the words of `convert`.
use Rattle.std.proofs.Common.{◌≡◌, ℕ, true, false, cond, List, [], ◌∷◌, length, map, refl, sym, ◌∙◌, ap, subst, arith, Option, Some, None, option_map}
use Rattle.std.specs.Prelude.{Result, Ok, Err, IfOk, OnOk, codes, ◌==◌}
use Rattle.std.proofs.lemmas.Bool.{eqb-true, eq-eqb}
use Rattle.std.proofs.lemmas.List.{length-map}
use Rattle.mof_metamodel.specs.Metamodels.{same_name}
use Rattle.model_files.specs.declared.file_form.Form.{Form}
use Rattle.model_files.specs.declared.file_form.Form.TheVariants.{Xmi, Json}
use Rattle.command_words.specs.Arguments.{AreArguments, arguments_of}
use Rattle.command_words.specs.Synopses.{HasArguments, has_count}
use Rattle.command_words.specs.declared.synopsis.Synopsis.TheVariants.{Conversion}
use Rattle.qvtr_engine.specs.ConvertWords.{ConvertWords, IsConvert, form_word, convert_arguments, form_named, has_good_paths, convert_with, convert_in, convert_from, convert_of}
use Rattle.qvtr_engine.specs.Reading.{◌>>=◌, when_true, nth}
use Rattle.command_words.proofs.ArgumentsLaws.{arguments_found, arguments_again}
use Rattle.qvtr_engine.proofs.ReadingLaws.{bind_some, mapped_some, when_some, when_holds, same_is}
use Rattle.std.proofs.lemmas.Bool.{and_from, and_parts}

form_found : (word : List ℕ) (form : Form) → form_named word ≡ Some form → word ≡ form_word form
form_found word form e =
    elim (same_name word (codes "xmi")) as (λ b. same_name word (codes "xmi") ≡ b
    → cond b (Some Xmi) (cond (same_name word (codes "json")) (Some Json) None) ≡ Some form → word ≡ form_word form) [
      | true ↦ λ is f. let same : Xmi ≡ form = cc in same_is word (codes "xmi") is ∙ ap form_word same
      | false ↦ λ no f.
          elim (same_name word (codes "json")) as (λ b. same_name word (codes "json") ≡ b → cond b (Some Json) None ≡ Some form → word ≡ form_word form) [
            | true ↦ λ is f. let same : Json ≡ form = cc in same_is word (codes "json") is ∙ ap form_word same
            | false ↦ λ is f. let gone : None ≡ Some form = f in cc
          ] refl f
    ] refl e

form_again : (form : Form) → form_named (form_word form) ≡ Some form
form_again Xmi = refl
form_again Json = refl

-- four arguments
in_found : (arguments : List (List ℕ)) (c : ConvertWords) → convert_in arguments ≡ Some c
    → nth arguments 0 ∷ nth arguments 1 ∷ nth arguments 2 ∷ nth arguments 3 ∷ [] ≡ convert_arguments c
in_found arguments c e =
    let p = mapped_some (convert_with arguments) (form_named (nth arguments 0)) c e in
    ap (λ w. w ∷ nth arguments 1 ∷ nth arguments 2 ∷ nth arguments 3 ∷ []) (form_found (nth arguments 0) p.0 p.1) ∙ ap convert_arguments p.2

four : (arguments : List (List ℕ)) → length arguments ≡ 4 → arguments ≡ nth arguments 0 ∷ nth arguments 1 ∷ nth arguments 2 ∷ nth arguments 3 ∷ []
four [] l = absurd (omega (arith, l))
four (a ∷ []) l = absurd (omega (arith, l))
four (a ∷ b ∷ []) l = absurd (omega (arith, l))
four (a ∷ b ∷ c ∷ []) l = absurd (omega (arith, l))
four (a ∷ b ∷ c ∷ d ∷ []) l = refl
four (a ∷ b ∷ c ∷ d ∷ e ∷ es) l = absurd (omega (arith, l))

-- what is asked for, if its paths are good
abbrev when_good : ConvertWords → Option ConvertWords
when_good c = when_true (has_good_paths c) c

pub from_four : (arguments : List (List ℕ)) → length arguments ≡ 4 → convert_from arguments ≡ convert_in arguments >>= when_good
unfolding convert_from
from_four arguments l = ap (λ b. cond b (convert_in arguments >>= when_good) None) (eq-eqb (length arguments) 4 l)

from_found : (arguments : List (List ℕ)) (c : ConvertWords) → convert_from arguments ≡ Some c → (arguments ≡ convert_arguments c) × (has_good_paths c ≡ true)
unfolding convert_from
from_found arguments c e =
    elim (length arguments == 4) as (λ b. (length arguments == 4) ≡ b → cond b (convert_in arguments >>= when_good) None ≡ Some c
    → (arguments ≡ convert_arguments c) × (has_good_paths c ≡ true)) [
      | true ↦ λ is f.
          let p = bind_some (convert_in arguments) when_good c f in
          let q = when_some _ _ c p.2 in (
            four arguments (eqb-true (length arguments) 4 is) ∙ in_found arguments p.0 p.1 ∙ ap convert_arguments q.1,
            subst (λ x. has_good_paths x ≡ true) q.1 q.0,
          )
      | false ↦ λ is f. let gone : None ≡ Some c = f in cc
    ] refl e

from_again : (c : ConvertWords) → has_good_paths c ≡ true → convert_from (convert_arguments c) ≡ Some c
unfolding convert_from
from_again c h =
    ap (λ o. option_map (convert_with (convert_arguments c)) o >>= when_good) (form_again c.form) ∙ when_holds (has_good_paths c) c h

parts_found : (further : List (List ℕ)) (c : ConvertWords) → convert_of further ≡ Some c → AreArguments further (convert_arguments c) × (has_good_paths c ≡ true)
unfolding convert_of
parts_found further c e =
    let p = bind_some (arguments_of further) convert_from c e in
    let q = from_found p.0 c p.2 in
    (arguments_found further (convert_arguments c) (p.1 ∙ ap Some q.0), q.1)

pub convert_found : (further : List (List ℕ)) (c : ConvertWords) → convert_of further ≡ Some c → IsConvert (codes "convert" ∷ further) c
convert_found further c e =
    let p = parts_found further c e in
    let good = and_parts _ _ p.1 in
    record { further = further; named = refl; arguments = p.0; filled = good.0; apart = good.1 }

pub convert_again : (words : List (List ℕ)) (c : ConvertWords) → (h : IsConvert words c) → convert_of h.further ≡ Some c
unfolding convert_of
convert_again words c h =
    ap (λ o. o >>= convert_from) (arguments_again h.further (convert_arguments c) h.arguments) ∙ from_again c (and_from _ _ h.filled h.apart)

-- ---- what is read of words that have four arguments, and of words that haven't

pub convert_read : (further arguments : List (List ℕ)) → HasArguments Conversion further arguments → convert_of further ≡ convert_from arguments
unfolding convert_of
convert_read further arguments h = ap (λ o. o >>= convert_from) (arguments_again further arguments h.0)

pub convert_unread : (further : List (List ℕ)) → ((arguments : List (List ℕ)) → HasArguments Conversion further arguments → ⊥) → convert_of further ≡ None
convert_unread further none = by (convert_of further) refl
  where
    by : (o : Option ConvertWords) → convert_of further ≡ o → o ≡ None
    by None e = refl
    by (Some c) e = absurd (none (convert_arguments c) ((parts_found further c e).0, refl))

-- there are four
pub four_arguments : {A : Type 0} (f : A → List ℕ) (xs : List A) → has_count Conversion (length (map f xs)) ≡ true → length xs ≡ 4
four_arguments f xs h = sym (length-map xs f) ∙ eqb-true (length (map f xs)) 4 h

-- what they ask for has good paths, or hasn't, or they name no form
pub convert_good : (arguments : List (List ℕ)) (c : ConvertWords) → length arguments ≡ 4 → convert_in arguments ≡ Some c → has_good_paths c ≡ true → convert_from arguments ≡ Some c
convert_good arguments c l asked good = from_four arguments l ∙ ap (λ o. o >>= when_good) asked ∙ when_holds (has_good_paths c) c good

pub convert_bad : (arguments : List (List ℕ)) (c : ConvertWords) → length arguments ≡ 4 → convert_in arguments ≡ Some c → has_good_paths c ≡ false → convert_from arguments ≡ None
convert_bad arguments c l asked bad = from_four arguments l ∙ ap (λ o. o >>= when_good) asked ∙ ap (λ b. when_true b c) bad

pub convert_formless : (arguments : List (List ℕ)) → length arguments ≡ 4 → convert_in arguments ≡ None → convert_from arguments ≡ None
convert_formless arguments l asked = from_four arguments l ∙ ap (λ o. o >>= when_good) asked

-- of a request in memory that is kept
pub convert_when : {A E : Type 0} (view : A → ConvertWords) (arguments : List (List ℕ)) (c : ConvertWords) (r : Result A E) → length arguments ≡ 4
    → convert_in arguments ≡ Some c → IfOk r (λ x. view x ≡ c) → OnOk r (has_good_paths c ≡ true) → IfOk r (λ x. convert_from arguments ≡ Some (view x))
convert_when view arguments c (Ok x) l asked same good = convert_good arguments c l asked good ∙ ap Some (sym same)
convert_when view arguments c (Err e) l asked same good = tt
