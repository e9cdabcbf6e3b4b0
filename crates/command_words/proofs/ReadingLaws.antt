-- What clap accepts are the words of the command's form, and what it finds are the arguments in them.
use Rattle.std.proofs.Common.{◌≡◌, ℕ, ◌≤◌, inl, inr, true, false, List, [], ◌∷◌, length, map, refl, sym, ◌∙◌, ap, subst, arith, Option, Some, None}
use Rattle.std.specs.Prelude.{string_bytes}
use Rattle.std.specs.declared.string.String.{String}
use Rattle.std.specs.declared.alloc.Global.{Global}
use Rattle.std.proofs.lemmas.Str.{IsUtf8-string_bytes}
use Rattle.clap.specs.Lexer.{usize_max}
use Rattle.clap.specs.Faults.{fault_of, is_simple_and_free}
use Rattle.clap.specs.Kinds.{HasKind}
use Rattle.clap.specs.Values.{kind_of}
use Rattle.clap.specs.declared.error.Error.{Error}
use Rattle.clap.specs.Matches.{found_of}
use Rattle.clap.specs.Walk.{rows_of}
use Rattle.clap.specs.Simple.{App, HasMatchesOf, is_simple, matches_of}
use Rattle.clap.specs.declared.parser.matches.ArgMatches.{ArgMatches}
use Rattle.std.proofs.lemmas.List.{length-map}
use Rattle.command_words.specs.Arguments.{arguments_of}
use Rattle.command_words.specs.Causes.{cause_of}
use Rattle.command_words.specs.declared.reading.WordsError.{WordsError}
use Rattle.command_words.specs.declared.reading.WordsError.TheVariants.{Usage, NoMemory}
use Rattle.command_words.specs.Commands.{command_of, values_in}
use Rattle.command_words.specs.Synopses.{HasArguments, has_count, names_of}
use Rattle.command_words.specs.declared.synopsis.Synopsis.{Synopsis}
use Rattle.command_words.proofs.ArgumentsLaws.{arguments_again, arguments_found, no_more}
use Rattle.command_words.proofs.CommandLaws.{AnswersWith, answer_is, count_found, count_refused, is_simple_command, is_simple_one}
use Rattle.command_words.proofs.WalkLaws.{AllText}

pub all_text : (words : List (String Global)) → AllText (map string_bytes words)
all_text [] = tt
all_text (word ∷ words) = (IsUtf8-string_bytes word, all_text words)

module _ (synopsis : Synopsis) (words : List (List ℕ)) (text : AllText words) (most : length words ≤ usize_max) where
  -- the values that clap finds
  abbrev pub values : List (List ℕ)
  values = values_in (matches_of (command_of synopsis) words) (names_of synopsis)

  counted : (arguments : List (List ℕ)) → arguments_of words ≡ Some arguments → AnswersWith synopsis words (Some arguments)
      → fault_of (command_of synopsis) words ≡ [] → HasArguments synopsis words values
  counted arguments is h e =
      elim (has_count synopsis (length arguments)) as (λ b. has_count synopsis (length arguments) ≡ b → HasArguments synopsis words values) [
        | true ↦ λ full.
            let less = no_more words arguments is in
            let fit : length arguments ≤ usize_max = omega (arith, less, most) in
            let same = ap (λ rows. values_in rows (names_of synopsis)) h.1 ∙ (count_found synopsis arguments fit full).1 in
            subst (HasArguments synopsis words) (sym same) (arguments_found words arguments is, full)
        | false ↦ λ short. absurd (count_refused synopsis arguments short (sym h.0 ∙ e))
      ] refl

  pub accepted_right : fault_of (command_of synopsis) words ≡ [] → HasArguments synopsis words values
  accepted_right e = go (arguments_of words) refl (answer_is synopsis words text)
    where
      go : (read : Option (List (List ℕ))) → arguments_of words ≡ read → AnswersWith synopsis words read → HasArguments synopsis words values
      go None is h = absurd (h e)
      go (Some arguments) is h = counted arguments is h e

  pub all_accepted : (arguments : List (List ℕ)) → HasArguments synopsis words arguments → fault_of (command_of synopsis) words ≡ []
  all_accepted arguments h =
      let is = arguments_again words arguments h.0 in
      let less = no_more words arguments is in
      let fit : length arguments ≤ usize_max = omega (arith, less, most) in
      let answer : AnswersWith synopsis words (Some arguments) = subst (AnswersWith synopsis words) is (answer_is synopsis words text) in
      answer.0 ∙ (count_found synopsis arguments fit h.1).0

  -- an error of clap doesn't blame words that are of the form
  pub none_blamed : (error : Error) → HasKind (fault_of (command_of synopsis) words) error → cause_of (kind_of error) ≡ Usage
      → (arguments : List (List ℕ)) → HasArguments synopsis words arguments → ⊥
  none_blamed error h blamed arguments has =
      elim (subst (λ kinds. HasKind kinds error) (all_accepted arguments has) h) [
        | inl memory ↦ let gone : NoMemory ≡ Usage = sym (ap cause_of memory) ∙ blamed in cc
        | inr among ↦ among
      ]

-- ---- what the call answers

module _ (synopsis : Synopsis) (words : List (String Global)) (most : length words ≤ usize_max) (app : App) (built : app ≡ command_of synopsis) where
  fits : length (map string_bytes words) ≤ usize_max
  fits = let same = length-map words string_bytes in omega (arith, same, most)

  pub read_is : (m : ArgMatches) (names arguments : List (List ℕ)) → HasMatchesOf app (map string_bytes words) m
      → (is_simple_and_free app ≡ true → fault_of app (map string_bytes words) ≡ []) → names ≡ names_of synopsis
      → arguments ≡ values_in (rows_of (found_of m)) names → HasArguments synopsis (map string_bytes words) arguments
  read_is m names arguments matched passed named same =
      let faultless = passed (ap is_simple_and_free built ∙ is_simple_command synopsis) in
      let rows = (matched (ap is_simple built ∙ is_simple_one synopsis)).0 ∙ ap (λ a. matches_of a (map string_bytes words)) built in
      let right = accepted_right synopsis (map string_bytes words) (all_text words) fits (ap (λ a. fault_of a (map string_bytes words)) (sym built) ∙ faultless) in
      subst (HasArguments synopsis (map string_bytes words)) (sym (same ∙ (λ i. values_in (rows i) (named i)))) right

  pub usage_is : (error : Error) (cause : WordsError) → (is_simple_and_free app ≡ true → HasKind (fault_of app (map string_bytes words)) error)
      → cause ≡ cause_of (kind_of error) → cause ≡ Usage → (arguments : List (List ℕ)) → HasArguments synopsis (map string_bytes words) arguments → ⊥
  usage_is error cause failed is blamed arguments has =
      let refused = subst (λ a. HasKind (fault_of a (map string_bytes words)) error) built (failed (ap is_simple_and_free built ∙ is_simple_command synopsis)) in
      none_blamed synopsis (map string_bytes words) (all_text words) fits error refused (sym is ∙ blamed) arguments has
