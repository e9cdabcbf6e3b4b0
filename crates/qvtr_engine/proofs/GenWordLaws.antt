-- What is spelled is read, and what is read is spelled: the words of `gen`.
use Rattle.std.proofs.Common.{◌≡◌, ◌≤◌, ◌<◌, ◌^◌, ℕ, true, false, cond, List, [], ◌∷◌, length, refl, sym, ◌∙◌, ap, subst, arith, Option, Some, None}
use Rattle.std.specs.Prelude.{Result, codes, ◌&&◌, ◌==◌, nat_le}
use Rattle.std.specs.Result.{result_ok}
use Rattle.std.specs.Str.{all_ascii_digits}
use Rattle.std.specs.Str.Parse.{digits_value, ParsesUnsigned}
use Rattle.std.proofs.lemmas.Bool.{and_from, and_parts, eqb-true, eq-eqb}
use Rattle.std.proofs.lemmas.Bool.Decides.{nat_tests}
use Rattle.std.proofs.lemmas.Str.Parse.{IsNumeralModel, numerals_by_value, tells_all_ascii_digits, digits_value_short, parse_gives}
use Rattle.command_words.specs.Arguments.{AreArguments, arguments_of}
use Rattle.command_words.specs.Synopses.{HasArguments}
use Rattle.command_words.specs.declared.synopsis.Synopsis.TheVariants.{Generation}
use Rattle.command_words.proofs.ArgumentsLaws.{arguments_found, arguments_again}
use Rattle.example_models.specs.declared.limits.TheConstants.{MAX_SOURCE_CLASSES, SEEDS}
use Rattle.qvtr_engine.specs.declared.gen_words.TheConstants.{MAX_DIGITS}
use Rattle.qvtr_engine.specs.declared.gen_words.GenRequest.{GenRequest}
use Rattle.qvtr_engine.specs.GenWords.{is_numeral, Writes, IsInRange, IsGeneration, number_of, with_seed, gen_with, gen_from, gen_of}
use Rattle.qvtr_engine.specs.Reading.{◌>>=◌, nth}
use Rattle.qvtr_engine.proofs.ReadingLaws.{bind_some, when_some, when_holds}

-- ---- numbers

pub decimal_texts : IsNumeralModel (λ ds. all_ascii_digits ds ≡ true) (digits_value 10)
decimal_texts = numerals_by_value _ tells_all_ascii_digits

-- a numeral is not empty, has nine digits at most, and is a number below 1,000,000,000
pub record IsShort (word : List ℕ) : Type 0 where
  pub some : 1 ≤ length word
  pub few : length word ≤ MAX_DIGITS
  pub digits : all_ascii_digits word ≡ true
  pub small : digits_value 10 word < 10 ^ 9

pub short_numeral : (word : List ℕ) → is_numeral word ≡ true → IsShort word
short_numeral word h =
    let p = and_parts (nat_le 1 (length word)) (nat_le (length word) MAX_DIGITS && all_ascii_digits word) h in
    let q = and_parts (nat_le (length word) MAX_DIGITS) (all_ascii_digits word) p.1 in
    let some : 1 ≤ length word = grind (arith, nat_tests, p.0) in
    let few : length word ≤ 9 = grind (arith, nat_tests, q.0) in
    record {
      some = some;
      few = few;
      digits = q.1;
      small = digits_value_short decimal_texts word 9 q.1 few;
    }

-- a word of digits is parsed as its number
numeral_from : (word : List ℕ) → (length word == 0) ≡ false → length word ≤ 9 → all_ascii_digits word ≡ true → is_numeral word ≡ true
numeral_from word some few digits =
    let one : nat_le 1 (length word) ≡ true = grind (arith, nat_tests, some) in
    let nine : nat_le (length word) MAX_DIGITS ≡ true = grind (arith, nat_tests, few) in
    and_from (nat_le 1 (length word)) (nat_le (length word) MAX_DIGITS && all_ascii_digits word) one
    (and_from (nat_le (length word) MAX_DIGITS) (all_ascii_digits word) nine digits)

pub number_read : {E : Type 0} (word : List ℕ) (r : Result ℕ E) → (length word == 0) ≡ false → length word ≤ 9 → all_ascii_digits word ≡ true
    → ParsesUnsigned 32 10 word r → result_ok r ≡ number_of word
number_read word r some few digits parsed =
    let numeral : is_numeral word ≡ true = numeral_from word some few digits in
    let short = short_numeral word numeral in
    let positive : 0 < length word = let s = short.some in omega (arith, s) in
    let fits : digits_value 10 word < 2 ^ 32 = let s = short.small in omega (arith, s) in
    ap result_ok (parse_gives decimal_texts 32 word r parsed digits positive fits) ∙ sym (when_holds (is_numeral word) (digits_value 10 word) numeral)

number_found : (word : List ℕ) (n : ℕ) → number_of word ≡ Some n → Writes word n
number_found word n e = let p = when_some (is_numeral word) (digits_value 10 word) n e in record { numeral = p.0; value = sym p.1 }

number_again : (word : List ℕ) (n : ℕ) → Writes word n → number_of word ≡ Some n
number_again word n w = when_holds (is_numeral word) (digits_value 10 word) w.numeral ∙ ap Some (sym w.value)

below_seeds : (word : List ℕ) (n : ℕ) → Writes word n → n < SEEDS
below_seeds word n w = let small = (short_numeral word w.numeral).small in let value = w.value in omega (arith, small, value)

-- ---- what is read is spelled

-- two arguments that ask for such an example
record AreParts (arguments : List (List ℕ)) (g : GenRequest) : Type 0 where
  pub two : arguments ≡ nth arguments 0 ∷ nth arguments 1 ∷ []
  pub classes : Writes (nth arguments 0) g.classes
  pub seed : Writes (nth arguments 1) g.seed
  pub in_range : IsInRange g

two_of : (arguments : List (List ℕ)) → length arguments ≡ 2 → arguments ≡ nth arguments 0 ∷ nth arguments 1 ∷ []
two_of [] l = absurd (omega (arith, l))
two_of (a ∷ []) l = absurd (omega (arith, l))
two_of (a ∷ b ∷ []) l = refl
two_of (a ∷ b ∷ c ∷ cs) l = absurd (omega (arith, l))

parts_with : (arguments : List (List ℕ)) (n seed : ℕ) (g : GenRequest) → length arguments ≡ 2 → number_of (nth arguments 0) ≡ Some n → number_of (nth arguments 1) ≡ Some seed
    → with_seed n seed ≡ Some g → AreParts arguments g
parts_with arguments n seed g l first second e =
    let p = when_some (nat_le 1 n && nat_le n MAX_SOURCE_CLASSES) (record { classes = n; seed = seed }) g e in
    let range = and_parts (nat_le 1 n) (nat_le n MAX_SOURCE_CLASSES) p.0 in
    let some : 1 ≤ n = grind (arith, nat_tests, range.0) in
    let few : n ≤ MAX_SOURCE_CLASSES = grind (arith, nat_tests, range.1) in
    let writes : Writes (nth arguments 1) seed = number_found (nth arguments 1) seed second in
    subst (AreParts arguments) p.1 (record {
      two = two_of arguments l;
      classes = number_found (nth arguments 0) n first;
      seed = writes;
      in_range = record {
        some = some;
        few = few;
        seed = below_seeds (nth arguments 1) seed writes;
      };
    })

from_found : (arguments : List (List ℕ)) (g : GenRequest) → gen_from arguments ≡ Some g → AreParts arguments g
unfolding gen_from
from_found arguments g e =
    elim (length arguments == 2) as (λ b. (length arguments == 2) ≡ b → cond b (number_of (nth arguments 0) >>= gen_with arguments) None ≡ Some g → AreParts arguments g) [
      | true ↦ λ is f.
          let p = bind_some (number_of (nth arguments 0)) (gen_with arguments) g f in
          let q = bind_some (number_of (nth arguments 1)) (with_seed p.0) g p.2 in
          parts_with arguments p.0 q.0 g (eqb-true (length arguments) 2 is) p.1 q.1 q.2
      | false ↦ λ is f. let gone : None ≡ Some g = f in cc
    ] refl e

parts_found : (further : List (List ℕ)) (g : GenRequest) → gen_of further ≡ Some g → (a : List (List ℕ)) × AreArguments further a × AreParts a g
unfolding gen_of
parts_found further g e =
    let p = bind_some (arguments_of further) gen_from g e in
    (p.0, arguments_found further p.0 p.1, from_found p.0 g p.2)

pub gen_found : (further : List (List ℕ)) (g : GenRequest) → gen_of further ≡ Some g → IsGeneration (codes "gen" ∷ further) g
gen_found further g e =
    let (a, are, parts) = parts_found further g e in
    record {
      further = further;
      named = refl;
      n = nth a 0;
      seed_word = nth a 1;
      arguments = subst (AreArguments further) parts.two are;
      classes = parts.classes;
      seed = parts.seed;
      in_range = parts.in_range;
    }

-- ---- what is spelled is read

in_range_test : (g : GenRequest) → IsInRange g → (nat_le 1 g.classes && nat_le g.classes MAX_SOURCE_CLASSES) ≡ true
in_range_test g h =
    let some : nat_le 1 g.classes ≡ true = grind (arith, nat_tests, h.some) in
    let few : nat_le g.classes MAX_SOURCE_CLASSES ≡ true = grind (arith, nat_tests, h.few) in
    and_from (nat_le 1 g.classes) (nat_le g.classes MAX_SOURCE_CLASSES) some few

from_again : (n seed : List ℕ) (g : GenRequest) → Writes n g.classes → Writes seed g.seed → IsInRange g → gen_from (n ∷ seed ∷ []) ≡ Some g
unfolding gen_from
from_again n seed g first second range =
    ap (λ o. o >>= gen_with (n ∷ seed ∷ [])) (number_again n g.classes first)
    ∙ ap (λ o. o >>= with_seed g.classes) (number_again seed g.seed second)
    ∙ when_holds (nat_le 1 g.classes && nat_le g.classes MAX_SOURCE_CLASSES) g (in_range_test g range)

pub gen_again : (words : List (List ℕ)) (g : GenRequest) → (h : IsGeneration words g) → gen_of h.further ≡ Some g
unfolding gen_of
gen_again words g h =
    ap (λ o. o >>= gen_from) (arguments_again h.further (h.n ∷ h.seed_word ∷ []) h.arguments)
    ∙ from_again h.n h.seed_word g h.classes h.seed h.in_range

-- ---- what is read of words that have two arguments, and of words that haven't

pub gen_read : (further arguments : List (List ℕ)) → HasArguments Generation further arguments → gen_of further ≡ gen_from arguments
unfolding gen_of
gen_read further arguments h = ap (λ o. o >>= gen_from) (arguments_again further arguments h.0)

pub gen_unread : (further : List (List ℕ)) → ((arguments : List (List ℕ)) → HasArguments Generation further arguments → ⊥) → gen_of further ≡ None
gen_unread further none = by (gen_of further) refl
  where
    by : (o : Option GenRequest) → gen_of further ≡ o → o ≡ None
    by None e = refl
    by (Some g) e =
        let (a, are, parts) = parts_found further g e in
        absurd (none a (are, eq-eqb (length a) 2 (ap length parts.two)))

-- what two arguments ask for
pub from_two : (arguments : List (List ℕ)) → length arguments ≡ 2 → gen_from arguments ≡ number_of (nth arguments 0) >>= gen_with arguments
unfolding gen_from
from_two arguments l = ap (λ b. cond b (number_of (nth arguments 0) >>= gen_with arguments) None) (eq-eqb (length arguments) 2 l)
