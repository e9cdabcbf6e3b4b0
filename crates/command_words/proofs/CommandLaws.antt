-- What clap answers to arguments, by their count.
use Rattle.std.proofs.Common.{◌≡◌, ℕ, suc, ◌<◌, ◌≤◌, true, false, cond, List, [], ◌∷◌, ◌++◌, length, refl, sym, ◌∙◌, ap, arith, true≢false, append-nil, append_assoc, Option, Some, None, codes}
use Rattle.std.specs.Prelude.{◌==◌, nat_lt, fold}
use Rattle.std.specs.List.{list_all}
use Rattle.std.proofs.lemmas.Bool.Decides.{nat_tests}
use Rattle.clap.specs.Lexer.{usize_max}
use Rattle.clap.specs.Walk.{Held, Row, Text, finished, idle, nothing_held, positional, reading_by, settled, walk, walked}
use Rattle.clap.specs.Kinds.{Kinds, or_else, range_kinds, values_kinds}
use Rattle.clap.specs.Faults.{check_fault, defaults_fault, entered_fault, fault_of, is_simple_and_free, level_fault, settle_fault, walk_fault}
use Rattle.clap.specs.Simple.{Shape, built, entered, is_simple, matches_of}
use Rattle.clap.specs.declared.error.kind.ErrorKind.{ErrorKind}
use Rattle.clap.specs.declared.error.kind.ErrorKind.TheVariants as kind
use Rattle.clap.specs.declared.builder.value_parser.ValueParser.TheVariants as vp
use Rattle.clap.specs.declared.parser.matches.ValueSource.TheVariants.{CommandLine}
use Rattle.std.specs.Prelude.{is_some}
use Rattle.command_words.specs.Arguments.{arguments_of}
use Rattle.command_words.specs.Commands.{command_of, one, values_in}
use Rattle.command_words.specs.Synopses.{has_count, names_of}
use Rattle.command_words.specs.declared.synopsis.Synopsis.{Synopsis}
use Rattle.command_words.specs.declared.synopsis.Synopsis.TheVariants.{Models, Conversion, Generation}
use Rattle.command_words.proofs.WordLaws.{is_plain}
use Rattle.command_words.proofs.WalkLaws.{AllText, Place, WalksOver, faults, last_place, walk_at, words_walked}

abbrev pub shape_of : Synopsis → Shape
shape_of synopsis = (built (command_of synopsis)).top

pub is_simple_command : (synopsis : Synopsis) → is_simple_and_free (command_of synopsis) ≡ true
is_simple_command Models = refl
is_simple_command Conversion = refl
is_simple_command Generation = refl

pub is_simple_one : (synopsis : Synopsis) → is_simple (command_of synopsis) ≡ true
is_simple_one Models = refl
is_simple_one Conversion = refl
is_simple_one Generation = refl

all_plain : (synopsis : Synopsis) → list_all is_plain (shape_of synopsis).rules ≡ true
all_plain Models = refl
all_plain Conversion = refl
all_plain Generation = refl

abbrev start : Place
start = record { held = nothing_held; waiting = idle; position = 1 }

-- ---- after the walk

-- why what is held at the end of the walk is refused
abbrev last_fault : Shape → Held → Kinds
last_fault s h = or_else (settle_fault s.rules s.args_override_self h)
    (or_else (defaults_fault (settled s.rules h).rows s.rules) (check_fault s (finished s.rules h) false))

-- why the arguments are refused
abbrev pub refused : Synopsis → List Text → Kinds
refused synopsis arguments =
    or_else (faults (shape_of synopsis) start arguments) (last_fault (shape_of synopsis) (last_place (shape_of synopsis).rules start arguments).held)

-- what is found for them
abbrev pub found : Synopsis → List Text → List Row
found synopsis arguments = finished (shape_of synopsis).rules (last_place (shape_of synopsis).rules start arguments).held

fails : (k : ErrorKind) → k ∷ [] ≡ [] → ⊥
fails k e = cc

no_count : (synopsis : Synopsis) (n : ℕ) → has_count synopsis n ≡ false → has_count synopsis n ≡ true → ⊥
no_count synopsis n short full = true≢false (sym full ∙ short)

-- ---- arguments of a fixed count

five : (n : ℕ) → has_count Conversion (suc (suc (suc (suc (suc n))))) ≡ false
five n = grind (arith, nat_tests)

three : (n : ℕ) → has_count Generation (suc (suc (suc n))) ≡ false
three n = grind (arith, nat_tests)

conversion_refused : (arguments : List Text) → has_count Conversion (length arguments) ≡ false → refused Conversion arguments ≡ [] → ⊥
unfolding defaults_fault
conversion_refused [] h e = fails kind.MissingRequiredArgument e
conversion_refused (a ∷ []) h e = fails kind.MissingRequiredArgument e
conversion_refused (a ∷ b ∷ []) h e = fails kind.MissingRequiredArgument e
conversion_refused (a ∷ b ∷ c ∷ []) h e = fails kind.MissingRequiredArgument e
conversion_refused (a ∷ b ∷ c ∷ d ∷ []) h e = absurd (true≢false h)
conversion_refused (a ∷ b ∷ c ∷ d ∷ e ∷ rest) h f = fails kind.UnknownArgument f

generation_refused : (arguments : List Text) → has_count Generation (length arguments) ≡ false → refused Generation arguments ≡ [] → ⊥
unfolding defaults_fault
generation_refused [] h e = fails kind.MissingRequiredArgument e
generation_refused (a ∷ []) h e = fails kind.MissingRequiredArgument e
generation_refused (a ∷ b ∷ []) h e = absurd (true≢false h)
generation_refused (a ∷ b ∷ c ∷ rest) h e = fails kind.UnknownArgument e

-- the arguments aren't refused, and they are what is found
abbrev pub IsFound : Synopsis → List Text → Type 0
IsFound synopsis arguments = (refused synopsis arguments ≡ []) × (values_in (found synopsis arguments) (names_of synopsis) ≡ arguments)

conversion_found : (arguments : List Text) → has_count Conversion (length arguments) ≡ true → IsFound Conversion arguments
unfolding defaults_fault
conversion_found [] h = absurd (true≢false (sym h))
conversion_found (a ∷ []) h = absurd (true≢false (sym h))
conversion_found (a ∷ b ∷ []) h = absurd (true≢false (sym h))
conversion_found (a ∷ b ∷ c ∷ []) h = absurd (true≢false (sym h))
conversion_found (a ∷ b ∷ c ∷ d ∷ []) h = (refl, refl)
conversion_found (a ∷ b ∷ c ∷ d ∷ e ∷ rest) h = absurd (no_count Conversion (suc (suc (suc (suc (suc (length rest)))))) (five (length rest)) h)

generation_found : (arguments : List Text) → has_count Generation (length arguments) ≡ true → IsFound Generation arguments
unfolding defaults_fault
generation_found [] h = absurd (true≢false (sym h))
generation_found (a ∷ []) h = absurd (true≢false (sym h))
generation_found (a ∷ b ∷ []) h = (refl, refl)
generation_found (a ∷ b ∷ c ∷ rest) h = absurd (no_count Generation (suc (suc (suc (length rest)))) (three (length rest)) h)

-- ---- arguments of which the last may stand more than once

enough : (n : ℕ) → has_count Models (suc (suc (suc n))) ≡ true
enough n = grind (arith, nat_tests)

models_refused : (arguments : List Text) → has_count Models (length arguments) ≡ false → refused Models arguments ≡ [] → ⊥
unfolding defaults_fault
models_refused [] h e = fails kind.MissingRequiredArgument e
models_refused (a ∷ []) h e = fails kind.MissingRequiredArgument e
models_refused (a ∷ b ∷ []) h e = fails kind.MissingRequiredArgument e
models_refused (a ∷ b ∷ c ∷ rest) h e = no_count Models (suc (suc (suc (length rest)))) h (enough (length rest))

-- what is found for an argument with one value
abbrev row : Text → Text → Row
row name word = record {
  id = name;
  values = word ∷ [];
  count = None;
  source = Some CommandLine;
  reading = reading_by (one name);
}

-- where the walk stands when the last argument has these values
abbrev open_place : Text → Text → List Text → Place
open_place a b values = record {
  held = record {
    rows = row (codes "SCRIPT") a ∷ row (codes "TARGET") b ∷ [];
    pending = Some (codes "NAME=PATH", values);
    skip = 0;
  };
  waiting = positional;
  position = 3;
}

abbrev models : Shape
models = shape_of Models

more_values : (a b : Text) (values rest : List Text)
    → (faults models (open_place a b values) rest ≡ []) × (last_place models.rules (open_place a b values) rest ≡ open_place a b (values ++ rest))
more_values a b values [] = (refl, ap (open_place a b) (sym (append-nil values)))
more_values a b values (word ∷ rest) =
    let more = more_values a b (values ++ word ∷ []) rest in
    (more.0, more.1 ∙ ap (open_place a b) (append_assoc values (word ∷ []) rest))

range_passes : (n : ℕ) → 0 < n → n ≤ usize_max → range_kinds 1 usize_max n ≡ []
range_passes n some most =
    let zero_is : (n == 0) ≡ false = grind (arith, nat_tests, some) in
    let few_is : nat_lt n 1 ≡ false = grind (arith, nat_tests, some) in
    let many_is : nat_lt usize_max n ≡ false = grind (arith, nat_tests, most) in
    λ i. cond (zero_is i) (kind.InvalidValue ∷ []) (cond (few_is i) (kind.TooFewValues ∷ []) (cond (many_is i) (kind.TooManyValues ∷ []) []))

texts_pass : (values : List Text) → values_kinds false vp.String values ≡ []
texts_pass [] = refl
texts_pass (v ∷ vs) = texts_pass vs

open_passes : (a b c : Text) (rest : List Text) → length (c ∷ rest) ≤ usize_max → last_fault models (open_place a b (c ∷ rest)).held ≡ []
unfolding defaults_fault
open_passes a b c rest most =
    let range : range_kinds 1 usize_max (length (c ∷ rest)) ≡ [] = range_passes (length (c ∷ rest)) (omega arith) most in
    λ i. or_else (or_else (range i) (texts_pass rest i)) []

models_found : (arguments : List Text) → length arguments ≤ usize_max → has_count Models (length arguments) ≡ true → IsFound Models arguments
models_found [] most h = absurd (true≢false (sym h))
models_found (a ∷ []) most h = absurd (true≢false (sym h))
models_found (a ∷ b ∷ []) most h = absurd (true≢false (sym h))
models_found (a ∷ b ∷ c ∷ rest) most h =
    let more = more_values a b (c ∷ []) rest in
    let fewer : length (c ∷ rest) ≤ usize_max = omega (arith, most) in (
      (λ i. or_else (more.0 i) (last_fault models (more.1 i).held)) ∙ open_passes a b c rest fewer,
      ap (λ g. values_in (finished models.rules g.held) (names_of Models)) more.1 ∙ ap (λ xs. a ∷ b ∷ xs) (append-nil (c ∷ rest)),
    )

-- ---- any arguments

pub count_refused : (synopsis : Synopsis) (arguments : List Text) → has_count synopsis (length arguments) ≡ false → refused synopsis arguments ≡ [] → ⊥
count_refused Models arguments h e = models_refused arguments h e
count_refused Conversion arguments h e = conversion_refused arguments h e
count_refused Generation arguments h e = generation_refused arguments h e

pub count_found : (synopsis : Synopsis) (arguments : List Text) → length arguments ≤ usize_max → has_count synopsis (length arguments) ≡ true
    → IsFound synopsis arguments
count_found Models arguments most h = models_found arguments most h
count_found Conversion arguments most h = conversion_found arguments h
count_found Generation arguments most h = generation_found arguments h

-- ---- the words

-- where the walk over words ends
abbrev walk_end : Synopsis → List Text → Held
walk_end synopsis words = (fold (walked (shape_of synopsis).rules []) (walk_at start false) words).held

abbrev stop_of : Synopsis → List Text → Option (Text × List Text)
stop_of synopsis words = (walk (shape_of synopsis).rules [] nothing_held words).stopped

abbrev walk_refused : Synopsis → List Text → Kinds
walk_refused synopsis words = walk_fault (shape_of synopsis) [] (walk_at start false) words

-- no subcommand is entered
abbrev NoneEntered : Synopsis → List Text → Option (Text × List Text) → Type 0
NoneEntered synopsis words stop = let a = built (command_of synopsis) in
    level_fault a.top [] nothing_held words (is_some (entered a stop)) (entered_fault a stop)
    ≡ or_else (walk_refused synopsis words) (last_fault a.top (walk_end synopsis words))

none_entered : (synopsis : Synopsis) (words : List Text) (stop : Option (Text × List Text)) → NoneEntered synopsis words stop
none_entered Models words None = refl
none_entered Models words (Some p) = refl
none_entered Conversion words None = refl
none_entered Conversion words (Some p) = refl
none_entered Generation words None = refl
none_entered Generation words (Some p) = refl

fault_is : (synopsis : Synopsis) (words : List Text)
    → fault_of (command_of synopsis) words ≡ or_else (walk_refused synopsis words) (last_fault (shape_of synopsis) (walk_end synopsis words))
fault_is Models words = none_entered Models words (stop_of Models words)
fault_is Conversion words = none_entered Conversion words (stop_of Conversion words)
fault_is Generation words = none_entered Generation words (stop_of Generation words)

matches_are : (synopsis : Synopsis) (words : List Text)
    → matches_of (command_of synopsis) words ≡ finished (shape_of synopsis).rules (walk_end synopsis words)
matches_are Models words = refl
matches_are Conversion words = refl
matches_are Generation words = refl

first_nil : (a b : Kinds) → or_else a b ≡ [] → a ≡ []
first_nil [] b e = refl
first_nil (k ∷ ks) b e = let gone : k ∷ ks ≡ [] = e in cc

-- clap's answer to words, by the arguments in them
abbrev pub AnswersWith : Synopsis → List Text → Option (List Text) → Type 0
AnswersWith synopsis words None = fault_of (command_of synopsis) words ≡ [] → ⊥
AnswersWith synopsis words (Some arguments) = (fault_of (command_of synopsis) words ≡ refused synopsis arguments)
    × (matches_of (command_of synopsis) words ≡ found synopsis arguments)

pub answer_is : (synopsis : Synopsis) (words : List Text) → AllText words → AnswersWith synopsis words (arguments_of words)
answer_is synopsis words text =
    go (arguments_of words) (words_walked (shape_of synopsis) (all_plain synopsis) start words (refl, refl) text)
  where
    go : (read : Option (List Text)) → WalksOver (shape_of synopsis) false start words read → AnswersWith synopsis words read
    go None h = λ e.
        h (first_nil (walk_refused synopsis words) (last_fault (shape_of synopsis) (walk_end synopsis words)) (sym (fault_is synopsis words) ∙ e))
    go (Some arguments) h = (
      fault_is synopsis words ∙ (λ i. or_else (h.0 i) (last_fault (shape_of synopsis) (h.1 i))),
      matches_are synopsis words ∙ ap (finished (shape_of synopsis).rules) h.1,
    )
