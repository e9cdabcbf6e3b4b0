-- The words of `gen`.
use Rattle.std.specs.Prelude.{◌≡◌, ◌≤◌, ◌<◌, ℕ, Bool, true, ◌&&◌, ◌==◌, nat_le, List, [], ◌∷◌, length, codes, Option, None, if◌then◌else◌}
use Rattle.std.specs.Str.{all_ascii_digits}
use Rattle.std.specs.Str.Parse.{digits_value}
use Rattle.command_words.specs.Arguments.{AreArguments, arguments_of}
use Rattle.example_models.specs.declared.limits.TheConstants.{MAX_SOURCE_CLASSES, SEEDS}
use Rattle.qvtr_engine.specs.declared.gen_words.TheConstants.{MAX_DIGITS}
use Rattle.qvtr_engine.specs.declared.gen_words.GenRequest.{GenRequest}
use Rattle.qvtr_engine.specs.Reading.{◌>>=◌, when_true, nth}

-- one to nine decimal digits
abbrev pub is_numeral : List ℕ → Bool
is_numeral word = nat_le 1 (length word) && (nat_le (length word) MAX_DIGITS && all_ascii_digits word)

-- the word is a numeral of the number; it may begin with zeros
pub record Writes (word : List ℕ) (n : ℕ) : Type 0 where
  pub numeral : is_numeral word ≡ true
  pub value : n ≡ digits_value 10 word

-- there are such sources
pub record IsInRange (g : GenRequest) : Type 0 where
  pub some : 1 ≤ g.classes
  pub few : g.classes ≤ MAX_SOURCE_CLASSES
  pub seed : g.seed < SEEDS

-- The words are `gen N SEED`.
pub record IsGeneration (words : List (List ℕ)) (g : GenRequest) : Type 0 where
  pub further : List (List ℕ)
  pub named : words ≡ codes "gen" ∷ further
  pub n : List ℕ
  pub seed_word : List ℕ
  pub arguments : AreArguments further (n ∷ seed_word ∷ [])
  pub classes : Writes n g.classes
  pub seed : Writes seed_word g.seed
  pub in_range : IsInRange g

-- They are read from the front.

abbrev pub number_of : List ℕ → Option ℕ
number_of word = when_true (is_numeral word) (digits_value 10 word)

abbrev pub with_seed : ℕ → ℕ → Option GenRequest
with_seed n seed = when_true (nat_le 1 n && nat_le n MAX_SOURCE_CLASSES) (record { classes = n; seed = seed })

abbrev pub gen_with : List (List ℕ) → ℕ → Option GenRequest
gen_with arguments n = number_of (nth arguments 1) >>= with_seed n

unfoldable pub gen_from : List (List ℕ) → Option GenRequest
gen_from arguments = if length arguments == 2 then number_of (nth arguments 0) >>= gen_with arguments else None

-- the words behind the command's name
unfoldable pub gen_of : List (List ℕ) → Option GenRequest
gen_of further = arguments_of further >>= gen_from
