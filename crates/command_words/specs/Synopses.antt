-- Which arguments a command has: each has to be there, and nothing else may.
use Rattle.std.specs.Prelude.{◌≡◌, ℕ, Bool, true, false, ◌==◌, nat_le, List, [], ◌∷◌, length, codes, if◌then◌else◌}
use Rattle.command_words.specs.Arguments.{AreArguments}
use Rattle.command_words.specs.declared.synopsis.Synopsis.{Synopsis}
use Rattle.command_words.specs.declared.synopsis.Synopsis.TheVariants.{Models, Conversion, Generation}

abbrev pub names_of : Synopsis → List (List ℕ)
names_of Models = codes "SCRIPT" ∷ codes "TARGET" ∷ codes "NAME=PATH" ∷ []
names_of Conversion = codes "FORM" ∷ codes "META" ∷ codes "IN" ∷ codes "OUT" ∷ []
names_of Generation = codes "N" ∷ codes "SEED" ∷ []

-- the last argument may stand more than once
abbrev pub is_open : Synopsis → Bool
is_open Models = true
is_open Conversion = false
is_open Generation = false

-- the command has so many arguments
abbrev pub has_count : Synopsis → ℕ → Bool
has_count synopsis n = if is_open synopsis then nat_le (length (names_of synopsis)) n else n == length (names_of synopsis)

-- these are the arguments of the command in the words behind its name
abbrev pub HasArguments : Synopsis → List (List ℕ) → List (List ℕ) → Type 0
HasArguments synopsis words arguments = AreArguments words arguments × (has_count synopsis (length arguments) ≡ true)
