-- A name that is printed one character after the other.
use Rattle.std.proofs.Common.{◌≡◌, ℕ, zero, suc, List, [], ◌∷◌, ◌++◌, refl}
use Rattle.std.specs.Str.{chars}
use Rattle.script_scopes.specs.Occurrences.{printed_name}
use Rattle.script_scopes.specs.PrintedNames.{printed_after}

pub printed_more : (name : List ℕ) (c : ℕ) → printed_after (printed_name name) c ≡ printed_name (name ++ c ∷ [])
printed_more [] zero = refl
printed_more [] (suc c) = refl
printed_more (zero ∷ name) c = refl
printed_more (suc x ∷ name) c = refl

pub no_characters : chars [] ≡ []
unfolding chars
no_characters = refl
