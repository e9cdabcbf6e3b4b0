-- The characters of a word that faults name.
use Rattle.std.proofs.Common.{◌≡◌, codes, refl}
use Rattle.std.specs.Str.{chars}

pub if_characters : chars (codes "if") ≡ codes "if"
unfolding chars
if_characters = refl
