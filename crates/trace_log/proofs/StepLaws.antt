-- Steps of paths, and what is read of lists.
use Rattle.std.proofs.Common.{◌≡◌, ℕ, ◌<◌, ◌^◌, [], refl, chars}
use Rattle.std.specs.Str as texts
use Rattle.std.specs.Fmt.{decimal}
use Rattle.std.proofs.lemmas.Str.{chars-IsAscii}
use Rattle.std.proofs.lemmas.Fmt.{IsAscii-decimal}

pub decimal_characters : (n : ℕ) → n < 2 ^ 64 → chars (decimal n) ≡ decimal n
decimal_characters n h = chars-IsAscii (decimal n) (IsAscii-decimal n h)

pub no_characters : texts.chars [] ≡ []
unfolding texts.chars
no_characters = refl
