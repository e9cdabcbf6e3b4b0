use Rattle.std.proofs.Common.{ap, ◌∙◌, List, ◌∷◌, ℕ, zero, suc, ◌<◌, arith, chars, decimal, IsAscii}
use Rattle.std.proofs.lemmas.Fmt.{IsAscii-decimal}
use Rattle.std.proofs.lemmas.Str.{chars-IsAscii}
use Rattle.made_objects.proofs.identifiers.numbered.Goals as goal

ascii_next : (b : ℕ) (bs : List ℕ) → b < 128 → IsAscii bs → IsAscii (b ∷ bs)
ascii_next b bs first rest zero = first
ascii_next b bs first rest (suc i) = rest i

pub returns : goal.returns
returns c = c.from_string.ensures.characters ∙ ap chars c.in_ok-format.ensures.ok
    ∙ chars-IsAscii (110 ∷ decimal c.args.number)
    (ascii_next 110 (decimal c.args.number) (omega arith) (IsAscii-decimal c.args.number (omega (arith, c.ranges.number.fits))))
