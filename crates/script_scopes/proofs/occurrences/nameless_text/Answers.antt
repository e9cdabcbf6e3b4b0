use Rattle.std.proofs.Common.{◌<◌, ◌^◌, ◌∷◌, ap, ◌∙◌, arith, lit<}
use Rattle.std.specs.Str.{chars}
use Rattle.std.specs.Fmt.{decimal}
use Rattle.std.proofs.lemmas.Str.{chars-IsAscii}
use Rattle.std.proofs.lemmas.Str.Ascii.{IsAscii-cons}
use Rattle.std.proofs.lemmas.Fmt.{IsAscii-decimal}
use Rattle.script_scopes.proofs.occurrences.nameless_text.Goals as goal

pub returns : goal.returns
returns c =
    let small : c.args.k < 2 ^ 64 = omega (arith, c.ranges.k.fits) in
    c.from_string.ensures.characters ∙ ap chars c.in_ok-text.ensures.ok ∙ chars-IsAscii (0 ∷ decimal c.args.k) (IsAscii-cons 0 (decimal c.args.k) (lit< tt) (IsAscii-decimal c.args.k small))
