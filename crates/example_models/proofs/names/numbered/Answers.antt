use Rattle.std.proofs.Common.{ap, ◌∙◌, ◌++◌, arith, chars, decimal}
use Rattle.std.proofs.lemmas.Fmt.{IsAscii-decimal}
use Rattle.std.proofs.lemmas.Str.{chars-IsAscii, IsAscii-append}
use Rattle.example_models.proofs.AsciiLaws.{below}
use Rattle.example_models.proofs.names.numbered.Goals as goal

pub returns : goal.returns
returns c = c.from_string.ensures.characters ∙ ap chars c.in_ok-format.ensures.ok
    ∙ chars-IsAscii (c.args.text.now ++ decimal c.args.number)
    (IsAscii-append c.args.text.now (decimal c.args.number) (below c.args.text.now c.requires) (IsAscii-decimal c.args.number (omega (arith, c.ranges.number.fits))))
