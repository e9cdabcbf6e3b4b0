use Rattle.std.proofs.Common.{◌≡◌, ◌≤◌, true, false, length, sym, ◌∙◌, arith}
use Rattle.std.specs.Prelude.{◌==◌}
use Rattle.std.specs.Str.{all_ascii_digits}
use Rattle.qvtr_engine.proofs.GenWordLaws.{number_read}
use Rattle.qvtr_engine.proofs.gen_words.number_of.Goals as goal

pub returns : goal.returns
returns c =
    let word = c.args.word.now in
    let some : (length word == 0) ≡ false = sym c.is_empty.ensures ∙ c.if-is_empty.false in
    let long = c.if-word-gt-MAX_DIGITS.false in
    let few : length word ≤ 9 = omega (arith, long) in
    let digits : all_ascii_digits word ≡ true = cc in
    c.ok.ensures.value ∙ number_read word c.parse.result some few digits c.parse.ensures.value.0
