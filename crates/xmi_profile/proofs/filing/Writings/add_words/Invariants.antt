use Rattle.std.proofs.Common.{◌≡◌, drop}
use Rattle.xmi_profile.specs.Filing.{with_words}
use Rattle.xmi_profile.proofs.filing.Writings.add_words.Given as goal

abbrev pub invariant-loop-word : goal.invariant-loop-word
invariant-loop-word l =
    with_words l.filer.numbers.now l.self l.slot.object l.slot.property.0 (drop l.word-index l.words)
    ≡ with_words l.filer.numbers.now l.initial.self l.slot.object l.slot.property.0 l.words
