use Rattle.std.proofs.Common.{◌≡◌}
use Rattle.std.specs.List.{fold}
use Rattle.xmi_profile.specs.WordList.{words_on}
use Rattle.xmi_profile.proofs.words.take_all.Given as goal

abbrev pub invariant-loop-c : goal.invariant-loop-c
invariant-loop-c l = l.words ≡ fold words_on l.initial.words l.yielded
