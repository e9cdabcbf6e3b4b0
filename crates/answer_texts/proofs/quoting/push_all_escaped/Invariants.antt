use Rattle.std.proofs.Common.{◌≡◌, ◌++◌}
use Rattle.std.specs.List.{flat_map}
use Rattle.answer_texts.specs.AnswerTexts.{escaped}
use Rattle.answer_texts.proofs.quoting.push_all_escaped.Given as goal

-- the characters so far are written
abbrev pub invariant-loop-character : goal.invariant-loop-character
invariant-loop-character l = l.written ≡ l.initial.written ++ flat_map escaped l.yielded
