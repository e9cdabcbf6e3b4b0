use Rattle.std.proofs.Common.{sym, ◌∙◌, chars}
use Rattle.model_files.proofs.BoundLaws.{with_digits, without_digits}
use Rattle.model_files.proofs.bounds.spelled_bound.Goals as goal

pub returns-then-has_character : goal.returns-then-has_character
returns-then-has_character c = c.read_digits.ensures ∙ with_digits (chars c.args.text.now) (sym c.has_character.ensures ∙ c.if-has_character.true)

pub returns-else-has_character : goal.returns-else-has_character
returns-else-has_character c = without_digits (chars c.args.text.now) (sym c.has_character.ensures ∙ c.if-has_character.false)
