use Rattle.std.proofs.Common.{sym, ◌∙◌, ap}
use Rattle.std.specs.Prelude.{not, length, ◌==◌, chars}
use Rattle.std.proofs.lemmas.Str.{encodes-chars}
use Rattle.mof_metamodel.specs.TextLaws.{empty_same}
use Rattle.model_files.proofs.bounds.has_character.Goals as goal

pub returns : goal.returns
returns c = ap not (c.is_empty.ensures ∙ ap (λ bs. length bs == 0) (sym (encodes-chars c.args.text.now c.utf8.text)) ∙ empty_same (chars c.args.text.now))
