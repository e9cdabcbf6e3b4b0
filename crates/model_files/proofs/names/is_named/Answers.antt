use Rattle.std.proofs.Common.{◌∙◌, ap, chars}
use Rattle.mof_metamodel.specs.Characters.{same_name}
use Rattle.mof_metamodel.proofs.NameLemmas.{named_bytes}
use Rattle.model_files.proofs.AsciiLaws.{ascii_characters}
use Rattle.model_files.proofs.names.is_named.Goals as goal

pub returns : goal.returns
returns c =
    c.eq.ensures ∙ named_bytes c.args.name.now c.args.text.now c.utf8.name c.utf8.text
    ∙ ap (same_name (chars c.args.name.now)) (ascii_characters c.args.text.now c.requires)
