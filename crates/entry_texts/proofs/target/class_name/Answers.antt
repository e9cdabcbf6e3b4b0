use Rattle.std.proofs.Common.{◌∙◌, ap, sym}
use Rattle.std.specs.Prelude.{encode_utf8_all}
use Rattle.std.proofs.lemmas.Str.{encodes-chars}
use Rattle.entry_texts.proofs.target.class_name.Goals as goal

pub returns-then-class-class_count : goal.returns-then-class-class_count
returns-then-class-class_count c = sym (encodes-chars c.class_name.result.now c.class_name.utf8) ∙ ap encode_utf8_all c.class_name.ensures
