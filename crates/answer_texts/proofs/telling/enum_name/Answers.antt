use Rattle.std.proofs.Common.{◌∙◌, ap, sym}
use Rattle.std.specs.Prelude.{encode_utf8_all}
use Rattle.std.proofs.lemmas.Str.{encodes-chars}
use Rattle.answer_texts.proofs.telling.enum_name.Goals as goal

pub returns : goal.returns
returns c = sym (encodes-chars c.enum_name.result.now c.enum_name.utf8) ∙ ap encode_utf8_all c.enum_name.ensures
