use Rattle.std.proofs.Common.{ℕ, List, [], Option, ◌∙◌, ap, sym}
use Rattle.std.specs.Prelude.{encode_utf8_all}
use Rattle.std.specs.Option.{unwrap_or}
use Rattle.std.proofs.lemmas.Str.{encodes-chars}
use Rattle.answer_texts.proofs.telling.identifier.Goals as goal

pub returns-then-is_live : goal.returns-then-is_live
returns-then-is_live c =
    sym (encodes-chars c.id_of.result.now c.id_of.utf8) ∙ ap (λ (id : Option (List ℕ)). encode_utf8_all (unwrap_or id [])) (sym c.id_of.ensures)
