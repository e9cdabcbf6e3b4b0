use Rattle.std.proofs.Common.{◌≡◌, ◌++◌, sym, ap, ◌∙◌}
use Rattle.std.specs.List.{flat_map}
use Rattle.std.proofs.lemmas.List.{map-id}
use Rattle.std.proofs.lemmas.Iterator.{YieldsList-from_chars}
use Rattle.std.proofs.lemmas.Iterator.Consumers.{YieldsList-end}
use Rattle.answer_texts.specs.AnswerTexts.{escaped}
use Rattle.answer_texts.proofs.quoting.push_all_escaped.Goals as goal

pub returns : goal.returns
returns c =
    let e = YieldsList-end (YieldsList-from_chars c.as_str.result.now c.as_str.utf8 cc) c.loop-character.yielded _ c.loop-character.yielded_by _ _ c.in-None.is c.next.ensures.steps in
    let all : c.loop-character.yielded ≡ c.args.text.now = sym (map-id c.loop-character.yielded) ∙ e.0 ∙ c.as_str.ensures.characters in
    c.loop-character.invariant ∙ ap (λ cs. c.args.written.now ++ flat_map escaped cs) all
