use Rattle.std.proofs.Common.{◌++◌, sym, ◌∙◌, ap, append_assoc}
use Rattle.std.proofs.lemmas.List.{map-id}
use Rattle.std.proofs.lemmas.Iterator.{YieldsList-from_chars}
use Rattle.std.proofs.lemmas.Iterator.Consumers.{YieldsList-end}
use Rattle.xmi_text.specs.Writing.{escaped, escaped_character}
use Rattle.xmi_text.proofs.writing.Literals.{escaped-push}
use Rattle.xmi_text.proofs.writer.escape.Goals as goal

-- one more character
pub loop-c-preserved : goal.loop-c-preserved
loop-c-preserved c =
    c.in_ok-push_escaped.ensures
    ∙ ap (λ p. p ++ escaped_character c.in-Some.c) c.loop-c.invariant
    ∙ append_assoc c.args.piece.now (escaped c.loop-c.yielded) (escaped_character c.in-Some.c)
    ∙ ap (λ r. c.args.piece.now ++ r) (sym (escaped-push c.loop-c.yielded c.in-Some.c))

-- all of them
pub returns : goal.returns
returns c = let t = YieldsList-end (YieldsList-from_chars c.args.text.now c.utf8.text cc) c.loop-c.yielded _ c.loop-c.yielded_by _ _ c.in-None.is c.next.ensures.steps in
    c.loop-c.invariant ∙ ap (λ cs. c.args.piece.now ++ escaped cs) (sym (map-id c.loop-c.yielded) ∙ t.0)
