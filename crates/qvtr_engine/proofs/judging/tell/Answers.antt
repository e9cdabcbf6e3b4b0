use Rattle.std.proofs.Common.{◌≡◌, get_or, ◌∙◌, ap, subst}
use Rattle.answer_texts.specs.AskedView.{asked_view}
use Rattle.answer_texts.specs.AnswerTexts.{failing_text}
use Rattle.qvtr_engine.specs.CheckedRelations.{yes}
use Rattle.qvtr_engine.proofs.JudgingLaws.{told_no}
use Rattle.qvtr_engine.proofs.judging.tell.Goals as goal

pub returns-in-Yes : goal.returns-in-Yes
returns-in-Yes c = yes (rw c.in-Yes.is at c.requires)

pub returns-in_ok-text-in-No : goal.returns-in_ok-text-in-No
returns-in_ok-text-in-No c =
    let q = asked_view c.args.asked.now in
    let n = c.in-No.relation in
    let b = c.in-No.binding.values in
    let rel = c.index-as_slice-relation.result in
    let told : c.in_ok-text-in-No.text ≡ failing_text q rel b =
    subst (λ values. c.in_ok-text-in-No.text ≡ failing_text q rel values) c.as_slice-in-No.ensures c.in_ok-text-in-No.ensures in
    told_no q n b rel c.in_ok-text-in-No.text (rw c.in-No.is at c.requires)
    (told ∙ ap (λ r. failing_text q r b) (c.index-as_slice-relation.is ∙ ap (λ xs. get_or xs n rel) c.as_slice.ensures))
