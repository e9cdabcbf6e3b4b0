use Rattle.std.proofs.Common.{◌∙◌, sym, ap, subst}
use Rattle.std.specs.Prelude.{Option, Result}
use Rattle.mof_metamodel.specs.Giving.{Gives}
use Rattle.xmi_text.specs.declared.mark.Mark.{Mark}
use Rattle.xmi_text.specs.declared.error.TextError.{TextError}
use Rattle.xmi_profile.specs.Bytes.{next_of, text_fault, behind_next}
use Rattle.xmi_profile.proofs.ByteLaws.{said, given, counted}
use Rattle.xmi_profile.proofs.reading.next_mark.Goals as goal

pub mark_of-requires : goal.mark_of-requires
mark_of-requires c = said c.args.reader.now c.next-answer.result c.requires c.next-answer.ensures.answer

pub returns-clause-gives : goal.returns-clause-gives
returns-clause-gives c =
    subst (λ (r : Result (Option Mark) TextError). Gives text_fault (λ (mark : Option Mark). mark) r (next_of c.args.reader.now)) (sym c.mark_of.ensures)
    (given c.args.reader.now c.next-answer.result c.requires c.next-answer.ensures.answer)

pub returns-clause-behind : goal.returns-clause-behind
returns-clause-behind c =
    c.next-answer.ensures.behind
    ∙ counted c.args.reader.now c.next-answer.result (said c.args.reader.now c.next-answer.result c.requires c.next-answer.ensures.answer)
    ∙ ap (λ (r : Result (Option Mark) TextError). behind_next r c.args.reader.now) (sym c.mark_of.ensures)
