use Rattle.std.proofs.Common.{sym, subst}
use Rattle.answer_texts.specs.AskedView.{asked_view}
use Rattle.entry_texts.specs.EntryTexts.{rule_text}
use Rattle.enforce_steps.specs.declared.cause.Cause.TheVariants as causes
use Rattle.enforce_steps.specs.declared.cause.StepError.{StepError}
use Rattle.enforce_steps.specs.Endings.{OnRefusal}
use Rattle.enforce_steps.specs.EnforceAnswer.{DemandsStop, not_enforceable}
use Rattle.enforce_steps.proofs.RefusalLaws.{refusal_is}
use Rattle.enforce_steps.proofs.refusing.rule_refusal.Goals as goal

pub returns : goal.returns
returns c =
    let q = asked_view c.args.asked.now in
    subst (λ (e : StepError). OnRefusal e (DemandsStop q)) (sym c.refusal.ensures)
    (refusal_is causes.NotEnforceable c.rule_text.result (rule_text q c.args.broken.now) (DemandsStop q) c.rule_text.ensures (not_enforceable c.args.broken.now c.requires))
