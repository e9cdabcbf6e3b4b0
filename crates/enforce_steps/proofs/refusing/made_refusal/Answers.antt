use Rattle.std.proofs.Common.{sym, subst}
use Rattle.enforce_steps.specs.declared.cause.Cause.TheVariants as causes
use Rattle.enforce_steps.specs.declared.cause.StepError.{StepError}
use Rattle.enforce_steps.specs.Endings.{OnRefusal, output_view}
use Rattle.enforce_steps.specs.StepTexts.{invalid_text, limit_text}
use Rattle.enforce_steps.specs.EnforceAnswer.{MadeStops}
use Rattle.enforce_steps.proofs.RefusalLaws.{refusal_is, known_breach, breach_stops, limit_stops}
use Rattle.enforce_steps.proofs.refusing.made_refusal.Goals as goal

pub invalid_text-requires : goal.invalid_text-requires
invalid_text-requires c =
    let r = c.requires in
    known_breach c.args.meta.now c.in-Invalid.breach c.in-Invalid.id r.0 r.1 (rw c.in-Invalid.is at r.2)

pub returns-in-Invalid : goal.returns-in-Invalid
returns-in-Invalid c = λ made is stands.
    let o = output_view c.args.output.now in
    subst (λ (e : StepError). OnRefusal e (MadeStops o made)) (sym c.refusal.ensures)
    (refusal_is causes.Invalid c.invalid_text.result (invalid_text c.args.meta.now c.in-Invalid.breach c.in-Invalid.id) (MadeStops o made) c.invalid_text.ensures
    (breach_stops c.args.meta.now o c.in-Invalid.breach c.in-Invalid.id made is (rw c.in-Invalid.is at stands)))

pub returns-in-Limit : goal.returns-in-Limit
returns-in-Limit c = λ made is stands.
    let o = output_view c.args.output.now in
    subst (λ (e : StepError). OnRefusal e (MadeStops o made)) (sym c.refusal-in-Limit.ensures)
    (refusal_is causes.Limit c.limit_text.result (limit_text o.path c.in-Limit.kind) (MadeStops o made) c.limit_text.ensures
    (limit_stops o c.in-Limit.kind made (rw c.in-Limit.is at stands)))
