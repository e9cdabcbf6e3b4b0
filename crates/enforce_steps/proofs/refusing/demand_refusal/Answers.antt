use Rattle.std.specs.Prelude.{◌≡◌, List, IfOk}
use Rattle.std.proofs.Common.{sym, subst}
use Rattle.repair_semantics.specs.declared.entry.EntryName.{EntryName}
use Rattle.answer_texts.specs.AskedView.{asked_view}
use Rattle.entry_texts.specs.EntryTexts.{conflict_text, entry_cycle_text, entry_deep_text, unmet_text}
use Rattle.enforce_steps.specs.declared.cause.Cause.TheVariants as causes
use Rattle.enforce_steps.specs.declared.cause.StepError.{StepError}
use Rattle.enforce_steps.specs.Endings.{OnRefusal}
use Rattle.enforce_steps.specs.EnforceAnswer.{DemandsStop, cyclic, deep, unmet, conflict}
use Rattle.enforce_steps.proofs.RefusalLaws.{refusal_is}
use Rattle.enforce_steps.proofs.refusing.demand_refusal.Goals as goal

pub returns-in-Cycle : goal.returns-in-Cycle
returns-in-Cycle c =
    let q = asked_view c.args.asked.now in
    let chain = c.in-Cycle.chain in
    subst (λ (e : StepError). OnRefusal e (DemandsStop q)) (sym c.refusal.ensures)
    (refusal_is causes.Chain c.entry_cycle_text.result (entry_cycle_text q chain) (DemandsStop q)
    (subst (λ (xs : List EntryName). IfOk c.entry_cycle_text.result (λ t. t ≡ entry_cycle_text q xs)) c.as_slice.ensures c.entry_cycle_text.ensures)
    (cyclic c.requires.enforceable chain (rw c.in-Cycle.is at c.requires.refusal)))

pub returns-in-Deep : goal.returns-in-Deep
returns-in-Deep c =
    let q = asked_view c.args.asked.now in
    let chain = c.in-Deep.chain in
    subst (λ (e : StepError). OnRefusal e (DemandsStop q)) (sym c.refusal-in-Deep.ensures)
    (refusal_is causes.Chain c.entry_deep_text.result (entry_deep_text q chain) (DemandsStop q)
    (subst (λ (xs : List EntryName). IfOk c.entry_deep_text.result (λ t. t ≡ entry_deep_text q xs)) c.as_slice-in-Deep.ensures c.entry_deep_text.ensures)
    (deep c.requires.enforceable chain (rw c.in-Deep.is at c.requires.refusal)))

pub returns-in-Unmet : goal.returns-in-Unmet
returns-in-Unmet c =
    let q = asked_view c.args.asked.now in
    let is = rw c.in-Unmet.is at c.requires.refusal in
    subst (λ (e : StepError). OnRefusal e (DemandsStop q)) (sym c.refusal-in-Unmet.ensures)
    (refusal_is causes.Unmet c.unmet_text.result (unmet_text q c.in-Unmet.entry c.in-Unmet.place) (DemandsStop q) c.unmet_text.ensures
    (unmet c.requires.enforceable c.in-Unmet.entry c.in-Unmet.place is.0 is.1))

pub returns-in-Conflict : goal.returns-in-Conflict
returns-in-Conflict c =
    let q = asked_view c.args.asked.now in
    subst (λ (e : StepError). OnRefusal e (DemandsStop q)) (sym c.refusal-in-Conflict.ensures)
    (refusal_is causes.Conflict c.conflict_text.result (conflict_text q c.in-Conflict.clash) (DemandsStop q) c.conflict_text.ensures
    (conflict c.requires.enforceable c.in-Conflict.clash (rw c.in-Conflict.is at c.requires.refusal)))
