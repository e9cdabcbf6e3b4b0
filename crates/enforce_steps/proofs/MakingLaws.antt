-- What is made of the target, from the demands on.
use Rattle.std.specs.Prelude.{◌≡◌, ◌<◌, ◌≤◌, ℕ, List, length, Some, slice_get}
use Rattle.std.proofs.Common.{sym, subst, inl, inr}
use Rattle.std.proofs.lemmas.Bool.{cases_lt}
use Rattle.object_tables.specs.declared.limit.TheConstants.{MAX_DEPTH}
use Rattle.object_tables.specs.Containment.{IsDepth}
use Rattle.object_tables.specs.Models.{ModelData, IsLive}
use Rattle.repair_semantics.specs.declared.report.Report.{Report}
use Rattle.repair_semantics.specs.Candidates.{candidate}
use Rattle.repair_semantics.specs.Reports.{IsReport}
use Rattle.demand_set.specs.DemandSets.{DemandData}
use Rattle.enforce_mode.specs.Made.{IsSound}
use Rattle.enforce_mode.specs.Reports.{EditData}
use Rattle.model_assembly.specs.Held.{IsHeldModel}
use Rattle.answer_texts.specs.Question.{Question}
use Rattle.enforce_steps.specs.declared.cause.Cause.TheVariants as causes
use Rattle.enforce_steps.specs.declared.cause.StepError.{StepError}
use Rattle.enforce_steps.specs.Endings.{Ended, refused, OutputData, OnRefusal}
use Rattle.enforce_steps.specs.StepTexts.{long_text, text_in}
use Rattle.enforce_steps.specs.EnforceAnswer.{DemandsEnd, EnforceAnswer, IsMade, MadeEnds, MadeStops, done, long}
use Rattle.enforce_steps.specs.Premises.{IsAskable}
use Rattle.enforce_steps.specs.Readied.{IsFitted, IsReady, IsTooLong, IsWritten}
use Rattle.enforce_steps.proofs.RefusalLaws.{refusal_wider}

module _ (q : Question) (m : ModelData) (d : DemandData) (target : slice_get q.models q.program.target ≡ Some m) (demanded : DemandsEnd q d) where
  -- the candidate is what is made
  pub is_made : (made : ModelData) → made ≡ candidate q.program m d.list → IsMade q made
  is_made made is = record { target = m; target_is = target; demands = d; demanded = demanded; made_is = is }

  pub is_ready : IsAskable q → (e : EditData) → e.made ≡ candidate q.program m d.list → IsSound e.made → IsReport q.program m d.list e.report → IsReady q e
  is_ready askable e made sound report = record {
    made = record { is_made = record { target = m; target_is = target; demands = d; demanded = demanded; made_is = made }; is_report = report; askable = askable };
    sound = sound;
  }

-- what comes of what is ready is the answer
pub ready_ends : (q : Question) (o : OutputData) (e : EditData) (end : Ended) → IsReady q e → IsWritten o e.made e.report end → EnforceAnswer q o end
ready_ends q o e end ready written = done e.made e.report ready.made written.0 end written.1

-- ---- the text of a sound model

-- no object is deeper than it may be
pub shallow : (made : ModelData) → IsSound made → (o depth : ℕ) → IsLive made o → IsDepth made o depth → depth ≤ MAX_DEPTH
shallow made sound o depth live is = elim (cases_lt MAX_DEPTH depth) [
  | inl deep ↦ absurd (sound.flat (record { object = o; depth = depth; live = live; is = is; deep = deep }))
  | inr flat ↦ flat
]

-- a text that isn't too long is what comes of it
pub fits : (o : OutputData) (made : ModelData) (report : Report) (text : List ℕ) (end : Ended) → IsSound made → IsHeldModel made → text ≡ text_in o.form made → IsFitted o text report end → IsWritten o made report end
fits o made report text end sound held is f =
    (record { sound = sound; held = held; short = subst (λ t. length t ≤ o.limit) is f.0 }, subst (λ t. MadeEnds t report end) is f.1)

-- one that is too long stands against it
pub too_long : (o : OutputData) (made : ModelData) (text : List ℕ) (e : StepError) → IsSound made → text ≡ text_in o.form made → OnRefusal e (IsTooLong o text) → OnRefusal e (MadeStops o made)
too_long o made text e sound is h =
    refusal_wider e (IsTooLong o text) (MadeStops o made)
    (λ end l. subst (MadeStops o made) (sym l.1) (long sound (subst (λ t. o.limit < length t) is l.0))) h

pub told_long : (o : OutputData) (text : List ℕ) (e : StepError) → o.limit < length text → OnRefusal e (λ end. end ≡ refused causes.Limit (long_text o.path)) → OnRefusal e (IsTooLong o text)
told_long o text e more h = refusal_wider e (λ end. end ≡ refused causes.Limit (long_text o.path)) (IsTooLong o text) (λ end is. (more, is)) h
