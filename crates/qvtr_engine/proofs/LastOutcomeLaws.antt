-- The outcomes and the stops of the last steps.
use Rattle.std.proofs.Common.{◌≡◌, List, ℕ, refl, sym, subst, Some, None}
use Rattle.repair_semantics.specs.declared.report.Report.{Report}
use Rattle.answer_texts.specs.Question.{Question}
use Rattle.enforce_steps.specs.declared.cause.StepError.{StepError}
use Rattle.enforce_steps.specs.declared.cause.StepError.TheVariants as errors
use Rattle.enforce_steps.specs.Endings.{Ended, refused, OnRefusal}
use Rattle.qvtr_engine.specs.declared.mode.Mode.{Mode}
use Rattle.qvtr_engine.specs.declared.outcome.Outcome.{Outcome}
use Rattle.qvtr_engine.specs.declared.outcome.Outcome.TheVariants as outcome
use Rattle.qvtr_engine.specs.declared.outcome.Stop.{Stop}
use Rattle.qvtr_engine.specs.Answer.{PutData, put_of}
use Rattle.qvtr_engine.specs.CheckAnswer.{VerdictAnswer}
use Rattle.qvtr_engine.specs.CheckedRelations.{ChainsStop, cyclic, deep, IsVerdict, yes, no}
use Rattle.qvtr_engine.specs.ExecutionAnswer.{IsReplyOf, ends}
use Rattle.qvtr_engine.specs.LastSteps.{IsMendedAt, stop_of}
use Rattle.qvtr_engine.specs.Outcome.{reply_of}
use Rattle.qvtr_engine.specs.Reply.{Reply, mended}
use Rattle.qvtr_engine.specs.Steps.{failed, passed}
use Rattle.qvtr_engine.specs.Stops.{OnStop}

-- what is refused is told
pub refusal_told : (e : StepError) (s : Stop) (path : List ℕ) (IsEnd : Ended → Type 0) → s ≡ stop_of e → OnRefusal e IsEnd → OnStop s (IsReplyOf path IsEnd)
refusal_told (errors.Refused cause text) s path IsEnd same h = subst (λ (x : Stop). OnStop x (IsReplyOf path IsEnd)) (sym same) (ends (refused cause text) h)
refusal_told errors.NoMemory s path IsEnd same h = subst (λ (x : Stop). OnStop x (IsReplyOf path IsEnd)) (sym same) tt

-- ---- by a verdict no file is put

unput_chain : (q : Question) (reply : Reply) → ChainsStop q reply → put_of reply ≡ None
unput_chain q reply (cyclic chain is) = refl
unput_chain q reply (deep chain is) = refl

unput_verdict : (q : Question) (reply : Reply) → IsVerdict q reply → put_of reply ≡ None
unput_verdict q reply (yes is) = refl
unput_verdict q reply (no number b least) = refl

unput : (q : Question) (reply : Reply) → VerdictAnswer q reply → put_of reply ≡ None
unput q reply (failed st) = unput_chain q reply st
unput q reply (passed end verdict) = unput_verdict q reply verdict

put_data : (path bytes : List ℕ) → PutData
put_data path bytes = record { path = path; bytes = bytes }

put_told : (path bytes : List ℕ) (report : Report) → put_of (mended path bytes report) ≡ None → ⊥
unfolding put_data
put_told path bytes report e = let gone : Some (put_data path bytes) ≡ None = e in cc

pub verdict_mended : (mode : Mode) (path : List ℕ) (q : Question) (o : Outcome) → VerdictAnswer q (reply_of o) → IsMendedAt mode path o
verdict_mended mode path q outcome.Yes a = tt
verdict_mended mode path q (outcome.No text) a = tt
verdict_mended mode path q outcome.Kept a = tt
verdict_mended mode path q (outcome.Mended at bytes report) a = absurd (put_told at.now bytes report (unput q (mended at.now bytes report) a))
verdict_mended mode path q (outcome.Traced text) a = tt
