-- What `check`, `enforce` and `trace` are answered over the files of a vault: what they come to once all is read is told by their mode (QVT 1.3,
-- sections 7.2 and 7.10.2).
use Rattle.std.specs.Prelude.{ℕ, List}
use Rattle.vault_io.specs.Files.{Files}
use Rattle.model_files.specs.declared.file_form.Form.{Form}
use Rattle.answer_texts.specs.Question.{Question}
use Rattle.enforce_steps.specs.Endings.{Ended, refused, unchanged, changed, traced, OutputData}
use Rattle.enforce_steps.specs.EnforceAnswer.{EnforceAnswer, DemandsStop, TraceAnswer}
use Rattle.qvtr_engine.specs.declared.limits.TheConstants.{MAX_FILE}
use Rattle.qvtr_engine.specs.declared.mode.Mode.{Mode}
use Rattle.qvtr_engine.specs.declared.mode.Mode.TheVariants.{Check, Enforce, Trace}
use Rattle.qvtr_engine.specs.CheckAnswer.{VerdictAnswer, AreChains}
use Rattle.qvtr_engine.specs.CheckWords.{CheckWords}
use Rattle.qvtr_engine.specs.Reply.{Reply, refused_for, kept, mended}
use Rattle.qvtr_engine.specs.Reply as replies
use Rattle.qvtr_engine.specs.StepsAnswer.{StepsAnswer}
use Rattle.qvtr_engine.specs.Target.{target_form, target_path}

-- the reply that an end is, where the target's file is at this path
abbrev pub reply_of_end : List ℕ → Ended → Reply
reply_of_end path (refused cause text) = refused_for cause text
reply_of_end path unchanged = kept
reply_of_end path (changed bytes report) = mended path bytes report
reply_of_end path (traced text) = replies.traced text

-- the reply is such an end
pub data IsReplyOf (path : List ℕ) (IsEnd : Ended → Type 0) : Reply → Type 0 where
  ends : (end : Ended) → IsEnd end → IsReplyOf path IsEnd (reply_of_end path end)

-- where the target is put
abbrev pub output_at : Form → List ℕ → OutputData
output_at form path = record { form = form; path = path; limit = MAX_FILE }

-- ---- the last steps, for a target's file of this form at this path

abbrev pub EnforcementAnswer : Form → List ℕ → Question → Reply → Type 0
EnforcementAnswer form path q = IsReplyOf path (EnforceAnswer q (output_at form path))

abbrev pub TracingAnswer : List ℕ → Question → Reply → Type 0
TracingAnswer path q = IsReplyOf path (TraceAnswer q)

abbrev pub last_answer : Mode → Form → List ℕ → Question → Reply → Type 0
last_answer Check form path = VerdictAnswer
last_answer Enforce form path = EnforcementAnswer form path
last_answer Trace form path = TracingAnswer path

-- for the target of the words
abbrev pub last_over : Mode → Files → CheckWords → Question → Reply → Type 0
last_over mode files w = last_answer mode (target_form files w) (target_path w)

abbrev pub ExecutionAnswer : Mode → Files → CheckWords → Reply → Type 0
ExecutionAnswer mode files w = StepsAnswer (last_over mode files w) files w

-- ---- two replies of the last steps of which either may be told

-- two refusals that stand: chains of calls or unmet entries, of which any may be told, or two conflicts
pub record AreRefusals (path : List ℕ) (q : Question) (reply other : Reply) : Type 0 where
  pub one : IsReplyOf path (DemandsStop q) reply
  pub two : IsReplyOf path (DemandsStop q) other

abbrev pub are_alike_last : Mode → List ℕ → Question → Reply → Reply → Type 0
are_alike_last Check path = AreChains
are_alike_last Enforce path = AreRefusals path
are_alike_last Trace path = AreRefusals path
