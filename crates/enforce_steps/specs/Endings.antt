-- How an enforcement or a trace ends, and what the code tells of it.
use Rattle.std.specs.Prelude.{ℕ, List, Result, Ok, Err}
use Rattle.model_files.specs.declared.file_form.Form.{Form}
use Rattle.repair_semantics.specs.declared.report.Report.{Report}
use Rattle.enforce_steps.specs.declared.cause.Cause.{Cause}
use Rattle.enforce_steps.specs.declared.cause.StepError.{StepError}
use Rattle.enforce_steps.specs.declared.cause.StepError.TheVariants as errors
use Rattle.enforce_steps.specs.declared.output.Output.{Output}
use Rattle.enforce_steps.specs.declared.outcome.Enforced.{Enforced}
use Rattle.enforce_steps.specs.declared.outcome.Enforced.TheVariants as enforced

-- It is refused for a cause, of which this text tells; the target stays as it is; the target's file becomes these bytes, of which this is the report; this
-- text is the trace.
pub data Ended : Type 0 where
  refused : Cause → List ℕ → Ended
  unchanged : Ended
  changed : List ℕ → Report → Ended
  traced : List ℕ → Ended

-- where the target is put: in which form, at which path, and at most how many bytes
pub record OutputData : Type 0 where
  pub form : Form
  pub path : List ℕ
  pub limit : ℕ

abbrev pub output_view : Output → OutputData
output_view o = record { form = o.form; path = o.path.now; limit = o.limit }

abbrev pub ended_of : Enforced → Ended
ended_of enforced.Unchanged = unchanged
ended_of (enforced.Changed bytes report) = changed bytes report

-- what was refused is such an end; want of memory says nothing
abbrev pub OnRefusal : StepError → (Ended → Type 0) → Type 0
OnRefusal (errors.Refused cause text) IsEnd = IsEnd (refused cause text)
OnRefusal errors.NoMemory IsEnd = Unit {0}

-- the refusal for a cause with this text, if memory could be had for it
abbrev pub refusal_of : {E : Type 0} → Cause → Result (List ℕ) E → StepError
refusal_of cause (Ok text) = errors.Refused cause text
refusal_of cause (Err e) = errors.NoMemory
