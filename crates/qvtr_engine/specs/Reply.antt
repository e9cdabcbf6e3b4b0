-- What is answered to the words over the files of a vault: the reply as data, and its rendering as a status and a text.
use Rattle.std.specs.Prelude.{ℕ, Bool, List, [], ◌∷◌, codes, if◌then◌else◌}
use Rattle.std.specs.List.{concat}
use Rattle.qvtr_engine.specs.declared.status.Status.{Status}
use Rattle.qvtr_engine.specs.declared.status.Status.TheVariants as status
use Rattle.qvtr_engine.specs.declared.status.Status.TheVariants.{Done, No, Usage, Fault, Refused, Limit}
use Rattle.repair_semantics.specs.declared.report.Report.{Report}
use Rattle.enforce_steps.specs.declared.cause.Cause.{Cause}
use Rattle.enforce_steps.specs.declared.cause.Cause.TheVariants as causes
use Rattle.enforce_steps.specs.StepTexts.{report_text}
use Rattle.example_run.specs.declared.summary.Summary.{Summary}
use Rattle.qvtr_engine.specs.Summaries.{summary_text}

-- The words are no command; the file at a path couldn't be read; a fault of a file is told by this line, for a limit that
-- is passed or not; the file at a path is too long; the relations hold; they fail, as this text tells; the execution is refused for a cause, of
-- which this text tells; the target stays as it is; the target's file, at a path, is put with these bytes, of which this is the report; this text is
-- the trace; the file at a path is put with these bytes; an example was run, of which this is the summary.
pub data Reply : Type 0 where
  misused : Reply
  unread : List ℕ → Reply
  faulty : Bool → List ℕ → Reply
  too_long : List ℕ → Reply
  holds : Reply
  fails : List ℕ → Reply
  refused_for : Cause → List ℕ → Reply
  kept : Reply
  mended : List ℕ → List ℕ → Report → Reply
  traced : List ℕ → Reply
  converted : List ℕ → List ℕ → Reply
  generated : Summary → Reply

-- the status of a fault of a file
abbrev pub status_of_fault : Bool → Status
status_of_fault is_limit = if is_limit then Limit else Refused

-- that of a cause
abbrev pub status_of_cause : Cause → Status
status_of_cause causes.NotEnforceable = status.NotEnforceable
status_of_cause causes.Chain = status.Chain
status_of_cause causes.Unmet = status.Unmet
status_of_cause causes.Conflict = status.Conflict
status_of_cause causes.Invalid = status.Invalid
status_of_cause causes.Limit = status.Limit

abbrev pub status_of : Reply → Status
status_of misused = Usage
status_of (unread path) = Fault
status_of (faulty is_limit line) = status_of_fault is_limit
status_of (too_long path) = Limit
status_of holds = Done
status_of (fails text) = No
status_of (refused_for cause text) = status_of_cause cause
status_of kept = Done
status_of (mended path bytes report) = Done
status_of (traced text) = Done
status_of (converted path bytes) = Done
status_of (generated summary) = Done

abbrev pub usage_text : List ℕ
usage_text = codes "usage\n"

abbrev pub fault_text : List ℕ → List ℕ
fault_text path = concat (codes "fault " ∷ path ∷ codes "\n" ∷ [])

abbrev pub too_long_text : List ℕ → List ℕ
too_long_text path = concat (codes "limit bytes " ∷ path ∷ codes "\n" ∷ [])

abbrev pub done_text : List ℕ
done_text = codes "done\n"

abbrev pub unchanged_text : List ℕ
unchanged_text = codes "unchanged\n"

abbrev pub yes_text : List ℕ
yes_text = codes "yes\n"

abbrev pub text_of : Reply → List ℕ
text_of misused = usage_text
text_of (unread path) = fault_text path
text_of (faulty is_limit line) = line
text_of (too_long path) = too_long_text path
text_of holds = yes_text
text_of (fails text) = text
text_of (refused_for cause text) = text
text_of kept = unchanged_text
text_of (mended path bytes report) = report_text report
text_of (traced text) = text
text_of (converted path bytes) = done_text
text_of (generated summary) = summary_text summary

abbrev pub no_memory_text : List ℕ
no_memory_text = codes "no memory\n"
