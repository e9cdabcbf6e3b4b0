-- What is ready for the target, before it is applied and written.
use Rattle.std.specs.Prelude.{◌≡◌, ◌<◌, ◌≤◌, ℕ, List, length}
use Rattle.object_tables.specs.Models.{ModelData}
use Rattle.repair_semantics.specs.declared.report.Report.{Report}
use Rattle.enforce_mode.specs.Made.{IsSound}
use Rattle.enforce_mode.specs.Reports.{EditData}
use Rattle.answer_texts.specs.Question.{Question}
use Rattle.enforce_steps.specs.declared.cause.Cause.TheVariants as causes
use Rattle.enforce_steps.specs.Endings.{Ended, refused, OutputData}
use Rattle.enforce_steps.specs.StepTexts.{long_text, text_in}
use Rattle.enforce_steps.specs.EnforceAnswer.{IsFit, IsMadeSo, MadeEnds}

-- the model that is made by what is demanded, which is sound, and what that changes
pub record IsReady (q : Question) (e : EditData) : Type 0 where
  pub made : IsMadeSo q e.made e.report
  pub sound : IsSound e.made

-- nothing stands against the model, and this comes of it
abbrev pub IsWritten : OutputData → ModelData → Report → Ended → Type 0
IsWritten o made report end = IsFit o made × MadeEnds (text_in o.form made) report end

-- the text isn't too long, and this comes of it
abbrev pub IsFitted : OutputData → List ℕ → Report → Ended → Type 0
IsFitted o text report end = (length text ≤ o.limit) × MadeEnds text report end

-- it is too long, and that is told
abbrev pub IsTooLong : OutputData → List ℕ → Ended → Type 0
IsTooLong o text end = (o.limit < length text) × (end ≡ refused causes.Limit (long_text o.path))
