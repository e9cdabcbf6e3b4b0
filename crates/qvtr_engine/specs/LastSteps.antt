-- What an execution comes to once all is read, and what it puts.
use Rattle.std.specs.Prelude.{◌≡◌, ℕ, true, List}
use Rattle.vault_io.specs.Files.{Files}
use Rattle.mof_metamodel.specs.declared.desc.MetaDesc.{MetaDesc}
use Rattle.object_tables.specs.Models.{ModelData}
use Rattle.model_files.specs.declared.file_form.Form.{Form}
use Rattle.qv_syntax.specs.declared.script.Script.{Script}
use Rattle.enforce_steps.specs.declared.cause.StepError.{StepError}
use Rattle.enforce_steps.specs.declared.cause.StepError.TheVariants as errors
use Rattle.qvtr_engine.specs.declared.mode.Mode.{Mode}
use Rattle.qvtr_engine.specs.declared.mode.Mode.TheVariants.{Enforce}
use Rattle.qvtr_engine.specs.declared.outcome.Outcome.{Outcome}
use Rattle.qvtr_engine.specs.declared.outcome.Outcome.TheVariants as outcome
use Rattle.qvtr_engine.specs.declared.outcome.Stop.{Stop}
use Rattle.qvtr_engine.specs.declared.outcome.Stop.TheVariants as stop
use Rattle.qvtr_engine.specs.CheckWords.{CheckWords, check_paths}
use Rattle.qvtr_engine.specs.CheckedModels.{model_files}
use Rattle.qvtr_engine.specs.ExecutionAnswer.{last_over}
use Rattle.qvtr_engine.specs.Names.{is_among}
use Rattle.qvtr_engine.specs.Reply.{Reply}
use Rattle.qvtr_engine.specs.StepsAnswer.{AnswerFor}
use Rattle.qvtr_engine.specs.Target.{IsFormAmong, target_path}

-- the reply over any files among which the target's has this form
abbrev pub AnswerRead : Mode → CheckWords → Script → List MetaDesc → List ModelData → Form → Reply → Type 0
AnswerRead mode w s metas models form reply =
    (files : Files) → IsFormAmong files (model_files w s) (target_path w) form → AnswerFor (last_over mode files w) w s metas models reply

-- a file is put in the one mode alone, and at this path
abbrev pub IsMendedAt : Mode → List ℕ → Outcome → Type 0
IsMendedAt mode path outcome.Yes = Unit {0}
IsMendedAt mode path (outcome.No text) = Unit {0}
IsMendedAt mode path outcome.Kept = Unit {0}
IsMendedAt mode path (outcome.Mended at bytes report) = (mode ≡ Enforce) × (at.now ≡ path)
IsMendedAt mode path (outcome.Traced text) = Unit {0}

-- that of the target, which is a path of the words
abbrev pub IsMendedFor : Mode → CheckWords → Outcome → Type 0
IsMendedFor mode w outcome.Yes = Unit {0}
IsMendedFor mode w (outcome.No text) = Unit {0}
IsMendedFor mode w outcome.Kept = Unit {0}
IsMendedFor mode w (outcome.Mended at bytes report) = (mode ≡ Enforce) × (at.now ≡ target_path w) × (is_among (check_paths w) (target_path w) ≡ true)
IsMendedFor mode w (outcome.Traced text) = Unit {0}

-- what stops the work where a step is refused
abbrev pub stop_of : StepError → Stop
stop_of (errors.Refused cause text) = stop.Refused cause text
stop_of errors.NoMemory = stop.NoMemory
