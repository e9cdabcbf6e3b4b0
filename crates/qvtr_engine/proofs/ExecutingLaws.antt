-- The steps of an execution, against the answer.
use Rattle.std.proofs.Common.{ℕ, List, subst, Option, Some, None, Result, Ok, Err}
use Rattle.std.specs.Prelude.{IfSome, IfOk, IfErr}
use Rattle.vault_io.specs.Files.{Files}
use Rattle.mof_metamodel.specs.declared.desc.MetaDesc.{MetaDesc}
use Rattle.object_tables.specs.Models.{ModelData}
use Rattle.qv_syntax.specs.declared.program.Program.{Program}
use Rattle.qv_syntax.specs.declared.script.Script.{Script}
use Rattle.model_files.specs.declared.file_form.Form.{Form}
use Rattle.qvtr_engine.specs.declared.mode.Mode.{Mode}
use Rattle.qvtr_engine.specs.declared.outcome.Outcome.{Outcome}
use Rattle.qvtr_engine.specs.declared.outcome.Stop.{Stop}
use Rattle.qvtr_engine.specs.CheckWords.{CheckWords}
use Rattle.qvtr_engine.specs.CheckedMetamodels.{MetamodelsStop}
use Rattle.qvtr_engine.specs.CheckedModels.{AreModels, ModelsStop, model_files, numbered_models}
use Rattle.qvtr_engine.specs.CheckedNames.{NamesFit, NamesStop, target_of}
use Rattle.qvtr_engine.specs.CheckedScript.{IsResolved, ScriptRefused}
use Rattle.qvtr_engine.specs.ExecutionAnswer.{ExecutionAnswer, last_answer, last_over}
use Rattle.qvtr_engine.specs.LastSteps.{AnswerRead}
use Rattle.qvtr_engine.specs.NumberedInputs.{HasMetas}
use Rattle.qvtr_engine.specs.Outcome.{reply_of}
use Rattle.qvtr_engine.specs.Reply.{Reply}
use Rattle.qvtr_engine.specs.ScriptFile.{IsScriptAt, ScriptStops}
use Rattle.qvtr_engine.specs.Steps.{stopped, went_on, failed, passed}
use Rattle.qvtr_engine.specs.StepsAnswer.{AnswerWith, AnswerOver}
use Rattle.qvtr_engine.specs.Stops.{StoppedBy}
use Rattle.qvtr_engine.specs.Target.{IsFormAmong, target_path}
use Rattle.qvtr_engine.proofs.StopLaws.{stopped_wider}
use Rattle.qvtr_engine.proofs.TargetLaws.{same_form}
use Rattle.qvtr_engine.proofs.NumberingLaws.{AreDistinct}

-- what is said of a reply, where the files are told
abbrev pub Wider : Option Files → (Files → Reply → Type 0) → (Files → Reply → Type 0) → Type 0
Wider told P Q = IfSome told (λ files. (reply : Reply) → P files reply → Q files reply)

outcome_wider : (o : Outcome) (told : Option Files) (P Q : Files → Reply → Type 0) → Wider told P Q
    → IfSome told (λ files. P files (reply_of o)) → IfSome told (λ files. Q files (reply_of o))
outcome_wider o None P Q w h = tt
outcome_wider o (Some files) P Q w h = w (reply_of o) h

pub ok_wider : (r : Result Outcome Stop) (told : Option Files) (P Q : Files → Reply → Type 0) → Wider told P Q
    → IfOk r (λ o. IfSome told (λ files. P files (reply_of o))) → IfOk r (λ o. IfSome told (λ files. Q files (reply_of o)))
ok_wider (Ok o) told P Q w h = outcome_wider o told P Q w h
ok_wider (Err s) told P Q w h = tt

pub err_wider : (r : Result Outcome Stop) (told : Option Files) (P Q : Files → Reply → Type 0) (faulted faulted' : Type 0) (paths : List (List ℕ)) → Wider told P Q → (faulted → faulted')
    → IfErr r (λ s. StoppedBy s told P faulted paths) → IfErr r (λ s. StoppedBy s told Q faulted' paths)
err_wider (Ok o) told P Q f f' ps w t h = tt
err_wider (Err s) told P Q f f' ps w t h = stopped_wider s told P Q f f' ps ps w t (λ path is. is) h

-- what holds of a reply whatever the files are
told_or_not : (o : Outcome) (told : Option Files) (P : Reply → Type 0) → P (reply_of o) → IfSome told (λ files. P (reply_of o))
told_or_not o None P h = tt
told_or_not o (Some files) P h = h

pub ok_told : (r : Result Outcome Stop) (told : Option Files) (P : Reply → Type 0) → IfOk r (λ o. P (reply_of o))
    → IfOk r (λ o. IfSome told (λ files. P (reply_of o)))
ok_told (Ok o) told P h = told_or_not o told P h
ok_told (Err s) told P h = tt

-- ---- each step stops, or goes on

module _ (mode : Mode) where
  pub script_stops : (told : Option Files) (w : CheckWords) → Wider told (λ files. ScriptStops files w.script) (λ files. ExecutionAnswer mode files w)
  script_stops None w = tt
  script_stops (Some files) w = λ reply st. stopped st

  pub names_stop : (told : Option Files) (w : CheckWords) (s : Script) → IfSome told (λ files. IsScriptAt files w.script s)
      → Wider told (λ files. NamesStop w s) (λ files. ExecutionAnswer mode files w)
  names_stop None w s at = tt
  names_stop (Some files) w s at = λ reply st. went_on s at (failed st)

  pub names_go_on : (told : Option Files) (w : CheckWords) (s : Script) → IfSome told (λ files. IsScriptAt files w.script s) → NamesFit w s
      → Wider told (λ files. AnswerOver (last_over mode files w) files w s) (λ files. ExecutionAnswer mode files w)
  names_go_on None w s at fit = tt
  names_go_on (Some files) w s at fit = λ reply more. went_on s at (passed fit more)

  pub metamodels_stop : (told : Option Files) (w : CheckWords) (s : Script) → Wider told (λ files. MetamodelsStop files w s) (λ files. AnswerOver (last_over mode files w) files w s)
  metamodels_stop None w s = tt
  metamodels_stop (Some files) w s = λ reply st. stopped st

  pub metamodels_go_on : (told : Option Files) (w : CheckWords) (s : Script) (metas : List MetaDesc) → IfSome told (λ files. HasMetas files w s metas)
      → Wider told (λ files. AnswerWith (last_over mode files w) files w s metas) (λ files. AnswerOver (last_over mode files w) files w s)
  metamodels_go_on None w s metas h = tt
  metamodels_go_on (Some files) w s metas h = λ reply more. went_on h.metas h.are (subst (λ x. AnswerWith (last_over mode files w) files w s x reply) h.is more)

  pub models_stop : (told : Option Files) (w : CheckWords) (s : Script) (metas : List MetaDesc)
      → Wider told (λ files. ModelsStop files w s metas) (λ files. AnswerWith (last_over mode files w) files w s metas)
  models_stop None w s metas = tt
  models_stop (Some files) w s metas = λ reply st. stopped st

  pub models_go_on : (told : Option Files) (w : CheckWords) (s : Script) (metas : List MetaDesc) (models : List ModelData) (form : Form)
      → IfSome told (λ files. AreModels files w s metas models) → IfSome told (λ files. IsFormAmong files (model_files w s) (target_path w) form)
      → Wider told (λ files. AnswerRead mode w s metas (numbered_models w s models) form) (λ files. AnswerWith (last_over mode files w) files w s metas)
  models_go_on None w s metas models form are is = tt
  models_go_on (Some files) w s metas models form are is = λ reply more. went_on models are (more files is)

  pub script_refused : (w : CheckWords) (s : Script) (metas : List MetaDesc) (models : List ModelData) (form : Form) (reply : Reply)
      → ScriptRefused w.script metas s (target_of w) reply → AnswerRead mode w s metas models form reply
  script_refused w s metas models form reply st = λ files is. stopped st

  pub script_resolved : (w : CheckWords) (s : Script) (metas : List MetaDesc) (models : List ModelData) (form : Form) (program : Program) → NamesFit w s → AreDistinct s
      → IsResolved metas s (target_of w) program → (reply : Reply) → last_answer mode form (target_path w) (record { metas = metas; program = program; models = models }) reply
      → AnswerRead mode w s metas models form reply
  script_resolved w s metas models form program fits distinct resolved reply more = λ files is.
      went_on program resolved (subst (λ f. last_answer mode f (target_path w) (record { metas = metas; program = program; models = models }) reply) (same_form files w s form fits distinct is) more)
