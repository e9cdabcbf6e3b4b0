-- Two replies to a command over files are alike, as each of its steps has one reply, or replies that are alike.
use Rattle.std.proofs.Common.{◌≡◌, ℕ, List, subst}
use Rattle.std.proofs.lemmas.List.{length-map}
use Rattle.vault_io.specs.Files.{Files}
use Rattle.mof_metamodel.specs.declared.desc.MetaDesc.{MetaDesc}
use Rattle.qv_syntax.specs.declared.program.Program.{Program}
use Rattle.qv_syntax.specs.declared.script.Script.{Script}
use Rattle.ocl_environments.specs.Environments.{no_meta}
use Rattle.script_scopes.specs.Environments.{metamodel_names}
use Rattle.answer_texts.specs.Question.{Question}
use Rattle.qvtr_engine.specs.CheckWords.{CheckWords}
use Rattle.qvtr_engine.specs.CheckedMetamodels.{AreMetamodels, MetamodelsStop, metamodel_files, numbered_metas}
use Rattle.qvtr_engine.specs.CheckedModels.{AreModels, ModelsStop, numbered_models}
use Rattle.qvtr_engine.specs.CheckedNames.{NamesFit, NamesStop, target_of}
use Rattle.qvtr_engine.specs.CheckedScript.{IsResolved, ScriptRefused, fault}
use Rattle.qvtr_engine.specs.NamedFiles.{named_item}
use Rattle.qvtr_engine.specs.OneSteps.{AreOne, HaveOneStep}
use Rattle.qvtr_engine.specs.Reply.{Reply}
use Rattle.qvtr_engine.specs.ScriptFile.{IsScriptAt, ScriptStops}
use Rattle.qvtr_engine.specs.Steps.{Test, IsOneStep, IsOneTest}
use Rattle.qvtr_engine.specs.StepsAnswer.{StepsAnswer, AnswerOver, AnswerWith, AnswerFor, Inputs, IsRefused, ResolvesTo, question_of, AreAlike, same, faults}
use Rattle.qvtr_engine.proofs.StepLaws.{one_step, one_test}

resolved_or_refused : (path : List ℕ) (metas : List MetaDesc) (s : Script) (target : List ℕ) (program : Program) (reply : Reply) → IsResolved metas s target program
    → ScriptRefused path metas s target reply → ⊥
resolved_or_refused path metas s target program reply is (fault f stands) = is.faultless f stands

abbrev pub HaveOneProgram : Files → CheckWords → Type 0
HaveOneProgram files w = (i : Inputs files w) (p q : Program) → ResolvesTo files w i p → ResolvesTo files w i q → p ≡ q

module _ (Last : Question → Reply → Type 0) (AreAlikeLast : Question → Reply → Reply → Type 0) (files : Files) (w : CheckWords) where
  abbrev Alike : Reply → Reply → Type 0
  Alike = AreAlike AreAlikeLast files w

  -- two replies of the last step are alike
  abbrev pub HaveLastAlike : Type 0
  HaveLastAlike = (i : Inputs files w) (p : Program) → ResolvesTo files w i p
      → (r o : Reply) → Last (question_of files w i p) r → Last (question_of files w i p) o → AreAlike AreAlikeLast files w r o

  pub one_alike : (r o : Reply) → r ≡ o → AreAlike AreAlikeLast files w r o
  one_alike r o e = subst (AreAlike AreAlikeLast files w r) e (same r)

  step_alike : {A : Type 0} (Gives : A → Type 0) (Stops : Reply → Type 0) → IsOneStep Gives Stops AreOne → IsOneStep Gives Stops Alike
  step_alike Gives Stops is = record { one = is.one; apart = is.apart; alike = λ r o s t. one_alike r o (is.alike r o s t) }

  test_alike : (Passes : Type 0) (Stops : Reply → Type 0) → IsOneTest Passes Stops AreOne → IsOneTest Passes Stops Alike
  test_alike Passes Stops is = record { apart = is.apart; alike = λ r o s t. one_alike r o (is.alike r o s t) }

  -- ---- from the last step to the first

  resolution_alike : HaveOneProgram files w → HaveLastAlike → (i : Inputs files w)
      → (r o : Reply) → AnswerFor Last w i.script (numbered_metas w i.script i.metas) (numbered_models w i.script i.models) r
      → AnswerFor Last w i.script (numbered_metas w i.script i.metas) (numbered_models w i.script i.models) o → Alike r o
  resolution_alike programs lasts i r o x y =
      let metas : List MetaDesc = numbered_metas w i.script i.metas in
      one_step (ResolvesTo files w i) (IsRefused files w i) (λ program. Last (question_of files w i program)) Alike
      (record { one = programs i; apart = λ p reply. resolved_or_refused w.script metas i.script (target_of w) p reply; alike = λ a b s t. faults i a b s t })
      (λ p is. lasts i p is) r o x y

  models_alike : HaveOneStep files w → HaveOneProgram files w → HaveLastAlike
      → (s : Script) (metas : List MetaDesc) → IsScriptAt files w.script s → NamesFit w s → AreMetamodels files w s metas
      → (r o : Reply) → AnswerWith Last files w s (numbered_metas w s metas) r → AnswerWith Last files w s (numbered_metas w s metas) o → Alike r o
  models_alike steps programs lasts s metas at fit are r o x y =
      let numbered : List MetaDesc = numbered_metas w s metas in
      one_step (AreModels files w s numbered) (ModelsStop files w s numbered) (λ models. AnswerFor Last w s numbered (numbered_models w s models)) Alike
      (step_alike (AreModels files w s numbered) (ModelsStop files w s numbered) (steps.models s numbered fit (length-map (metamodel_names s) (named_item no_meta (metamodel_files w s) metas)) (steps.well s metas fit are)))
      (λ models read. resolution_alike programs lasts
      (record { script = s; at = at; fit = fit; metas = metas; metamodels = are; models = models; read = read })) r o x y

  files_alike : HaveOneStep files w → HaveOneProgram files w → HaveLastAlike
      → (s : Script) → IsScriptAt files w.script s → NamesFit w s → (r o : Reply) → AnswerOver Last files w s r → AnswerOver Last files w s o → Alike r o
  files_alike steps programs lasts s at fit r o x y =
      one_step (AreMetamodels files w s) (MetamodelsStop files w s) (λ metas. AnswerWith Last files w s (numbered_metas w s metas)) Alike
      (step_alike (AreMetamodels files w s) (MetamodelsStop files w s) (steps.metamodels s fit))
      (λ metas are. models_alike steps programs lasts s metas at fit are) r o x y

  pub replies_alike : HaveOneStep files w → HaveOneProgram files w → HaveLastAlike
      → (r o : Reply) → StepsAnswer Last files w r → StepsAnswer Last files w o → AreAlike AreAlikeLast files w r o
  replies_alike steps programs lasts r o x y =
      one_step (IsScriptAt files w.script) (ScriptStops files w.script) (λ s. Test (NamesFit w s) (NamesStop w s) (AnswerOver Last files w s)) Alike
      (step_alike (IsScriptAt files w.script) (ScriptStops files w.script) steps.scripts)
      (λ s at.
      one_test (NamesFit w s) (NamesStop w s) (AnswerOver Last files w s) Alike (test_alike (NamesFit w s) (NamesStop w s) (steps.names s))
      (λ fit. files_alike steps programs lasts s at fit)) r o x y
