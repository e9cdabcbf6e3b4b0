-- An execution that is done or has a verdict has passed each step up to its last.
use Rattle.std.proofs.Common.{inl, inr, ℕ, List, [], ◌∷◌, Bool, true, false}
use Rattle.vault_io.specs.Files.{Files}
use Rattle.mof_metamodel.specs.declared.desc.MetaDesc.{MetaDesc}
use Rattle.model_files.specs.declared.fault.FileError.{FileError}
use Rattle.model_files.specs.FaultTexts.{is_limit}
use Rattle.script_files.specs.ScriptErrors as scripts
use Rattle.qv_syntax.specs.declared.program.Program.{Program}
use Rattle.qv_syntax.specs.declared.script.Script.{Script}
use Rattle.qvtr_engine.specs.declared.status.Status.TheVariants.{Fault, Limit, NoMemory, Refused, Chain}
use Rattle.qvtr_engine.specs.CheckWords.{CheckWords}
use Rattle.qvtr_engine.specs.CheckedMetamodels.{AreMetamodels, metamodel_files, numbered_metas, IsReadMeta, MetaStops}
use Rattle.qvtr_engine.specs.CheckedModels.{model_files, numbered_models, IsReadModel, ModelStops}
use Rattle.qvtr_engine.specs.CheckedNames.{NamesFit, NamesStop, misnamed, target_of}
use Rattle.qvtr_engine.specs.CheckedRelations.{ChainsStop, cyclic, deep}
use Rattle.qvtr_engine.specs.CheckedScript.{ScriptRefused, fault}
use Rattle.qvtr_engine.specs.FileStops.{Stops, unloaded, missing, long, misread}
use Rattle.qvtr_engine.specs.FirstStops.{FirstStop}
use Rattle.answer_texts.specs.Question.{Question}
use Rattle.qvtr_engine.specs.Reply.{Reply, status_of, status_of_fault}
use Rattle.qvtr_engine.specs.ScriptFile.{IsScriptAt, IsMisspelled, misspelled, ScriptStops, absent, lengthy, refused}
use Rattle.qvtr_engine.specs.Steps.{stopped, went_on, failed, passed}
use Rattle.qvtr_engine.specs.Verdicts.{HasVerdict, IsJudged}
use Rattle.qvtr_engine.specs.CheckAnswer.{VerdictAnswer, CheckAnswer}
use Rattle.qvtr_engine.specs.StepsAnswer.{StepsAnswer, AnswerOver, AnswerWith, AnswerFor, Inputs, ResolvesTo, question_of, HasPassed}

pub fault_unjudged : IsJudged Fault → ⊥
fault_unjudged (inl e) = cc
fault_unjudged (inr e) = cc

pub no_memory_unjudged : IsJudged NoMemory → ⊥
no_memory_unjudged (inl e) = cc
no_memory_unjudged (inr e) = cc

limit_unjudged : IsJudged Limit → ⊥
limit_unjudged (inl e) = cc
limit_unjudged (inr e) = cc

refused_unjudged : IsJudged Refused → ⊥
refused_unjudged (inl e) = cc
refused_unjudged (inr e) = cc

chain_unjudged : IsJudged Chain → ⊥
chain_unjudged (inl e) = cc
chain_unjudged (inr e) = cc

line_unjudged : (limit : Bool) → IsJudged (status_of_fault limit) → ⊥
line_unjudged true j = limit_unjudged j
line_unjudged false j = refused_unjudged j

file_unjudged : (files : Files) (path : List ℕ) (meta : MetaDesc) (IsError : List ℕ → FileError → Type 0) (reply : Reply) → Stops files path meta IsError reply
    → IsJudged (status_of reply) → ⊥
file_unjudged files path meta IsError reply (unloaded r (missing e)) j = fault_unjudged j
file_unjudged files path meta IsError reply (unloaded r (long bytes e l)) j = limit_unjudged j
file_unjudged files path meta IsError reply (misread bytes h error n e) j = line_unjudged (is_limit error) j

first_unjudged : {A : Type 0} (IsRead : A → Type 0) (Stop : A → Reply → Type 0) → ((x : A) (reply : Reply) → Stop x reply → IsJudged (status_of reply) → ⊥)
    → (xs : List A) (reply : Reply) → FirstStop IsRead Stop xs reply → IsJudged (status_of reply) → ⊥
first_unjudged IsRead Stop never [] reply st j = absurd st
first_unjudged IsRead Stop never (x ∷ xs) reply (inl st) j = never x reply st j
first_unjudged IsRead Stop never (x ∷ xs) reply (inr st) j = first_unjudged IsRead Stop never xs reply st.1 j

spelling_unjudged : (path bytes : List ℕ) (reply : Reply) → IsMisspelled path bytes reply → IsJudged (status_of reply) → ⊥
spelling_unjudged path bytes reply (misspelled error told is) j = line_unjudged (scripts.is_limit error) j

script_unjudged : (files : Files) (path : List ℕ) (reply : Reply) → ScriptStops files path reply → IsJudged (status_of reply) → ⊥
script_unjudged files path reply (absent e) j = fault_unjudged j
script_unjudged files path reply (lengthy bytes h l) j = limit_unjudged j
script_unjudged files path reply (refused bytes h r is) j = spelling_unjudged path bytes r is j

names_unjudged : (w : CheckWords) (s : Script) (reply : Reply) → NamesStop w s reply → IsJudged (status_of reply) → ⊥
names_unjudged w s reply (misnamed f is) j = refused_unjudged j

types_unjudged : (path : List ℕ) (metas : List MetaDesc) (s : Script) (target : List ℕ) (reply : Reply) → ScriptRefused path metas s target reply → IsJudged (status_of reply) → ⊥
types_unjudged path metas s target reply (fault f stands) j = refused_unjudged j

-- ---- from the last step to the first

module _ (Last : Question → Reply → Type 0) (files : Files) (w : CheckWords) where
  of_inputs : (i : Inputs files w) (reply : Reply)
      → AnswerFor Last w i.script (numbered_metas w i.script i.metas) (numbered_models w i.script i.models) reply → IsJudged (status_of reply) → HasPassed Last files w reply
  of_inputs i reply (stopped st) j = absurd (types_unjudged w.script (numbered_metas w i.script i.metas) i.script (target_of w) reply st j)
  of_inputs i reply (went_on p is more) j = record { inputs = i; program = p; resolved = is; last = more }

  of_models : (s : Script) (metas : List MetaDesc) → IsScriptAt files w.script s → NamesFit w s → AreMetamodels files w s metas
      → (reply : Reply) → AnswerWith Last files w s (numbered_metas w s metas) reply → IsJudged (status_of reply) → HasPassed Last files w reply
  of_models s metas at fit are reply (stopped st) j =
      absurd (first_unjudged (IsReadModel files s (numbered_metas w s metas)) (ModelStops files s (numbered_metas w s metas)) (λ b r x. file_unjudged files b.path _ _ r x) (model_files w s) reply st j)
  of_models s metas at fit are reply (went_on models read more) j =
      of_inputs (record { script = s; at = at; fit = fit; metas = metas; metamodels = are; models = models; read = read }) reply more j

  of_files : (s : Script) → IsScriptAt files w.script s → NamesFit w s → (reply : Reply) → AnswerOver Last files w s reply
      → IsJudged (status_of reply) → HasPassed Last files w reply
  of_files s at fit reply (stopped st) j =
      absurd (first_unjudged (IsReadMeta files) (MetaStops files) (λ b r x. file_unjudged files b.path _ _ r x) (metamodel_files w s) reply st j)
  of_files s at fit reply (went_on metas are more) j = of_models s metas at fit are reply more j

  pub passed_steps : (reply : Reply) → StepsAnswer Last files w reply → IsJudged (status_of reply) → HasPassed Last files w reply
  passed_steps reply (stopped st) j = absurd (script_unjudged files w.script reply st j)
  passed_steps reply (went_on s at (failed st)) j = absurd (names_unjudged w s reply st j)
  passed_steps reply (went_on s at (passed fit more)) j = of_files s at fit reply more j

-- ---- a check

chains_unjudged : (q : Question) (reply : Reply) → ChainsStop q reply → IsJudged (status_of reply) → ⊥
chains_unjudged q reply (cyclic chain is) j = chain_unjudged j
chains_unjudged q reply (deep chain is) j = chain_unjudged j

of_question : (files : Files) (w : CheckWords) (i : Inputs files w) (p : Program) → ResolvesTo files w i p → (reply : Reply) → VerdictAnswer (question_of files w i p) reply
    → IsJudged (status_of reply) → HasVerdict files w reply
of_question files w i p is reply (failed st) j = absurd (chains_unjudged (question_of files w i p) reply st j)
of_question files w i p is reply (passed end verdict) j = record { inputs = i; program = p; resolved = is; end = end; verdict = verdict }

pub judged_check : (files : Files) (w : CheckWords) (reply : Reply) → CheckAnswer files w reply → IsJudged (status_of reply) → HasVerdict files w reply
judged_check files w reply a j =
    let h = passed_steps VerdictAnswer files w reply a j in of_question files w h.inputs h.program h.resolved reply h.last j

-- and such a verdict is the answer
pub verdict_answer : (files : Files) (w : CheckWords) (reply : Reply) → HasVerdict files w reply → CheckAnswer files w reply
verdict_answer files w reply h =
    let i : Inputs files w = h.inputs in
    went_on i.script i.at (passed i.fit (went_on i.metas i.metamodels (went_on i.models i.read (went_on h.program h.resolved (passed h.end h.verdict)))))
