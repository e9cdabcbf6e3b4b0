-- What a command over a script and models is answered over the files of a vault: the reply of the first of its steps that stops, or else that
-- of its last one. The words are the first step, and stop by `misused`. The steps up to the sixth are those of each such command; what then
-- follows is said of the question that they come to. What is printed is the reply's text.
use Rattle.std.specs.Prelude.{List}
use Rattle.vault_io.specs.Files.{Files}
use Rattle.mof_metamodel.specs.declared.desc.MetaDesc.{MetaDesc}
use Rattle.object_tables.specs.Models.{ModelData}
use Rattle.qv_syntax.specs.declared.program.Program.{Program}
use Rattle.qv_syntax.specs.declared.script.Script.{Script}
use Rattle.answer_texts.specs.Question.{Question}
use Rattle.qvtr_engine.specs.CheckWords.{CheckWords}
use Rattle.qvtr_engine.specs.CheckedNames.{NamesFit, NamesStop, target_of}
use Rattle.qvtr_engine.specs.CheckedMetamodels.{AreMetamodels, MetamodelsStop, numbered_metas}
use Rattle.qvtr_engine.specs.CheckedModels.{AreModels, ModelsStop, numbered_models}
use Rattle.qvtr_engine.specs.CheckedScript.{IsResolved, ScriptRefused}
use Rattle.qvtr_engine.specs.Reply.{Reply}
use Rattle.qvtr_engine.specs.ScriptFile.{IsScriptAt, ScriptStops}
use Rattle.qvtr_engine.specs.Steps.{Step, Test}

-- step 6: the script resolves; metamodels and models go by their numbers
abbrev pub AnswerFor : (Question → Reply → Type 0) → CheckWords → Script → List MetaDesc → List ModelData → Reply → Type 0
AnswerFor Last w s metas models =
    Step (IsResolved metas s (target_of w)) (ScriptRefused w.script metas s (target_of w)) (λ program.
    Last (record { metas = metas; program = program; models = models }))

-- step 5: the models are read, each by its metamodel
abbrev pub AnswerWith : (Question → Reply → Type 0) → Files → CheckWords → Script → List MetaDesc → Reply → Type 0
AnswerWith Last files w s metas =
    Step (AreModels files w s metas) (ModelsStop files w s metas) (λ models.
    AnswerFor Last w s metas (numbered_models w s models))

-- step 4: the metamodels are read
abbrev pub AnswerOver : (Question → Reply → Type 0) → Files → CheckWords → Script → Reply → Type 0
AnswerOver Last files w s =
    Step (AreMetamodels files w s) (MetamodelsStop files w s) (λ metas.
    AnswerWith Last files w s (numbered_metas w s metas))

-- steps 2 and 3: the script is read, and its names are those of the words
abbrev pub StepsAnswer : (Question → Reply → Type 0) → Files → CheckWords → Reply → Type 0
StepsAnswer Last files w =
    Step (IsScriptAt files w.script) (ScriptStops files w.script) (λ s.
    Test (NamesFit w s) (NamesStop w s) (
    AnswerOver Last files w s))

-- ---- what makes replies alike

-- what is read from the files: the script, and the metamodels and models by their numbers
pub record Inputs (files : Files) (w : CheckWords) : Type 0 where
  pub script : Script
  pub at : IsScriptAt files w.script script
  pub fit : NamesFit w script
  pub metas : List MetaDesc
  pub metamodels : AreMetamodels files w script metas
  pub models : List ModelData
  pub read : AreModels files w script (numbered_metas w script metas) models

-- a fault stands in the script
abbrev pub IsRefused : (files : Files) (w : CheckWords) → Inputs files w → Reply → Type 0
IsRefused files w i = ScriptRefused w.script (numbered_metas w i.script i.metas) i.script (target_of w)

-- it resolves to the program
abbrev pub ResolvesTo : (files : Files) (w : CheckWords) → Inputs files w → Program → Type 0
ResolvesTo files w i = IsResolved (numbered_metas w i.script i.metas) i.script (target_of w)

-- what is then asked
abbrev pub question_of : (files : Files) (w : CheckWords) → Inputs files w → Program → Question
question_of files w i program =
    record { metas = numbered_metas w i.script i.metas; program = program; models = numbered_models w i.script i.models }

-- Two replies of which either may be told: they are one, or tell two faults that stand in the script, or are alike as replies of the last step.
pub data AreAlike (AreAlikeLast : Question → Reply → Reply → Type 0) (files : Files) (w : CheckWords) : Reply → Reply → Type 0 where
  same : (reply : Reply) → AreAlike AreAlikeLast files w reply reply
  faults : (i : Inputs files w) → (reply other : Reply) → IsRefused files w i reply → IsRefused files w i other → AreAlike AreAlikeLast files w reply other
  lasts : (i : Inputs files w) → (program : Program) → ResolvesTo files w i program
      → (reply other : Reply) → AreAlikeLast (question_of files w i program) reply other → AreAlike AreAlikeLast files w reply other

-- No step up to the sixth refuses the files, and this is a reply of the last one.
pub record HasPassed (Last : Question → Reply → Type 0) (files : Files) (w : CheckWords) (reply : Reply) : Type 0 where
  pub inputs : Inputs files w
  pub program : Program
  pub resolved : ResolvesTo files w inputs program
  pub last : Last (question_of files w inputs program) reply
