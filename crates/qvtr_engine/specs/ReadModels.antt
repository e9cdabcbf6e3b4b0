-- What is known of a model that was read, whether the files are told or not.
use Rattle.std.specs.Prelude.{◌≡◌, ◌≤◌, ◌<◌, ◌^◌, List, length, chars, All, Some, slice_get}
use Rattle.mof_metamodel.specs.declared.desc.MetaDesc.{MetaDesc}
use Rattle.object_tables.specs.declared.limit.TheConstants.{MAX_OBJECTS}
use Rattle.object_tables.specs.Kept.{Kept}
use Rattle.object_tables.specs.Models.{ModelData}
use Rattle.object_tables.specs.Validity.{Valid}
use Rattle.qv_syntax.specs.declared.script.Script.{Script}
use Rattle.qv_syntax.specs.WellFormed.{IsWellFormed}
use Rattle.qvtr_semantics.specs.Expressions.{setting}
use Rattle.ocl_environments.specs.Environments.{meta_at}
use Rattle.script_scopes.specs.Declarations.{meta_of}
use Rattle.evaluation_laws.specs.TypedValues.{AreModels}
use Rattle.answer_texts.specs.Question.{Question}
use Rattle.enforce_steps.specs.Premises.{HasFewConjuncts}
use Rattle.qvtr_engine.specs.declared.numbering_inputs.Found.{Found}

-- it is a valid model of the metamodel by which it was read, within the limit on objects
pub record IsReadBy (meta : MetaDesc) (m : ModelData) : Type 0 where
  pub meta_is : m.meta ≡ meta
  pub kept : Kept m
  pub valid : Valid m
  pub few : length m.objects ≤ MAX_OBJECTS

-- each by the metamodel of its name
abbrev pub AreRead : Script → List MetaDesc → List (Found ModelData) → Type 0
AreRead s metas found = All (λ f. IsReadBy (meta_at metas (meta_of s (chars f.name.now))) f.item) found

-- a program that a script resolves to, over models that were read for it
pub record IsReadQuestion (q : Question) : Type 0 where
  pub well : IsWellFormed q.metas q.program
  pub rels : length q.program.rels < 2 ^ 32
  pub queries : length q.program.queries < 2 ^ 32
  pub wheres : All HasFewConjuncts q.program.rels
  pub count : length q.models ≡ length q.program.models
  pub models : AreModels q.metas (setting q.program q.models)
  pub read : (m : ModelData) → slice_get q.models q.program.target ≡ Some m → Valid m × (length m.objects ≤ MAX_OBJECTS)
