-- What is asked of a program and of the models that were read for it, before it is enforced (QVT 1.3, sections 7.2 and 7.11).
use Rattle.std.specs.Prelude.{◌≡◌, ◌<◌, ◌≤◌, ◌^◌, ℕ, List, length, Some, slice_get, Contains, All}
use Rattle.object_tables.specs.Models.{ModelData}
use Rattle.object_tables.specs.Validity.{Valid}
use Rattle.qv_syntax.specs.declared.program.Rel.{Rel}
use Rattle.qv_syntax.specs.WellFormed.{IsWellFormed}
use Rattle.qvtr_semantics.specs.Expressions.{setting}
use Rattle.evaluation_laws.specs.Literals.{HasStorableTexts}
use Rattle.evaluation_laws.specs.TypedValues.{AreModels}
use Rattle.answer_texts.specs.Question.{Question}

-- ---- what numbers of 32 bits count

abbrev pub AreFew : List ℕ → Type 0
AreFew numbers = All (λ v. v < 2 ^ 32) numbers

-- so do those of the variables of a relation
abbrev pub IsNumbered : Rel → Type 0
IsNumbered rel = AreFew rel.universal × AreFew rel.existential

abbrev pub AreNumbered : List Rel → Type 0
AreNumbered rels = All IsNumbered rels

-- the where clause of a relation has no more conjuncts
abbrev pub HasFewConjuncts : Rel → Type 0
HasFewConjuncts rel = length rel.wheres < 2 ^ 32

-- ---- a program that can be asked

-- the target is valid, and there are numbers for further objects
pub record IsReadTarget (m : ModelData) : Type 0 where
  pub valid : Valid m
  pub numbers : length m.objects ≤ 3_999_000_000

-- The program is well formed; numbers of 32 bits count its relations, queries, variables and conjuncts; its texts are storable; each model slot has its
-- model, which is one of its metamodel; the target is one that was read.
pub record IsAskable (q : Question) : Type 0 where
  pub well : IsWellFormed q.metas q.program
  pub rels : length q.program.rels < 2 ^ 32
  pub queries : length q.program.queries < 2 ^ 32
  pub vars : (rel : Rel) → Contains q.program.rels rel → length rel.vars ≤ 2 ^ 32
  pub wheres : All HasFewConjuncts q.program.rels
  pub texts : HasStorableTexts q.program
  pub count : length q.models ≡ length q.program.models
  pub models : AreModels q.metas (setting q.program q.models)
  pub target : (m : ModelData) → slice_get q.models q.program.target ≡ Some m → IsReadTarget m
