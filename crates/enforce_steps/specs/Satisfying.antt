-- What an enforcement leaves that isn't refused: a target with which the relations hold (QVT 1.3, sections 7.2 and 7.10.2).
use Rattle.std.specs.Prelude.{◌≡◌, ℕ, List}
use Rattle.object_tables.specs.Models.{ModelData}
use Rattle.qvtr_semantics.specs.Calls.{RelationCall}
use Rattle.qvtr_semantics.specs.Chains.{CyclicChain, DeepChain}
use Rattle.qvtr_semantics.specs.Satisfaction.{Satisfied}
use Rattle.repair_laws.specs.Repairs.{with_target}
use Rattle.enforce_mode.specs.Made.{IsSound}
use Rattle.answer_texts.specs.Question.{Question}
use Rattle.enforce_steps.specs.Endings.{Ended, refused, unchanged, changed, traced, OutputData}
use Rattle.enforce_steps.specs.StepTexts.{text_in}

-- over these models the relations are satisfied, and no chain of calls is refused
pub record HoldsOver (q : Question) (models : List ModelData) : Type 0 where
  pub satisfied : Satisfied q.program models
  pub acyclic : (chain : List RelationCall) → ¬ CyclicChain q.program models chain
  pub short : (chain : List RelationCall) → ¬ DeepChain q.program models chain

-- the bytes are the text of a sound model with which, as the target, the relations hold
pub record AreSatisfying (q : Question) (o : OutputData) (bytes : List ℕ) : Type 0 where
  pub made : ModelData
  pub text : bytes ≡ text_in o.form made
  pub sound : IsSound made
  pub holds : HoldsOver q (with_target q.program q.models made)

-- where the target stays they hold with it, and where it changes with what its file becomes
abbrev pub LeavesSatisfied : Question → OutputData → Ended → Type 0
LeavesSatisfied q o (refused cause text) = Unit {0}
LeavesSatisfied q o unchanged = HoldsOver q q.models
LeavesSatisfied q o (changed bytes report) = AreSatisfying q o bytes
LeavesSatisfied q o (traced text) = Unit {0}
