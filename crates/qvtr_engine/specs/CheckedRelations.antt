-- The eighth and ninth step of `check`: no chain of calls is refused, and the verdict (QVT 1.3, sections 7.2.1, 7.9 and 7.10.2).
use Rattle.std.specs.Prelude.{ℕ, List}
use Rattle.qvtr_semantics.specs.Calls.{RelationCall}
use Rattle.qvtr_semantics.specs.Chains.{CyclicChain, DeepChain}
use Rattle.qvtr_semantics.specs.Satisfaction.{Satisfied, LeastFailing}
use Rattle.qvtr_semantics.specs.Templates.{Values}
use Rattle.answer_texts.specs.Question.{Question}
use Rattle.answer_texts.specs.AnswerTexts.{cycle_text, deep_text, failing_text}
use Rattle.enforce_steps.specs.declared.cause.Cause.TheVariants.{Chain}
use Rattle.qvtr_engine.specs.Reply.{Reply, holds, fails, refused_for}

-- ---- it goes on

-- no chain that is reached comes back to one of its calls, and none has too many
pub record ChainsEnd (q : Question) : Type 0 where
  pub cyclic : (chain : List RelationCall) → ¬ CyclicChain q.program q.models chain
  pub deep : (chain : List RelationCall) → ¬ DeepChain q.program q.models chain

-- ---- or stops: at such a chain, any of them

pub data ChainsStop (q : Question) : Reply → Type 0 where
  cyclic : (chain : List RelationCall) → CyclicChain q.program q.models chain → ChainsStop q (refused_for Chain (cycle_text q chain))
  deep : (chain : List RelationCall) → DeepChain q.program q.models chain → ChainsStop q (refused_for Chain (deep_text q chain))

-- ---- the verdict

-- the relations are satisfied, or the least binding that fails is told
pub data IsVerdict (q : Question) : Reply → Type 0 where
  yes : Satisfied q.program q.models → IsVerdict q holds
  no : (number : ℕ) (b : Values) → (least : LeastFailing q.program q.models number b) → IsVerdict q (fails (failing_text q least.failing.rel b))
