-- What `check` is answered over the files of a vault: its last steps are that no chain of calls is refused, and the verdict. It has no seventh.
use Rattle.vault_io.specs.Files.{Files}
use Rattle.answer_texts.specs.Question.{Question}
use Rattle.qvtr_engine.specs.CheckWords.{CheckWords}
use Rattle.qvtr_engine.specs.CheckedRelations.{ChainsEnd, ChainsStop, IsVerdict}
use Rattle.qvtr_engine.specs.Reply.{Reply}
use Rattle.qvtr_engine.specs.Steps.{Test}
use Rattle.qvtr_engine.specs.StepsAnswer.{StepsAnswer}

-- steps 8 and 9: the chains of calls, and the verdict
abbrev pub VerdictAnswer : Question → Reply → Type 0
VerdictAnswer q = Test (ChainsEnd q) (ChainsStop q) (IsVerdict q)

abbrev pub CheckAnswer : Files → CheckWords → Reply → Type 0
CheckAnswer files w = StepsAnswer VerdictAnswer files w

-- both tell a chain that is reached
pub record AreChains (q : Question) (reply other : Reply) : Type 0 where
  pub one : ChainsStop q reply
  pub two : ChainsStop q other
