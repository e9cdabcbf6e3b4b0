-- The last replies to a check are alike, where a relation has one least failing binding.
use Rattle.vault_io.specs.Files.{Files}
use Rattle.qv_syntax.specs.declared.program.Program.{Program}
use Rattle.answer_texts.specs.Question.{Question}
use Rattle.qvtr_engine.specs.CheckAnswer.{VerdictAnswer, AreChains}
use Rattle.qvtr_engine.specs.CheckWords.{CheckWords}
use Rattle.qvtr_engine.specs.CheckedRelations.{ChainsEnd, ChainsStop, cyclic, deep, IsVerdict}
use Rattle.qvtr_engine.specs.Reply.{Reply}
use Rattle.qvtr_engine.specs.StepsAnswer.{Inputs, ResolvesTo, question_of, AreAlike, lasts}
use Rattle.qvtr_engine.proofs.VerdictLaws.{HaveOneLeast, one_verdict}
use Rattle.qvtr_engine.proofs.AlikeLaws.{one_alike}
use Rattle.qvtr_engine.proofs.StepLaws.{one_test}

ended_or_stopped : (q : Question) (reply : Reply) → ChainsEnd q → ChainsStop q reply → ⊥
ended_or_stopped q reply end (cyclic chain is) = end.cyclic chain is
ended_or_stopped q reply end (deep chain is) = end.deep chain is

-- the last steps

pub verdicts_alike : (files : Files) (w : CheckWords) → ((q : Question) → HaveOneLeast q) → (i : Inputs files w) (p : Program) → ResolvesTo files w i p
    → (r o : Reply) → VerdictAnswer (question_of files w i p) r → VerdictAnswer (question_of files w i p) o → AreAlike AreChains files w r o
verdicts_alike files w least i p is r o x y =
    let q : Question = question_of files w i p in
    one_test (ChainsEnd q) (ChainsStop q) (IsVerdict q) (AreAlike AreChains files w)
    (record { apart = λ reply. ended_or_stopped q reply; alike = λ a b s t. lasts i p is a b (record { one = s; two = t }) })
    (λ end a b s t. one_alike VerdictAnswer AreChains files w a b (one_verdict q (least q) a b s t)) r o x y
