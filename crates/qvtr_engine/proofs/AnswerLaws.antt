-- Words have one answer, or answers that are alike.
use Rattle.std.proofs.Common.{◌≡◌, ◌⊎◌, inl, List, ℕ, refl, sym, ◌∙◌, subst}
use Rattle.vault_io.specs.Files.{Files}
use Rattle.mof_metamodel.specs.declared.desc.MetaDesc.{MetaDesc}
use Rattle.qv_syntax.specs.declared.script.Script.{Script}
use Rattle.answer_texts.specs.Question.{Question}
use Rattle.qvtr_engine.specs.declared.mode.Mode.{Mode}
use Rattle.qvtr_engine.specs.declared.mode.Mode.TheVariants.{Check, Enforce, Trace}
use Rattle.qvtr_engine.specs.declared.status.Status.TheVariants.{Refused, Chain}
use Rattle.qvtr_engine.specs.Answer.{Answer, usage, replied, IsReply, HasOneAnswer, AreAlikeAnswers, same, executed}
use Rattle.qvtr_engine.specs.CheckedRelations.{ChainsStop, cyclic, deep}
use Rattle.qvtr_engine.specs.CheckedScript.{ScriptRefused, fault}
use Rattle.qvtr_engine.specs.CheckWords.{CheckWords}
use Rattle.qvtr_engine.specs.ConvertWords.{ConvertWords, IsConvert}
use Rattle.qvtr_engine.specs.Command.{Command, executes, converts, generates, IsCommand}
use Rattle.qvtr_engine.specs.ExecutionAnswer.{are_alike_last}
use Rattle.qvtr_engine.specs.Reply.{Reply, misused, status_of}
use Rattle.qvtr_engine.specs.Run.{AreExchanged}
use Rattle.qvtr_engine.specs.StepsAnswer.{AreAlike, question_of}
use Rattle.qvtr_engine.specs.StepsAnswer as alike
use Rattle.qvtr_engine.specs.Target.{target_path}
use Rattle.qvtr_engine.proofs.ConvertAnswerLaws.{convert_answer_single}
use Rattle.qvtr_engine.proofs.ConvertAnsweredLaws.{Replied, answered_by, convert_replied}
use Rattle.qvtr_engine.proofs.CommandLaws.{one_command}
use Rattle.qvtr_engine.proofs.EnforceAlikeLaws.{refusal_statuses}
use Rattle.qvtr_engine.proofs.GenLaws.{one_generation}
use Rattle.qvtr_engine.proofs.OneExecutionLaws.{one_execution}

one_answer : (words : List (List ℕ)) (files : Files) (reply other : Reply) → reply ≡ other → AreAlikeAnswers words files reply other
one_answer words files reply other e = subst (AreAlikeAnswers words files reply) e (same reply)

-- replies to one command
replies_alike : (words : List (List ℕ)) (files : Files) (command : Command) → IsCommand words command → (reply other : Reply) → IsReply files command reply
    → IsReply files command other → AreAlikeAnswers words files reply other
replies_alike words files (executes mode w) is reply other a b = executed mode w is reply other (one_execution mode files w reply other a b)
replies_alike words files (converts c) is reply other a b = one_answer words files reply other (convert_answer_single files c reply other a b)
replies_alike words files (generates g) is reply other a b = one_answer words files reply other (one_generation g reply other a b)

pub answers_alike : (words : List (List ℕ)) (files : Files) (reply other : Reply) → Answer words files reply → Answer words files other → AreAlikeAnswers words files reply other
answers_alike words files misused misused (usage u) (usage v) = same misused
answers_alike words files misused other (usage u) (replied command is o r) = absurd (u command is)
answers_alike words files reply misused (replied command is o r) (usage u) = absurd (u command is)
answers_alike words files reply other (replied one a p r) (replied two b q s) =
    replies_alike words files two b p q (subst (λ command. IsReply files command p) (one_command words one two a b) r) s

-- ---- they have one status, or such of which one may be told in place of the other

abbrev pub HaveAlikeStatuses : Reply → Reply → Type 0
HaveAlikeStatuses reply other = (status_of reply ≡ status_of other) ⊎ AreExchanged (status_of reply) (status_of other)

refused_status : (path : List ℕ) (metas : List MetaDesc) (s : Script) (target : List ℕ) (reply : Reply) → ScriptRefused path metas s target reply → status_of reply ≡ Refused
refused_status path metas s target reply (fault f stands) = refl

chain_status : (q : Question) (reply : Reply) → ChainsStop q reply → status_of reply ≡ Chain
chain_status q reply (cyclic chain is) = refl
chain_status q reply (deep chain is) = refl

last_statuses : (mode : Mode) (path : List ℕ) (q : Question) (reply other : Reply) → are_alike_last mode path q reply other → HaveAlikeStatuses reply other
last_statuses Check path q reply other both = inl (chain_status q reply both.one ∙ sym (chain_status q other both.two))
last_statuses Enforce path q reply other both = refusal_statuses path q reply other both.one both.two
last_statuses Trace path q reply other both = refusal_statuses path q reply other both.one both.two

execution_statuses : (mode : Mode) (files : Files) (w : CheckWords) (reply other : Reply) → AreAlike (are_alike_last mode (target_path w)) files w reply other
    → HaveAlikeStatuses reply other
execution_statuses mode files w reply other (alike.same r) = inl refl
execution_statuses mode files w reply other (alike.faults i r o s t) = inl (refused_status _ _ _ _ r s ∙ sym (refused_status _ _ _ _ o t))
execution_statuses mode files w reply other (alike.lasts i p is r o both) = last_statuses mode (target_path w) (question_of files w i p) r o both

answers_statuses : (words : List (List ℕ)) (files : Files) (reply other : Reply) → AreAlikeAnswers words files reply other → HaveAlikeStatuses reply other
answers_statuses words files reply other (same r) = inl refl
answers_statuses words files reply other (executed mode w is r o a) = execution_statuses mode files w r o a

pub alike_statuses : (words : List (List ℕ)) (files : Files) (reply other : Reply) → Answer words files reply → Answer words files other → HaveAlikeStatuses reply other
alike_statuses words files reply other a b = answers_statuses words files reply other (answers_alike words files reply other a b)

-- ---- and a conversion has one answer

convert_only : (words : List (List ℕ)) (files : Files) (c : ConvertWords) → IsConvert words c → (reply other : Reply) → IsReply files (converts c) reply → Answer words files other
    → other ≡ reply
convert_only words files c is reply misused answer (usage u) = absurd (u (converts c) is)
convert_only words files c is reply other answer (replied command named o r) =
    convert_answer_single files c o reply (subst (λ x. IsReply files x o) (one_command words command (converts c) named is) r) answer

pub convert_has_one : (words : List (List ℕ)) (files : Files) (c : ConvertWords) → IsConvert words c → HasOneAnswer words files
convert_has_one words files c is = by (convert_replied files c)
  where
    by : Replied files c → HasOneAnswer words files
    by (answered_by reply answer) = record {
      reply = reply;
      is = replied (converts c) is reply answer;
      only = λ other there. convert_only words files c is reply other answer there;
    }
