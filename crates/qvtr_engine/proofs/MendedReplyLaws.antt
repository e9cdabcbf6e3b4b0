-- What an enforcement is answered, and what the files are then.
use Rattle.std.proofs.Common.{◌≡◌, ℕ, true, List, refl, sym, ◌∙◌, subst, true≢false, inl}
use Rattle.vault_io.specs.Files.{Files}
use Rattle.object_tables.specs.Models.{ModelData}
use Rattle.model_assembly.specs.Held.{IsHeldModel}
use Rattle.qv_syntax.specs.declared.program.Program.{Program}
use Rattle.qvtr_semantics.specs.Satisfaction.{Satisfied}
use Rattle.repair_semantics.specs.declared.report.Report.{Report}
use Rattle.enforce_mode.specs.Made.{IsSound}
use Rattle.answer_texts.specs.Question.{Question}
use Rattle.enforce_steps.specs.Endings.{Ended, unchanged, OutputData}
use Rattle.enforce_steps.specs.EnforceAnswer.{DemandsStop, not_enforceable, cyclic, deep, unmet, conflict, EnforceAnswer, against, IsFit, IsMadeSo, MadeStops, many, invalid, deep_objects, MadeEnds}
use Rattle.enforce_steps.specs.EnforceAnswer as steps
use Rattle.enforce_steps.specs.Premises.{IsAskable, IsReadTarget}
use Rattle.enforce_steps.specs.Satisfying.{LeavesSatisfied}
use Rattle.enforce_steps.specs.StepTexts.{text_in}
use Rattle.qvtr_engine.specs.declared.mode.Mode.TheVariants.{Check, Enforce}
use Rattle.qvtr_engine.specs.declared.status.Status.TheVariants.{Done}
use Rattle.qvtr_engine.specs.Answer.{files_after}
use Rattle.qvtr_engine.specs.CheckWords.{CheckWords, check_paths}
use Rattle.qvtr_engine.specs.CheckedRelations.{IsVerdict, yes, no}
use Rattle.qvtr_engine.specs.ExecutionAnswer.{EnforcementAnswer, ExecutionAnswer, ends, last_over, output_at, reply_of_end}
use Rattle.qvtr_engine.specs.Mended.{IsMended, IsAllNeeded}
use Rattle.qvtr_engine.specs.Paths.{are_all_apart}
use Rattle.qvtr_engine.specs.Reply.{Reply, holds, kept, status_of}
use Rattle.qvtr_engine.specs.StepsAnswer.{Inputs, ResolvesTo, question_of}
use Rattle.qvtr_engine.specs.Target.{target_form, target_path}
use Rattle.qvtr_engine.proofs.CheckedLaws.{judged_check, passed_steps}
use Rattle.qvtr_engine.proofs.MendedLaws.{AreSatisfying, AreEnding, AreMadeAgain, AreStaying, can_be_enforced}
use Rattle.qvtr_engine.proofs.MendedFileLaws.{check_holds, mended_then, same_question}

-- ---- an end that is done

demand_not_done : (q : Question) (path : List ℕ) (end : Ended) → DemandsStop q end → status_of (reply_of_end path end) ≡ Done → ⊥
demand_not_done q path end (not_enforceable b x) d = cc
demand_not_done q path end (cyclic can chain x) d = cc
demand_not_done q path end (deep can chain x) d = cc
demand_not_done q path end (unmet can e place x at) d = cc
demand_not_done q path end (conflict can clash x) d = cc

made_not_done : (o : OutputData) (path : List ℕ) (made : ModelData) (end : Ended) → MadeStops o made end → status_of (reply_of_end path end) ≡ Done → ⊥
made_not_done o path made end (many x) d = cc
made_not_done o path made end (invalid few b id x at) d = cc
made_not_done o path made end (deep_objects few valid x) d = cc
made_not_done o path made end (steps.long sound x) d = cc

-- ---- a verdict that is yes

verdict_holds : (q : Question) (reply : Reply) → IsVerdict q reply → reply ≡ holds → Satisfied q.program q.models
verdict_holds q reply (yes s) e = s
verdict_holds q reply (no number b least) e = absurd (cc)

-- ---- what is known of the program that the words name, and of the model that is made

-- an enforcement that isn't refused leaves a target with which the relations hold
abbrev pub AreLeftSatisfied : Type 0
AreLeftSatisfied = (q : Question) (o : OutputData) (end : Ended) → IsAskable q → EnforceAnswer q o end → LeavesSatisfied q o end

module _ (satisfied : AreSatisfying) (chains : AreEnding) (again : AreMadeAgain) (left : AreLeftSatisfied) (files : Files) (w : CheckWords) (apart : are_all_apart (check_paths w) ≡ true)
  where
    module _ (i : Inputs files w) (program : Program) (is : ResolvesTo files w i program) where
      abbrev asked : Question
      asked = question_of files w i program

      abbrev output : OutputData
      output = output_at (target_form files w) (target_path w)

      abbrev IsMendedBy : Ended → Type 0
      IsMendedBy end = ExecutionAnswer Enforce files w (reply_of_end (target_path w) end) → IsMended (files_after (reply_of_end (target_path w) end) files) w

      of_made : (made : ModelData) (report : Report) (so : IsMadeSo asked made report) (fit : IsFit output made) → IsAskable asked → IsHeldModel made → (end : Ended)
          → MadeEnds (text_in (target_form files w) made) report end → IsMendedBy end
      of_made made report so fit can holds_text end (steps.same u) a = record {
        holds = check_holds files w i program is apart (left asked output unchanged can (steps.done made report so fit unchanged (steps.same u)));
        kept = a;
      }
      of_made made report so fit can holds_text end (steps.mended u) a =
          mended_then files w i program is apart satisfied chains again can made so.is_made fit.sound holds_text fit.short

      of_end : (end : Ended) → EnforceAnswer asked output end → status_of (reply_of_end (target_path w) end) ≡ Done → IsMendedBy end
      of_end end (steps.stopped e x) d a = absurd (demand_not_done asked (target_path w) e x d)
      of_end end (against made im e x) d a = absurd (made_not_done output (target_path w) made e x d)
      of_end end (steps.done made report so fit e x) d a = of_made made report so fit so.askable fit.held e x a

      of_reply : (reply : Reply) → EnforcementAnswer (target_form files w) (target_path w) asked reply → status_of reply ≡ Done → ExecutionAnswer Enforce files w reply
          → IsMended (files_after reply files) w
      of_reply reply (ends end x) d a = of_end end x d a

    -- over the files that an enforcement leaves that is done, a check says yes, and a further enforcement changes nothing
    pub mended_files : (reply : Reply) → ExecutionAnswer Enforce files w reply → status_of reply ≡ Done → IsMended (files_after reply files) w
    mended_files reply a d =
        let h = passed_steps (last_over Enforce files w) files w reply a (inl d) in of_reply h.inputs h.program h.resolved reply h.last d a

-- ---- where the relations hold already

module _ (staying : AreStaying) (files : Files) (w : CheckWords) (yes_before : ExecutionAnswer Check files w holds) (needed : IsAllNeeded files w) where
  module _ (i : Inputs files w) (program : Program) (is : ResolvesTo files w i program) where
    abbrev asked_before : Question
    asked_before = question_of files w i program

    satisfied_before : Satisfied program asked_before.models
    satisfied_before =
        let h = judged_check files w holds yes_before (inl refl) in
        subst (λ (x : Question). Satisfied x.program x.models) (same_question files w h.inputs i h.program program h.resolved is)
        (verdict_holds (question_of files w h.inputs h.program) holds h.verdict refl)

    still : (made : ModelData) (report : Report) (so : IsMadeSo asked_before made report) → IsSound made → IsAskable asked_before → report.unchanged ≡ true
    still made report so sound can =
        let m : ModelData = so.is_made.target in
        let target : IsReadTarget m = can.target m so.is_made.target_is in
        staying asked_before.metas program asked_before.models m so.is_made.demands report (can_be_enforced asked_before can so.is_made.demanded.enforceable) so.is_made.target_is target.valid
        so.is_made.demanded.are target.numbers (subst IsSound so.is_made.made_is sound) satisfied_before (needed i program is m so.is_made.demands so.is_made.target_is so.is_made.demanded.are)
        so.is_report

    kept_made : (made : ModelData) (report : Report) (so : IsMadeSo asked_before made report) → IsSound made → IsAskable asked_before → (end : Ended)
        → MadeEnds (text_in (target_form files w) made) report end → reply_of_end (target_path w) end ≡ kept
    kept_made made report so sound can end (steps.same u) = refl
    kept_made made report so sound can end (steps.mended u) = absurd (true≢false (sym (still made report so sound can) ∙ u))

    kept_end : (end : Ended) → EnforceAnswer asked_before (output_at (target_form files w) (target_path w)) end → status_of (reply_of_end (target_path w) end) ≡ Done
        → reply_of_end (target_path w) end ≡ kept
    kept_end end (steps.stopped e x) d = absurd (demand_not_done asked_before (target_path w) e x d)
    kept_end end (against made im e x) d = absurd (made_not_done (output_at (target_form files w) (target_path w)) (target_path w) made e x d)
    kept_end end (steps.done made report so fit e x) d = kept_made made report so fit.sound so.askable e x

    kept_reply : (reply : Reply) → EnforcementAnswer (target_form files w) (target_path w) asked_before reply → status_of reply ≡ Done → reply ≡ kept
    kept_reply reply (ends end x) d = kept_end end x d

  -- an enforcement that is done leaves the target as it is
  pub satisfied_files_stay : (reply : Reply) → ExecutionAnswer Enforce files w reply → status_of reply ≡ Done → reply ≡ kept
  satisfied_files_stay reply a d =
      let h = passed_steps (last_over Enforce files w) files w reply a (inl d) in kept_reply h.inputs h.program h.resolved reply h.last d
