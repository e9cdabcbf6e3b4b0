-- The files that a run leaves whose words ask for an enforcement, and that is done.
use Rattle.std.proofs.Common.{◌≡◌, ◌⊎◌, inl, inr, ℕ, Bool, true, false, List, refl, sym, ap, subst, ◌∙◌, Option, Some, None}
use Rattle.std.specs.Prelude.{IfSome, IsSomeAnd}
use Rattle.vault_io.specs.Files.{Files}
use Rattle.object_tables.specs.Models.{ModelData}
use Rattle.qv_syntax.specs.declared.program.Program.{Program}
use Rattle.repair_semantics.specs.declared.report.Report.{Report}
use Rattle.enforce_steps.specs.Endings.{Ended, unchanged, changed}
use Rattle.enforce_steps.specs.EnforceAnswer.{IsFit, IsMadeSo, MadeEnds, done, same, mended}
use Rattle.enforce_steps.specs.StepTexts.{text_in}
use Rattle.qvtr_engine.specs.declared.mode.Mode.TheVariants.{Check, Enforce}
use Rattle.qvtr_engine.specs.declared.status.Status.{Status}
use Rattle.qvtr_engine.specs.declared.status.Status.TheVariants.{Done, Fault, NoMemory}
use Rattle.qvtr_engine.specs.Answer.{Answer, usage, replied, IsReply, files_after}
use Rattle.qvtr_engine.specs.CheckWords.{CheckWords, check_paths}
use Rattle.qvtr_engine.specs.Command.{executes, IsExecution}
use Rattle.qvtr_engine.specs.ExecutionAnswer.{ExecutionAnswer, ends, output_at, reply_of_end}
use Rattle.qvtr_engine.specs.Mended.{IsMended, IsAllNeeded}
use Rattle.qvtr_engine.specs.Paths.{are_all_apart}
use Rattle.qvtr_engine.specs.Reply.{Reply, holds, kept, status_of}
use Rattle.qvtr_engine.specs.Run.{Due, answered, starved, faulted_at, faulted_after, Ends, printed, cut_off, AreExchanged, IsOwed, IsOwedOrOther}
use Rattle.qvtr_engine.specs.Steps.{went_on, passed}
use Rattle.qvtr_engine.specs.StepsAnswer.{Inputs, ResolvesTo, question_of}
use Rattle.qvtr_engine.specs.Target.{target_form, target_path}
use Rattle.qvtr_engine.proofs.CommandLaws.{one_command}
use Rattle.qvtr_engine.proofs.RunLaws.{all_only}

-- the reply to the words of an enforcement
abbrev IsEnforced : Files → CheckWords → Reply → Type 0
IsEnforced files w reply = ExecutionAnswer Enforce files w reply × (status_of reply ≡ Done)

answer_enforced : (words : List (List ℕ)) (files : Files) (w : CheckWords) → IsExecution Enforce words w → (reply : Reply) → Answer words files reply → status_of reply ≡ Done
    → IsEnforced files w reply
answer_enforced words files w is reply (usage u) d = absurd (u (executes Enforce w) is)
answer_enforced words files w is reply (replied command h p r) d = (subst (λ x. IsReply files x p) (one_command words command (executes Enforce w) h is) r, d)

-- the files after a run that is done are those after such a reply
pub record AreAfter (files : Files) (w : CheckWords) (then : Files) : Type 0 where
  pub reply : Reply
  pub enforced : IsEnforced files w reply
  pub after : then ≡ files_after reply files

fault_is_not_done : Fault ≡ Done → ⊥
fault_is_not_done e = cc

no_memory_is_not_done : NoMemory ≡ Done → ⊥
no_memory_is_not_done e = cc

due_after : (words : List (List ℕ)) (files : Files) (w : CheckWords) (faulted : Type 0) (status : Status) (text : List ℕ) (then : Files) → IsExecution Enforce words w
    → Due words files faulted status text then → status ≡ Done → AreAfter files w then
due_after words files w faulted status text then is (answered reply a) d = record { reply = reply; enforced = answer_enforced words files w is reply a d; after = refl }
due_after words files w faulted NoMemory text then is starved d = absurd (no_memory_is_not_done d)
due_after words files w faulted Fault text then is (faulted_at f path p) d = absurd (fault_is_not_done d)
due_after words files w faulted Fault text then is (faulted_after f reply a file at) d = absurd (fault_is_not_done d)

ends_after : (words : List (List ℕ)) (files : Files) (w : CheckWords) (vault_faulted sink_faulted : Type 0) (before after : Option (List ℕ)) (told : Option Files) (result : Status)
    → IsExecution Enforce words w → Ends words files vault_faulted sink_faulted before after told result → result ≡ Done → (then : Files) × (told ≡ Some then) × AreAfter files w then
ends_after words files w vf sf before after told result is (printed text then due told_is at) d = (then, told_is, due_after words files w vf result text then is due d)
ends_after words files w vf sf before after told Fault is (cut_off text then due told_is f p) d = absurd (fault_is_not_done d)

if_some_map : {X : Type 0} (o : Option X) (P Q : X → Type 0) → ((x : X) → P x → Q x) → IfSome o P → IfSome o Q
if_some_map None P Q f h = tt
if_some_map (Some x) P Q f h = f x h

-- ---- a check of them says yes, and a further enforcement leaves them

abbrev pub AreAllMended : Type 0
AreAllMended = (files : Files) (w : CheckWords) (reply : Reply) → are_all_apart (check_paths w) ≡ true → ExecutionAnswer Enforce files w reply → status_of reply ≡ Done
    → IsMended (files_after reply files) w

pub all_mended : AreAllMended → (told : Option Files) (words : List (List ℕ)) (vault_faulted sink_faulted : Type 0) (before after : Option (List ℕ)) (told_after : Option Files) (result : Status)
    → IfSome told (λ files. Ends words files vault_faulted sink_faulted before after told_after result)
    → IfSome told (λ files. (w : CheckWords) → IsExecution Enforce words w → result ≡ Done → IsSomeAnd told_after (λ then. IsMended then w))
all_mended law told words vf sf before after told_after result e =
    if_some_map told _ _
    (λ files run w is d.
    let (then, told_is, x) = ends_after words files w vf sf before after told_after result is run d in
    subst (λ (t : Option Files). IsSomeAnd t (λ (f : Files). IsMended f w)) (sym told_is)
    (subst (λ (f : Files). IsMended f w) (sym x.after) (law files w x.reply is.apart x.enforced.0 x.enforced.1))) e

-- ---- where they were so before, they stay

abbrev pub AreAllKept : Type 0
AreAllKept = (files : Files) (w : CheckWords) (reply : Reply) → ExecutionAnswer Check files w holds → IsAllNeeded files w → ExecutionAnswer Enforce files w reply
    → status_of reply ≡ Done → reply ≡ kept

pub all_kept : AreAllKept → (told : Option Files) (words : List (List ℕ)) (vault_faulted sink_faulted : Type 0) (before after : Option (List ℕ)) (told_after : Option Files) (result : Status)
    → IfSome told (λ files. Ends words files vault_faulted sink_faulted before after told_after result)
    → IfSome told (λ files. (w : CheckWords) → IsExecution Enforce words w → ExecutionAnswer Check files w holds → IsAllNeeded files w → result ≡ Done → told_after ≡ Some files)
all_kept law told words vf sf before after told_after result e =
    if_some_map told _ _
    (λ files run w is yes needed d.
    let (then, told_is, x) = ends_after words files w vf sf before after told_after result is run d in
    told_is ∙ ap Some (x.after ∙ ap (λ (r : Reply). files_after r files) (law files w x.reply yes needed x.enforced.0 x.enforced.1))) e

-- ---- where nothing stands against what is made, an enforcement is done

some_end : (text : List ℕ) (report : Report) (b : Bool) → report.unchanged ≡ b → (end : Ended) × MadeEnds text report end
some_end text report true e = (unchanged, same e)
some_end text report false e = (changed text report, mended e)

end_is_done : (path text : List ℕ) (report : Report) (end : Ended) → MadeEnds text report end → status_of (reply_of_end path end) ≡ Done
end_is_done path text report end (same u) = refl
end_is_done path text report end (mended u) = refl

done_answer : (files : Files) (w : CheckWords) (i : Inputs files w) (program : Program) → ResolvesTo files w i program → (made : ModelData) (report : Report)
    → IsMadeSo (question_of files w i program) made report → IsFit (output_at (target_form files w) (target_path w)) made
    → (reply : Reply) × ExecutionAnswer Enforce files w reply × (status_of reply ≡ Done)
done_answer files w i program is made report so fit =
    let (end, x) = some_end (text_in (target_form files w) made) report report.unchanged refl in (
      reply_of_end (target_path w) end,
      went_on i.script i.at (passed i.fit (went_on i.metas i.metamodels (went_on i.models i.read (went_on program is (ends end (done made report so fit end x)))))),
      end_is_done (target_path w) (text_in (target_form files w) made) report end x,
    )

none_for_done : (result : Status) → AreExchanged Done result → ⊥
none_for_done result e = elim e [ ]

owed_done : (words : List (List ℕ)) (files : Files) (owed result : Status) (faulted : Type 0) → owed ≡ Done → IsOwedOrOther words files owed faulted result → IsOwed Done faulted result
owed_done words files owed result faulted e (inl h) = subst (λ (s : Status). IsOwed s faulted result) e h
owed_done words files owed result faulted e (inr h) = absurd (none_for_done result (subst (λ (s : Status). AreExchanged s result) e h.exchanged))

pub all_enforces : (told : Option Files) (words : List (List ℕ)) (vault_faulted sink_faulted : Type 0) (before after : Option (List ℕ)) (told_after : Option Files) (result : Status)
    → IfSome told (λ files. Ends words files vault_faulted sink_faulted before after told_after result)
    → IfSome told (λ files. (w : CheckWords) (i : Inputs files w) (program : Program) (made : ModelData) (report : Report) → IsExecution Enforce words w → ResolvesTo files w i program
    → IsMadeSo (question_of files w i program) made report → IsFit (output_at (target_form files w) (target_path w)) made → IsOwed Done (vault_faulted ⊎ sink_faulted) result)
all_enforces told words vf sf before after told_after result e =
    if_some_map told _ _
    (λ files only w i program made report is resolved so fit.
    let (reply, answer, done_is) = done_answer files w i program resolved made report so fit in
    owed_done words files (status_of reply) result (vf ⊎ sf) done_is (only reply (replied (executes Enforce w) is reply answer)))
    (all_only told words vf sf before after told_after result e)
