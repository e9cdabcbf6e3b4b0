-- How a run ends, from how the work on its command ends.
use Rattle.std.proofs.Common.{◌≡◌, ℕ, ◌≤◌, ◌⊎◌, inl, inr, Bool, true, false, List, length, refl, sym, ◌∙◌, subst, Option, Some, None}
use Rattle.std.specs.Prelude.{IfSome, IsSomeAnd}
use Rattle.std.specs.FinMap.{insert}
use Rattle.vault_io.specs.Files.{Files}
use Rattle.mof_metamodel.specs.declared.desc.MetaDesc.{MetaDesc}
use Rattle.object_tables.specs.Models.{ModelData}
use Rattle.model_files.specs.declared.fault.FileError.{FileError}
use Rattle.model_files.specs.FaultTexts.{is_limit}
use Rattle.enforce_steps.specs.declared.cause.Cause.{Cause}
use Rattle.enforce_steps.specs.declared.cause.Cause.TheVariants as causes
use Rattle.qv_syntax.specs.declared.program.Program.{Program}
use Rattle.answer_texts.specs.Question.{Question}
use Rattle.repair_semantics.specs.declared.report.Report.{Report}
use Rattle.enforce_steps.specs.Endings.{Ended, OutputData}
use Rattle.enforce_steps.specs.EnforceAnswer.{DemandsStop, not_enforceable, cyclic, deep, unmet, conflict, MadeStops, many, invalid, deep_objects, MadeEnds, against}
use Rattle.enforce_steps.specs.EnforceAnswer as steps
use Rattle.command_words.specs.declared.reading.WordsError.{WordsError}
use Rattle.command_words.specs.declared.reading.WordsError.TheVariants as errors
use Rattle.qvtr_engine.specs.declared.limits.TheConstants.{MAX_FILE}
use Rattle.qvtr_engine.specs.declared.mode.Mode.TheVariants.{Check, Enforce}
use Rattle.qvtr_engine.specs.declared.status.Status.{Status}
use Rattle.qvtr_engine.specs.declared.status.Status.TheVariants.{Done, No, Usage, Fault, Limit, NoMemory}
use Rattle.qvtr_engine.specs.declared.outcome.Outcome.{Outcome}
use Rattle.qvtr_engine.specs.declared.outcome.Outcome.TheVariants as outcome
use Rattle.qvtr_engine.specs.declared.outcome.Stop.{Stop}
use Rattle.qvtr_engine.specs.declared.outcome.Stop.TheVariants as stop
use Rattle.qvtr_engine.specs.Answer.{Answer, usage, replied, IsReply, files_after, files_with, put_of}
use Rattle.qvtr_engine.specs.CheckWords.{CheckWords}
use Rattle.qvtr_engine.specs.CheckedRelations.{IsVerdict, yes, no}
use Rattle.qvtr_engine.specs.Command.{Command, executes, converts, IsCommand, IsExecution, IsUsage, command_of, paths_of}
use Rattle.qvtr_engine.specs.CommandNames.{NamesCommand}
use Rattle.qvtr_engine.specs.CommandEnds.{CommandEnds, stopped, concluded, summarized, starved_of, put_done, put_failed, IsPutBy}
use Rattle.qvtr_engine.specs.ConvertAnswer.{ConvertAnswer, IsConverted, text_in, metamodel_stops, model_stops, output_long, put}
use Rattle.qvtr_engine.specs.ConvertWords.{ConvertWords, IsConvert}
use Rattle.qvtr_engine.specs.Enforced.{EnforcesTo, HasEnforced, stays}
use Rattle.qvtr_engine.specs.Enforced as enforced
use Rattle.qvtr_engine.specs.ExecutionAnswer.{EnforcementAnswer, ExecutionAnswer, ends, last_over, reply_of_end}
use Rattle.qvtr_engine.specs.FileStops.{Stops, unloaded, missing, long, misread}
use Rattle.qvtr_engine.specs.Outcome.{reply_of, reply_of_stop, Finishes, RefusesWords, Reports}
use Rattle.qvtr_engine.specs.Reply.{Reply, misused, unread, faulty, too_long, holds, fails, refused_for, kept, mended, traced, converted, generated, status_of, status_of_cause, status_of_fault, text_of, usage_text, fault_text, no_memory_text}
use Rattle.qvtr_engine.specs.Run.{Due, answered, starved, faulted_at, faulted_after, Ends, printed, cut_off, KeepsFiles, HasCause, IsOwed, AreExchanged, IsOwedOrOther, HasConverted}
use Rattle.qvtr_engine.specs.StepsAnswer.{Inputs, ResolvesTo, question_of}
use Rattle.qvtr_engine.specs.Stops.{StoppedBy}
use Rattle.qvtr_engine.specs.Target.{target_form, target_path}
use Rattle.qvtr_engine.specs.Verdicts.{HasVerdict, IsJudged}
use Rattle.qvtr_engine.proofs.AnswerLaws.{HaveAlikeStatuses, alike_statuses}
use Rattle.qvtr_engine.proofs.CheckedLaws.{judged_check, passed_steps, verdict_answer, no_memory_unjudged, fault_unjudged}
use Rattle.qvtr_engine.proofs.CommandLaws.{one_command, no_command_usage}

pub if_some_all : {X : Type 0} (o : Option X) (P : X → Type 0) → ((x : X) → P x) → IfSome o P
if_some_all None P f = tt
if_some_all (Some x) P f = f x

if_some_map : {X : Type 0} (o : Option X) (P Q : X → Type 0) → ((x : X) → P x → Q x) → IfSome o P → IfSome o Q
if_some_map None P Q f h = tt
if_some_map (Some x) P Q f h = f x h

-- ---- what a command came to

-- a stop leaves the files
stop_due : (words : List (List ℕ)) (files : Files) (command : Command) (faulted : Type 0) (s : Stop) → IsCommand words command
    → StoppedBy s (Some files) (λ fs. IsReply fs command) faulted (paths_of command) → IfSome (reply_of_stop s) (λ reply. Due words files faulted (status_of reply) (text_of reply) files)
stop_due words files command faulted (stop.Fault path) c (inl is) = answered (unread path.now) (replied command c (unread path.now) is)
stop_due words files command faulted (stop.Fault path) c (inr at) = faulted_at at.0 path.now (command, c, at.1)
stop_due words files command faulted (stop.TooLong path) c is = answered (too_long path.now) (replied command c (too_long path.now) is)
stop_due words files command faulted (stop.Faulty limit line) c is = answered (faulty limit line) (replied command c (faulty limit line) is)
stop_due words files command faulted (stop.Refused cause text) c is = answered (refused_for cause text) (replied command c (refused_for cause text) is)
stop_due words files command faulted stop.NoMemory c is = tt

-- and so does a reply by which nothing is put
reply_due : (words : List (List ℕ)) (files : Files) (command : Command) (faulted : Type 0) (reply : Reply) → IsCommand words command → IsReply files command reply
    → put_of reply ≡ None → Due words files faulted (status_of reply) (text_of reply) files
reply_due words files command faulted reply c is none =
    subst (λ p. Due words files faulted (status_of reply) (text_of reply) (files_with p files)) none (answered reply (replied command c reply is))

-- one that puts a file is done
put_due : (words : List (List ℕ)) (files : Files) (command : Command) (faulted : Type 0) (reply : Reply) (path bytes : List ℕ) → IsCommand words command
    → IsReply files command reply → IsPutBy command reply path bytes → Due words files faulted Done (text_of reply) (insert files path bytes)
put_due words files command faulted reply path bytes c is by =
    subst (λ status. Due words files faulted status (text_of reply) (insert files path bytes)) by.done
    (subst (λ p. Due words files faulted (status_of reply) (text_of reply) (files_with p files)) by.puts (answered reply (replied command c reply is)))

-- ---- what is due is printed

pub due_ends : (words : List (List ℕ)) (files then : Files) (vault_faulted sink_faulted : Type 0) (before after : Option (List ℕ)) (told : Option Files) (status : Status) (text : List ℕ) (result : Status)
    → Due words files vault_faulted status text then → told ≡ Some then → Finishes status text before after sink_faulted result
    → Ends words files vault_faulted sink_faulted before after told result
due_ends words files then vf sf before after told status text result due is (inl p) =
    subst (λ s. Ends words files vf sf before after told s) (sym p.0) (printed text then due is p.1)
due_ends words files then vf sf before after told status text result due is (inr p) =
    subst (λ s. Ends words files vf sf before after told s) (sym p.0) (cut_off text then due is p.1 p.2)

-- what was reported of a reply that is due
reported_ends : (words : List (List ℕ)) (files : Files) (vault_faulted sink_faulted : Type 0) (before after : Option (List ℕ)) (told : Option Files) (reply : Option Reply) (result : Status)
    → IfSome reply (λ r. Due words files vault_faulted (status_of r) (text_of r) files) → told ≡ Some files → Reports reply before after sink_faulted result
    → Ends words files vault_faulted sink_faulted before after told result
reported_ends words files vf sf before after told None result due is (inl f) = absurd f
reported_ends words files vf sf before after told (Some r) result due is (inl f) = due_ends words files files vf sf before after told _ _ result due is f
reported_ends words files vf sf before after told reply result due is (inr f) = due_ends words files files vf sf before after told NoMemory no_memory_text result starved is f

pub command_ends : (told : Option Files) (words : List (List ℕ)) (command : Command) (vault_faulted sink_faulted : Type 0) (before after : Option (List ℕ)) (told_after : Option Files) (result : Status)
    → IsCommand words command → CommandEnds told command vault_faulted sink_faulted before after told_after result
    → IfSome told (λ files. Ends words files vault_faulted sink_faulted before after told_after result)
command_ends None words command vf sf before after told_after result is e = tt
command_ends (Some files) words command vf sf before after told_after result is (stopped s st left r) =
    reported_ends words files vf sf before after told_after (reply_of_stop s) result (stop_due words files command vf s is st) left r
command_ends (Some files) words command vf sf before after told_after result is (concluded o due none r left) =
    reported_ends words files vf sf before after told_after (Some (reply_of o)) result (reply_due words files command vf (reply_of o) is due none) left r
command_ends (Some files) words command vf sf before after told_after result is (summarized s due r left) =
    reported_ends words files vf sf before after told_after (Some (generated s)) result (reply_due words files command vf (generated s) is due refl) left r
command_ends (Some files) words command vf sf before after told_after result is (starved_of left r) =
    reported_ends words files vf sf before after told_after None result tt left r
command_ends (Some files) words command vf sf before after told_after result is (put_done reply path bytes due by same f) =
    due_ends words files (insert files path bytes) vf sf before after told_after Done (text_of reply) result (put_due words files command vf reply path bytes is due by) same f
command_ends (Some files) words command vf sf before after told_after result is (put_failed reply path bytes due by faulted (inl same) f) =
    due_ends words files files vf sf before after told_after Fault (fault_text path) result (faulted_at faulted path (command, is, by.named)) same f
command_ends (Some files) words command vf sf before after told_after result is (put_failed reply path bytes due by faulted (inr same) f) =
    due_ends words files (insert files path bytes) vf sf before after told_after Fault (fault_text path) result
    (faulted_after faulted reply (replied command is reply due) (record { path = path; bytes = bytes }) by.puts) same f

-- words in which no command was read
pub words_ends : (told : Option Files) (words : List (List ℕ)) (vault_faulted sink_faulted : Type 0) (before after : Option (List ℕ)) (error : WordsError) (result : Status)
    → (error ≡ errors.Usage → command_of words ≡ None) → RefusesWords error before after sink_faulted result
    → IfSome told (λ files. Ends words files vault_faulted sink_faulted before after told result)
words_ends None words vf sf before after error result none f = tt
words_ends (Some files) words vf sf before after errors.Usage result none f =
    due_ends words files files vf sf before after (Some files) Usage usage_text result (answered misused (usage (no_command_usage words (none refl)))) refl f
words_ends (Some files) words vf sf before after errors.NoMemory result none f =
    due_ends words files files vf sf before after (Some files) NoMemory no_memory_text result starved refl f

-- ---- causes

answer_cause : (words : List (List ℕ)) (files : Files) (faulted : Type 0) (reply : Reply) → Answer words files reply → HasCause words files faulted (status_of reply)
answer_cause words files faulted misused a = (misused, a, refl)
answer_cause words files faulted (unread path) a = inl (unread path, a, refl)
answer_cause words files faulted (faulty true line) a = (faulty true line, a, refl)
answer_cause words files faulted (faulty false line) a = (faulty false line, a, refl)
answer_cause words files faulted (too_long path) a = (too_long path, a, refl)
answer_cause words files faulted holds a = (holds, a, refl)
answer_cause words files faulted (fails x) a = (fails x, a, refl)
answer_cause words files faulted (refused_for causes.NotEnforceable text) a = (refused_for causes.NotEnforceable text, a, refl)
answer_cause words files faulted (refused_for causes.Chain text) a = (refused_for causes.Chain text, a, refl)
answer_cause words files faulted (refused_for causes.Unmet text) a = (refused_for causes.Unmet text, a, refl)
answer_cause words files faulted (refused_for causes.Conflict text) a = (refused_for causes.Conflict text, a, refl)
answer_cause words files faulted (refused_for causes.Invalid text) a = (refused_for causes.Invalid text, a, refl)
answer_cause words files faulted (refused_for causes.Limit text) a = (refused_for causes.Limit text, a, refl)
answer_cause words files faulted kept a = (kept, a, refl)
answer_cause words files faulted (mended path bytes report) a = (mended path bytes report, a, refl)
answer_cause words files faulted (traced text) a = (traced text, a, refl)
answer_cause words files faulted (converted path bytes) a = (converted path bytes, a, refl)
answer_cause words files faulted (generated summary) a = (generated summary, a, refl)

due_cause : (words : List (List ℕ)) (files : Files) (vault_faulted sink_faulted : Type 0) (status : Status) (text : List ℕ) (then : Files)
    → Due words files vault_faulted status text then → HasCause words files (vault_faulted ⊎ sink_faulted) status
due_cause words files vf sf status text then (answered reply a) = answer_cause words files (vf ⊎ sf) reply a
due_cause words files vf sf NoMemory text then starved = tt
due_cause words files vf sf Fault text then (faulted_at f path p) = inr (inl f)
due_cause words files vf sf Fault text then (faulted_after f reply a file is) = inr (inl f)

ends_cause : (words : List (List ℕ)) (files : Files) (vault_faulted sink_faulted : Type 0) (before after : Option (List ℕ)) (told : Option Files) (result : Status)
    → Ends words files vault_faulted sink_faulted before after told result → HasCause words files (vault_faulted ⊎ sink_faulted) result
ends_cause words files vf sf before after told result (printed text then due is at) = due_cause words files vf sf result text then due
ends_cause words files vf sf before after told Fault (cut_off text then due is f p) = inr (inr f)

pub all_cause : (told : Option Files) (words : List (List ℕ)) (vault_faulted sink_faulted : Type 0) (before after : Option (List ℕ)) (told_after : Option Files) (result : Status)
    → IfSome told (λ files. Ends words files vault_faulted sink_faulted before after told_after result) → IfSome told (λ files. HasCause words files (vault_faulted ⊎ sink_faulted) result)
all_cause told words vf sf before after told_after result e = if_some_map told _ _ (λ files. ends_cause words files vf sf before after told_after result) e

-- ---- an answer that is owed has the status, unless memory or the outside fails

owed_by : (words : List (List ℕ)) (files : Files) (faulted : Type 0) (reply owed : Reply) → Answer words files reply → HaveAlikeStatuses owed reply
    → IsOwedOrOther words files (status_of owed) faulted (status_of reply)
owed_by words files faulted reply owed a (inl same) = inl (inl (sym same))
owed_by words files faulted reply owed a (inr other) = inr (record { exchanged = other; answered = (reply, a, refl) })

due_only : (words : List (List ℕ)) (files : Files) (faulted : Type 0) (status : Status) (text : List ℕ) (then : Files) (owed : Reply)
    → Due words files faulted status text then → Answer words files owed → IsOwedOrOther words files (status_of owed) faulted status
due_only words files faulted status text then owed (answered reply a) b = owed_by words files faulted reply owed a (alike_statuses words files owed reply b a)
due_only words files faulted NoMemory text then owed starved b = inl (inr (inl refl))
due_only words files faulted Fault text then owed (faulted_at f path p) b = inl (inr (inr (refl, f)))
due_only words files faulted Fault text then owed (faulted_after f reply a file is) b = inl (inr (inr (refl, f)))

owed_wider : (owed result : Status) (P Q : Type 0) → (P → Q) → IsOwed owed P result → IsOwed owed Q result
owed_wider owed result P Q f (inl e) = inl e
owed_wider owed result P Q f (inr (inl e)) = inr (inl e)
owed_wider owed result P Q f (inr (inr p)) = inr (inr (p.0, f p.1))

other_wider : (words : List (List ℕ)) (files : Files) (owed result : Status) (P Q : Type 0) → (P → Q) → IsOwedOrOther words files owed P result → IsOwedOrOther words files owed Q result
other_wider words files owed result P Q f (inl h) = inl (owed_wider owed result P Q f h)
other_wider words files owed result P Q f (inr h) = inr h

ends_only : (words : List (List ℕ)) (files : Files) (vault_faulted sink_faulted : Type 0) (before after : Option (List ℕ)) (told : Option Files) (result : Status) (owed : Reply)
    → Ends words files vault_faulted sink_faulted before after told result → Answer words files owed → IsOwedOrOther words files (status_of owed) (vault_faulted ⊎ sink_faulted) result
ends_only words files vf sf before after told result owed (printed text then due is at) a =
    other_wider words files (status_of owed) result vf (vf ⊎ sf) inl (due_only words files vf result text then owed due a)
ends_only words files vf sf before after told Fault owed (cut_off text then due is f p) a = inl (inr (inr (refl, inr f)))

pub all_only : (told : Option Files) (words : List (List ℕ)) (vault_faulted sink_faulted : Type 0) (before after : Option (List ℕ)) (told_after : Option Files) (result : Status)
    → IfSome told (λ files. Ends words files vault_faulted sink_faulted before after told_after result)
    → IfSome told (λ files. (owed : Reply) → Answer words files owed → IsOwedOrOther words files (status_of owed) (vault_faulted ⊎ sink_faulted) result)
all_only told words vf sf before after told_after result e =
    if_some_map told _ _ (λ files run owed a. ends_only words files vf sf before after told_after result owed run a) e

-- a status with which nothing is exchanged is owed itself

none_for_done : (result : Status) → AreExchanged Done result → ⊥
none_for_done result e = elim e [ ]

none_for_no : (result : Status) → AreExchanged No result → ⊥
none_for_no result e = elim e [ ]

itself : (words : List (List ℕ)) (files : Files) (owed result : Status) (faulted : Type 0) → (AreExchanged owed result → ⊥) → IsOwedOrOther words files owed faulted result
    → IsOwed owed faulted result
itself words files owed result faulted n (inl h) = h
itself words files owed result faulted n (inr h) = absurd (n h.exchanged)

-- ---- verdicts

answer_judged : (words : List (List ℕ)) (files : Files) (w : CheckWords) → IsExecution Check words w → (reply : Reply) → Answer words files reply → IsJudged (status_of reply)
    → HasVerdict files w reply
answer_judged words files w is reply (usage u) j = absurd (u (executes Check w) is)
answer_judged words files w is reply (replied command h p r) j =
    judged_check files w p (subst (λ x. IsReply files x p) (one_command words command (executes Check w) h is) r) j

-- the verdict with which a run ends
abbrev GivesVerdict : Files → CheckWords → Status → Type 0
GivesVerdict files w status = (reply : Reply) × HasVerdict files w reply × (status_of reply ≡ status)

due_judged : (words : List (List ℕ)) (files : Files) (w : CheckWords) (faulted : Type 0) (status : Status) (text : List ℕ) (then : Files) → IsExecution Check words w
    → Due words files faulted status text then → IsJudged status → GivesVerdict files w status
due_judged words files w faulted status text then is (answered reply a) j = (reply, answer_judged words files w is reply a j, refl)
due_judged words files w faulted NoMemory text then is starved j = absurd (no_memory_unjudged j)
due_judged words files w faulted Fault text then is (faulted_at f path p) j = absurd (fault_unjudged j)
due_judged words files w faulted Fault text then is (faulted_after f reply a file at) j = absurd (fault_unjudged j)

ends_judged : (words : List (List ℕ)) (files : Files) (w : CheckWords) (vault_faulted sink_faulted : Type 0) (before after : Option (List ℕ)) (told : Option Files) (result : Status)
    → IsExecution Check words w → Ends words files vault_faulted sink_faulted before after told result → IsJudged result → GivesVerdict files w result
ends_judged words files w vf sf before after told result is (printed text then due same at) j = due_judged words files w vf result text then is due j
ends_judged words files w vf sf before after told Fault is (cut_off text then due same f p) j = absurd (fault_unjudged j)

pub all_judged : (told : Option Files) (words : List (List ℕ)) (vault_faulted sink_faulted : Type 0) (before after : Option (List ℕ)) (told_after : Option Files) (result : Status)
    → IfSome told (λ files. Ends words files vault_faulted sink_faulted before after told_after result)
    → IfSome told (λ files. (w : CheckWords) → IsExecution Check words w → IsJudged result → (reply : Reply) × HasVerdict files w reply × (status_of reply ≡ result))
all_judged told words vf sf before after told_after result e =
    if_some_map told _ _ (λ files run w is j. ends_judged words files w vf sf before after told_after result is run j) e

none_for_verdict : (files : Files) (w : CheckWords) (reply : Reply) → HasVerdict files w reply → (result : Status) → AreExchanged (status_of reply) result → ⊥
none_for_verdict files w reply h result e = by reply h.verdict e
  where
    by : (r : Reply) → IsVerdict (question_of files w h.inputs h.program) r → AreExchanged (status_of r) result → ⊥
    by r (yes s) x = none_for_done result x
    by r (no n b least) x = none_for_no result x

pub all_verdict : (told : Option Files) (words : List (List ℕ)) (vault_faulted sink_faulted : Type 0) (before after : Option (List ℕ)) (told_after : Option Files) (result : Status)
    → IfSome told (λ files. Ends words files vault_faulted sink_faulted before after told_after result)
    → IfSome told (λ files. (w : CheckWords) (reply : Reply) → IsExecution Check words w → HasVerdict files w reply → IsOwed (status_of reply) (vault_faulted ⊎ sink_faulted) result)
all_verdict told words vf sf before after told_after result e =
    if_some_map told _ _ (λ files run w reply is h. itself words files (status_of reply) result (vf ⊎ sf) (none_for_verdict files w reply h result)
    (ends_only words files vf sf before after told_after result reply run (replied (executes Check w) is reply (verdict_answer files w reply h)))) e

-- ---- conversions

fault_not_done : (limit : Bool) → status_of_fault limit ≡ Done → ⊥
fault_not_done true e = cc
fault_not_done false e = cc

stops_not_done : (files : Files) (path : List ℕ) (meta : MetaDesc) (IsError : List ℕ → FileError → Type 0) (reply : Reply) → Stops files path meta IsError reply → status_of reply ≡ Done → ⊥
stops_not_done files path meta IsError reply (unloaded r (missing e)) d = cc
stops_not_done files path meta IsError reply (unloaded r (long bytes e l)) d = cc
stops_not_done files path meta IsError reply (misread bytes h error n e) d = fault_not_done (is_limit error) d

limit_is_not_done : Limit ≡ Done → ⊥
limit_is_not_done e = cc

reply_converted : (files : Files) (c : ConvertWords) (reply : Reply) → ConvertAnswer files c reply → status_of reply ≡ Done → HasConverted files c (Some (files_after reply files))
reply_converted files c reply (metamodel_stops r st) d = absurd (stops_not_done files c.metamodel _ _ r st d)
reply_converted files c reply (model_stops meta at r st) d = absurd (stops_not_done files c.model _ _ r st d)
reply_converted files c reply (output_long m named l) d = absurd (limit_is_not_done d)
reply_converted files c reply (put m named l) d = record { model = m; named = named; put = refl }

answer_converted : (words : List (List ℕ)) (files : Files) (c : ConvertWords) → IsConvert words c → (reply : Reply) → Answer words files reply → status_of reply ≡ Done
    → HasConverted files c (Some (files_after reply files))
answer_converted words files c is reply (usage u) d = absurd (u (converts c) is)
answer_converted words files c is reply (replied command h p r) d =
    reply_converted files c p (subst (λ x. IsReply files x p) (one_command words command (converts c) h is) r) d

fault_is_not_done : Fault ≡ Done → ⊥
fault_is_not_done e = cc

no_memory_is_not_done : NoMemory ≡ Done → ⊥
no_memory_is_not_done e = cc

due_converted : (words : List (List ℕ)) (files : Files) (c : ConvertWords) (faulted : Type 0) (status : Status) (text : List ℕ) (then : Files) → IsConvert words c
    → Due words files faulted status text then → status ≡ Done → HasConverted files c (Some then)
due_converted words files c faulted status text then is (answered reply a) d = answer_converted words files c is reply a d
due_converted words files c faulted NoMemory text then is starved d = absurd (no_memory_is_not_done d)
due_converted words files c faulted Fault text then is (faulted_at f path p) d = absurd (fault_is_not_done d)
due_converted words files c faulted Fault text then is (faulted_after f reply a file at) d = absurd (fault_is_not_done d)

ends_converted : (words : List (List ℕ)) (files : Files) (c : ConvertWords) (vault_faulted sink_faulted : Type 0) (before after : Option (List ℕ)) (told : Option Files) (result : Status)
    → IsConvert words c → Ends words files vault_faulted sink_faulted before after told result → result ≡ Done → HasConverted files c told
ends_converted words files c vf sf before after told result is (printed text then due same at) d =
    subst (HasConverted files c) (sym same) (due_converted words files c vf result text then is due d)
ends_converted words files c vf sf before after told Fault is (cut_off text then due same f p) d = absurd (fault_is_not_done d)

pub all_converted : (told : Option Files) (words : List (List ℕ)) (vault_faulted sink_faulted : Type 0) (before after : Option (List ℕ)) (told_after : Option Files) (result : Status)
    → IfSome told (λ files. Ends words files vault_faulted sink_faulted before after told_after result)
    → IfSome told (λ files. (c : ConvertWords) → IsConvert words c → result ≡ Done → HasConverted files c told_after)
all_converted told words vf sf before after told_after result e =
    if_some_map told _ _ (λ files run c is d. ends_converted words files c vf sf before after told_after result is run d) e

pub all_converts : (told : Option Files) (words : List (List ℕ)) (vault_faulted sink_faulted : Type 0) (before after : Option (List ℕ)) (told_after : Option Files) (result : Status)
    → IfSome told (λ files. Ends words files vault_faulted sink_faulted before after told_after result)
    → IfSome told (λ files. (c : ConvertWords) (m : ModelData) → IsConvert words c → IsConverted files c m → length (text_in c.form m) ≤ MAX_FILE
    → IsOwed Done (vault_faulted ⊎ sink_faulted) result)
all_converts told words vf sf before after told_after result e =
    if_some_map told _ _ (λ files run c m is named short. itself words files Done result (vf ⊎ sf) (none_for_done result)
    (ends_only words files vf sf before after told_after result (converted c.output (text_in c.form m)) run
    (replied (converts c) is (converted c.output (text_in c.form m)) (put m named short)))) e

-- ---- enforcements

demand_not_done : (q : Question) (path : List ℕ) (end : Ended) → DemandsStop q end → status_of (reply_of_end path end) ≡ Done → ⊥
demand_not_done q path end (not_enforceable b x) d = cc
demand_not_done q path end (cyclic can chain x) d = cc
demand_not_done q path end (deep can chain x) d = cc
demand_not_done q path end (unmet can e place x at) d = cc
demand_not_done q path end (conflict can clash x) d = cc

made_not_done : (o : OutputData) (path : List ℕ) (made : ModelData) (end : Ended) → MadeStops o made end → status_of (reply_of_end path end) ≡ Done → ⊥
made_not_done o path made end (many x) d = cc
made_not_done o path made end (invalid few b id x at) d = cc
made_not_done o path made end (deep_objects few valid x) d = cc
made_not_done o path made end (steps.long sound x) d = cc

module _ (files : Files) (w : CheckWords) (i : Inputs files w) (program : Program) (is : ResolvesTo files w i program) where
  of_made : (text : List ℕ) (report : Report) (end : Ended) → MadeEnds text report end → EnforcesTo files w i program end
      → HasEnforced files w (Some (files_after (reply_of_end (target_path w) end) files))
  of_made text report end (steps.same x) a = stays i program is a
  of_made text report end (steps.mended x) a = enforced.mended i program is text report a

  of_end : (end : Ended) → EnforcesTo files w i program end → status_of (reply_of_end (target_path w) end) ≡ Done
      → HasEnforced files w (Some (files_after (reply_of_end (target_path w) end) files))
  of_end end (steps.stopped e x) d = absurd (demand_not_done _ (target_path w) e x d)
  of_end end (against made im e x) d = absurd (made_not_done _ (target_path w) made e x d)
  of_end end (steps.done made report so fit e x) d = of_made _ report e x (steps.done made report so fit e x)

  of_reply : (reply : Reply) → EnforcementAnswer (target_form files w) (target_path w) (question_of files w i program) reply → status_of reply ≡ Done
      → HasEnforced files w (Some (files_after reply files))
  of_reply reply (ends end a) d = of_end end a d

reply_enforced : (files : Files) (w : CheckWords) (reply : Reply) → ExecutionAnswer Enforce files w reply → status_of reply ≡ Done → HasEnforced files w (Some (files_after reply files))
reply_enforced files w reply a d =
    let h = passed_steps (last_over Enforce files w) files w reply a (inl d) in of_reply files w h.inputs h.program h.resolved reply h.last d

answer_enforced : (words : List (List ℕ)) (files : Files) (w : CheckWords) → IsExecution Enforce words w → (reply : Reply) → Answer words files reply → status_of reply ≡ Done
    → HasEnforced files w (Some (files_after reply files))
answer_enforced words files w is reply (usage u) d = absurd (u (executes Enforce w) is)
answer_enforced words files w is reply (replied command h p r) d =
    reply_enforced files w p (subst (λ x. IsReply files x p) (one_command words command (executes Enforce w) h is) r) d

due_enforced : (words : List (List ℕ)) (files : Files) (w : CheckWords) (faulted : Type 0) (status : Status) (text : List ℕ) (then : Files) → IsExecution Enforce words w
    → Due words files faulted status text then → status ≡ Done → HasEnforced files w (Some then)
due_enforced words files w faulted status text then is (answered reply a) d = answer_enforced words files w is reply a d
due_enforced words files w faulted NoMemory text then is starved d = absurd (no_memory_is_not_done d)
due_enforced words files w faulted Fault text then is (faulted_at f path p) d = absurd (fault_is_not_done d)
due_enforced words files w faulted Fault text then is (faulted_after f reply a file at) d = absurd (fault_is_not_done d)

ends_enforced : (words : List (List ℕ)) (files : Files) (w : CheckWords) (vault_faulted sink_faulted : Type 0) (before after : Option (List ℕ)) (told : Option Files) (result : Status)
    → IsExecution Enforce words w → Ends words files vault_faulted sink_faulted before after told result → result ≡ Done → HasEnforced files w told
ends_enforced words files w vf sf before after told result is (printed text then due same at) d =
    subst (HasEnforced files w) (sym same) (due_enforced words files w vf result text then is due d)
ends_enforced words files w vf sf before after told Fault is (cut_off text then due same f p) d = absurd (fault_is_not_done d)

pub all_enforced : (told : Option Files) (words : List (List ℕ)) (vault_faulted sink_faulted : Type 0) (before after : Option (List ℕ)) (told_after : Option Files) (result : Status)
    → IfSome told (λ files. Ends words files vault_faulted sink_faulted before after told_after result)
    → IfSome told (λ files. (w : CheckWords) → IsExecution Enforce words w → result ≡ Done → HasEnforced files w told_after)
all_enforced told words vf sf before after told_after result e =
    if_some_map told _ _ (λ files run w is d. ends_enforced words files w vf sf before after told_after result is run d) e

-- ---- faulty words

-- a status that is no fault, of a text that is printed
finishes_other : (status : Status) (text : List ℕ) (before after : Option (List ℕ)) (faulted : Type 0) (result other : Status)
    → (status ≡ other → ⊥) → (Fault ≡ other → ⊥) → Finishes status text before after faulted result → result ≡ other → ⊥
finishes_other status text before after faulted result other n f (inl p) e = n (sym p.0 ∙ e)
finishes_other status text before after faulted result other n f (inr p) e = f (sym p.0 ∙ e)

no_memory_not_usage : NoMemory ≡ Usage → ⊥
no_memory_not_usage e = cc

fault_not_usage : Fault ≡ Usage → ⊥
fault_not_usage e = cc

done_not_usage : Done ≡ Usage → ⊥
done_not_usage e = cc

file_fault_not_usage : (limit : Bool) → status_of_fault limit ≡ Usage → ⊥
file_fault_not_usage true e = cc
file_fault_not_usage false e = cc

-- work on a command never comes to faulty words
cause_not_usage : (cause : Cause) → status_of_cause cause ≡ Usage → ⊥
cause_not_usage causes.NotEnforceable e = cc
cause_not_usage causes.Chain e = cc
cause_not_usage causes.Unmet e = cc
cause_not_usage causes.Conflict e = cc
cause_not_usage causes.Invalid e = cc
cause_not_usage causes.Limit e = cc

stop_not_usage : (s : Stop) → IfSome (reply_of_stop s) (λ reply. status_of reply ≡ Usage → ⊥)
stop_not_usage (stop.Fault path) = fault_not_usage
stop_not_usage (stop.TooLong path) = λ e. cc
stop_not_usage (stop.Faulty limit line) = file_fault_not_usage limit
stop_not_usage (stop.Refused cause text) = cause_not_usage cause
stop_not_usage stop.NoMemory = tt

no_not_usage : No ≡ Usage → ⊥
no_not_usage e = cc

outcome_not_usage : (o : Outcome) → status_of (reply_of o) ≡ Usage → ⊥
outcome_not_usage outcome.Yes e = done_not_usage e
outcome_not_usage (outcome.No text) e = no_not_usage e
outcome_not_usage outcome.Kept e = done_not_usage e
outcome_not_usage (outcome.Mended path bytes report) e = done_not_usage e
outcome_not_usage (outcome.Traced text) e = done_not_usage e

reports_not_usage : (reply : Option Reply) (before after : Option (List ℕ)) (faulted : Type 0) (result : Status)
    → IfSome reply (λ r. status_of r ≡ Usage → ⊥) → Reports reply before after faulted result → result ≡ Usage → ⊥
reports_not_usage None before after faulted result n (inl f) = absurd f
reports_not_usage (Some r) before after faulted result n (inl f) = finishes_other (status_of r) (text_of r) before after faulted result Usage n fault_not_usage f
reports_not_usage reply before after faulted result n (inr f) =
    finishes_other NoMemory no_memory_text before after faulted result Usage no_memory_not_usage fault_not_usage f

pub command_not_usage : (told : Option Files) (command : Command) (vault_faulted sink_faulted : Type 0) (before after : Option (List ℕ)) (told_after : Option Files) (result : Status)
    → CommandEnds told command vault_faulted sink_faulted before after told_after result → result ≡ Usage → ⊥
command_not_usage told command vf sf before after told_after result (stopped s st left r) =
    reports_not_usage (reply_of_stop s) before after sf result (stop_not_usage s) r
command_not_usage told command vf sf before after told_after result (concluded o due none r left) =
    reports_not_usage (Some (reply_of o)) before after sf result (outcome_not_usage o) r
command_not_usage told command vf sf before after told_after result (summarized s due r left) =
    reports_not_usage (Some (generated s)) before after sf result done_not_usage r
command_not_usage told command vf sf before after told_after result (starved_of left r) = reports_not_usage None before after sf result tt r
command_not_usage told command vf sf before after told_after result (put_done reply path bytes due by same f) =
    finishes_other Done (text_of reply) before after sf result Usage done_not_usage fault_not_usage f
command_not_usage told command vf sf before after told_after result (put_failed reply path bytes due by faulted same f) =
    finishes_other Fault (fault_text path) before after sf result Usage fault_not_usage fault_not_usage f

-- and words are faulty where no command was read for another cause than want of memory
pub words_usage : (words : List (List ℕ)) (before after : Option (List ℕ)) (faulted : Type 0) (error : WordsError) (result : Status)
    → (error ≡ errors.Usage → command_of words ≡ None) → RefusesWords error before after faulted result → result ≡ Usage → IsUsage words
words_usage words before after faulted errors.Usage result none f e = no_command_usage words (none refl)
words_usage words before after faulted errors.NoMemory result none f e =
    absurd (finishes_other NoMemory no_memory_text before after faulted result Usage no_memory_not_usage fault_not_usage f e)

pub words_finished : (words : List (List ℕ)) (before after : Option (List ℕ)) (faulted : Type 0) (error : WordsError) (result : Status)
    → (error ≡ errors.NoMemory → NamesCommand words) → RefusesWords error before after faulted result
    → (result ≡ Usage) ⊎ ((result ≡ Fault) × faulted) ⊎ ((result ≡ NoMemory) × NamesCommand words)
words_finished words before after faulted errors.Usage result named (inl p) = inl p.0
words_finished words before after faulted errors.Usage result named (inr p) = inr (inl (p.0, p.1))
words_finished words before after faulted errors.NoMemory result named (inl p) = inr (inr (p.0, named refl))
words_finished words before after faulted errors.NoMemory result named (inr p) = inr (inl (p.0, p.1))

-- ---- faults, whether the files are told or not

file_fault_not_fault : (limit : Bool) → status_of_fault limit ≡ Fault → ⊥
file_fault_not_fault true e = cc
file_fault_not_fault false e = cc

done_not_fault : Done ≡ Fault → ⊥
done_not_fault e = cc

no_not_fault : No ≡ Fault → ⊥
no_not_fault e = cc

limit_not_fault : Limit ≡ Fault → ⊥
limit_not_fault e = cc

cause_not_fault : (cause : Cause) → status_of_cause cause ≡ Fault → ⊥
cause_not_fault causes.NotEnforceable e = cc
cause_not_fault causes.Chain e = cc
cause_not_fault causes.Unmet e = cc
cause_not_fault causes.Conflict e = cc
cause_not_fault causes.Invalid e = cc
cause_not_fault causes.Limit e = cc

no_memory_not_fault : NoMemory ≡ Fault → ⊥
no_memory_not_fault e = cc

usage_not_fault : Usage ≡ Fault → ⊥
usage_not_fault e = cc

pub words_fault : (before after : Option (List ℕ)) (faulted : Type 0) (error : WordsError) (result : Status) → RefusesWords error before after faulted result
    → result ≡ Fault → faulted
words_fault before after faulted errors.Usage result (inl p) e = absurd (usage_not_fault (sym p.0 ∙ e))
words_fault before after faulted errors.Usage result (inr p) e = p.1
words_fault before after faulted errors.NoMemory result (inl p) e = absurd (no_memory_not_fault (sym p.0 ∙ e))
words_fault before after faulted errors.NoMemory result (inr p) e = p.1

-- an answer that is a file that couldn't be read
abbrev IsUnreadable : Option Files → List (List ℕ) → Type 0
IsUnreadable told words = IsSomeAnd told (λ files. (path : List ℕ) × Answer words files (unread path))

told_fault : (told : Option Files) (words : List (List ℕ)) (command : Command) (path : List ℕ) → IsCommand words command
    → IsSomeAnd told (λ files. IsReply files command (unread path)) → IsUnreadable told words
told_fault None words command path c h = h
told_fault (Some files) words command path c h = (path, replied command c (unread path) h)

stop_fault : (told : Option Files) (words : List (List ℕ)) (command : Command) (vault_faulted : Type 0) (s : Stop) → IsCommand words command
    → StoppedBy s told (λ files. IsReply files command) vault_faulted (paths_of command)
    → IfSome (reply_of_stop s) (λ reply. status_of reply ≡ Fault → vault_faulted ⊎ IsUnreadable told words)
stop_fault told words command vf (stop.Fault path) c (inl is) = λ e. inr (told_fault told words command path.now c is)
stop_fault told words command vf (stop.Fault path) c (inr at) = λ e. inl at.0
stop_fault told words command vf (stop.TooLong path) c st = λ e. absurd (limit_not_fault e)
stop_fault told words command vf (stop.Faulty limit line) c st = λ e. absurd (file_fault_not_fault limit e)
stop_fault told words command vf (stop.Refused cause text) c st = λ e. absurd (cause_not_fault cause e)
stop_fault told words command vf stop.NoMemory c st = tt

outcome_not_fault : (o : Outcome) → status_of (reply_of o) ≡ Fault → ⊥
outcome_not_fault outcome.Yes e = done_not_fault e
outcome_not_fault (outcome.No text) e = no_not_fault e
outcome_not_fault outcome.Kept e = done_not_fault e
outcome_not_fault (outcome.Mended path bytes report) e = done_not_fault e
outcome_not_fault (outcome.Traced text) e = done_not_fault e

reports_fault : (reply : Option Reply) (before after : Option (List ℕ)) (cause faulted : Type 0) (result : Status)
    → IfSome reply (λ r. status_of r ≡ Fault → cause) → Reports reply before after faulted result → result ≡ Fault → cause ⊎ faulted
reports_fault None before after cause faulted result n (inl f) e = absurd f
reports_fault (Some r) before after cause faulted result n (inl (inl p)) e = inl (n (sym p.0 ∙ e))
reports_fault (Some r) before after cause faulted result n (inl (inr p)) e = inr p.1
reports_fault reply before after cause faulted result n (inr (inl p)) e = absurd (no_memory_not_fault (sym p.0 ∙ e))
reports_fault reply before after cause faulted result n (inr (inr p)) e = inr p.1

sorted : (v s u : Type 0) → (v ⊎ u) ⊎ s → v ⊎ s ⊎ u
sorted v s u (inl (inl x)) = inl x
sorted v s u (inl (inr x)) = inr (inr x)
sorted v s u (inr x) = inr (inl x)

done_fault : (text : List ℕ) (before after : Option (List ℕ)) (faulted : Type 0) (result : Status) → Finishes Done text before after faulted result → result ≡ Fault → faulted
done_fault text before after faulted result (inl p) e = absurd (done_not_fault (sym p.0 ∙ e))
done_fault text before after faulted result (inr p) e = p.1

pub command_fault : (told : Option Files) (words : List (List ℕ)) (command : Command) (vault_faulted sink_faulted : Type 0) (before after : Option (List ℕ)) (told_after : Option Files) (result : Status)
    → IsCommand words command → CommandEnds told command vault_faulted sink_faulted before after told_after result → result ≡ Fault
    → vault_faulted ⊎ sink_faulted ⊎ IsSomeAnd told (λ files. (path : List ℕ) × Answer words files (unread path))
command_fault told words command vf sf before after told_after result c (stopped s st left r) e =
    sorted vf sf (IsUnreadable told words) (reports_fault (reply_of_stop s) before after _ sf result (stop_fault told words command vf s c st) r e)
command_fault told words command vf sf before after told_after result c (concluded o due none r left) e =
    sorted vf sf (IsUnreadable told words) (reports_fault (Some (reply_of o)) before after _ sf result (λ x. absurd (outcome_not_fault o x)) r e)
command_fault told words command vf sf before after told_after result c (summarized s due r left) e =
    sorted vf sf (IsUnreadable told words) (reports_fault (Some (generated s)) before after _ sf result (λ x. absurd (done_not_fault x)) r e)
command_fault told words command vf sf before after told_after result c (starved_of left r) e =
    sorted vf sf (IsUnreadable told words) (reports_fault None before after _ sf result tt r e)
command_fault told words command vf sf before after told_after result c (put_done reply path bytes due by same f) e = inr (inl (done_fault (text_of reply) before after sf result f e))
command_fault told words command vf sf before after told_after result c (put_failed reply path bytes due by faulted same f) e = inl faulted

-- ---- files

done_or_fault : (text : List ℕ) (before after : Option (List ℕ)) (faulted : Type 0) (result : Status) → Finishes Done text before after faulted result → (result ≡ Done) ⊎ (result ≡ Fault)
done_or_fault text before after faulted result (inl p) = inl p.0
done_or_fault text before after faulted result (inr p) = inr p.0

fault_only : (text : List ℕ) (before after : Option (List ℕ)) (faulted : Type 0) (result : Status) → Finishes Fault text before after faulted result → (result ≡ Done) ⊎ (result ≡ Fault)
fault_only text before after faulted result (inl p) = inr p.0
fault_only text before after faulted result (inr p) = inr p.0

pub command_files : (told : Option Files) (words : List (List ℕ)) (command : Command) (vault_faulted sink_faulted : Type 0) (before after : Option (List ℕ)) (told_after : Option Files) (result : Status)
    → IsCommand words command → CommandEnds told command vault_faulted sink_faulted before after told_after result → KeepsFiles words told told_after result
command_files told words command vf sf before after told_after result is (stopped s st left r) = inl left
command_files told words command vf sf before after told_after result is (concluded o due none r left) = inl left
command_files told words command vf sf before after told_after result is (summarized s due r left) = inl left
command_files told words command vf sf before after told_after result is (starved_of left r) = inl left
command_files told words command vf sf before after told_after result is (put_done reply path bytes due by same f) =
    inr (record { command = command; words_are = is; path = path; at = by.at; bytes = bytes; after_is = same; ended = done_or_fault (text_of reply) before after sf result f })
command_files told words command vf sf before after told_after result is (put_failed reply path bytes due by faulted (inl same) f) = inl same
command_files told words command vf sf before after told_after result is (put_failed reply path bytes due by faulted (inr same) f) =
    inr (record { command = command; words_are = is; path = path; at = by.at; bytes = bytes; after_is = same; ended = fault_only (fault_text path) before after sf result f })
