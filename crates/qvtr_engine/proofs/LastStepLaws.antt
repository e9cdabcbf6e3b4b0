-- What an execution comes to once all is read, and what it puts.
use Rattle.std.proofs.Common.{◌≡◌, ◌∙◌, ◌≤◌, ◌^◌, inl, inr, true, List, ℕ, length, refl, ap, sym, subst, arith, Option, Some}
use Rattle.std.specs.Prelude.{Contains, IfSome}
use Rattle.vault_io.specs.Files.{Files}
use Rattle.object_tables.specs.declared.limit.TheConstants.{MAX_OBJECTS}
use Rattle.qv_syntax.specs.declared.program.Rel.{Rel}
use Rattle.evaluation_laws.specs.Literals.{HasStorableTexts}
use Rattle.repair_semantics.specs.declared.report.Report.{Report}
use Rattle.enforce_steps.specs.Premises.{IsAskable}
use Rattle.answer_texts.specs.Question.{Question}
use Rattle.enforce_steps.specs.Endings.{Ended}
use Rattle.qvtr_engine.specs.declared.mode.Mode.{Mode}
use Rattle.qvtr_engine.specs.declared.mode.Mode.TheVariants.{Enforce}
use Rattle.qvtr_engine.specs.declared.status.Status.{Status}
use Rattle.qvtr_engine.specs.declared.outcome.Outcome.{Outcome}
use Rattle.qvtr_engine.specs.declared.outcome.Outcome.TheVariants as outcome
use Rattle.qvtr_engine.specs.CheckWords.{CheckWords, check_paths}
use Rattle.qvtr_engine.specs.Command.{executes, output_of}
use Rattle.qvtr_engine.specs.CommandEnds.{CommandEnds, concluded, starved_of, put_done, put_failed, IsDueReply, IsPutBy}
use Rattle.qvtr_engine.specs.Concluding.{IsReported, MendedEnds, OutcomeEnds}
use Rattle.qvtr_engine.specs.ExecutionAnswer.{ExecutionAnswer, IsReplyOf, ends, reply_of_end}
use Rattle.qvtr_engine.specs.LastSteps.{IsMendedAt, IsMendedFor}
use Rattle.qvtr_engine.specs.Names.{is_among}
use Rattle.qvtr_engine.specs.Outcome.{reply_of}
use Rattle.qvtr_engine.specs.Putting.{put_well, put_badly}
use Rattle.qvtr_engine.specs.ReadModels.{IsReadQuestion}
use Rattle.qvtr_engine.specs.Reply.{mended}
use Rattle.qvtr_engine.specs.Target.{target_path}

-- what is put at a path that is the target's
pub mended_for : (mode : Mode) (w : CheckWords) (path : List ℕ) (o : Outcome) → path ≡ target_path w → is_among (check_paths w) (target_path w) ≡ true
    → IsMendedAt mode path o → IsMendedFor mode w o
mended_for mode w path outcome.Yes same named at = tt
mended_for mode w path (outcome.No text) same named at = tt
mended_for mode w path outcome.Kept same named at = tt
mended_for mode w path (outcome.Mended there bytes report) same named at = (at.0, at.1 ∙ same, named)
mended_for mode w path (outcome.Traced text) same named at = tt

-- the reply of an outcome is that of its end
pub ended_reply : (path : List ℕ) (IsEnd : Ended → Type 0) (end : Ended) (o : Outcome) → reply_of o ≡ reply_of_end path end → IsEnd end → IsReplyOf path IsEnd (reply_of o)
ended_reply path IsEnd end o same is = subst (IsReplyOf path IsEnd) (sym same) (ends end is)

-- a program over models that were read can be asked
pub askable : (q : Question) → IsReadQuestion q → ((rel : Rel) → Contains q.program.rels rel → length rel.vars ≤ 2 ^ 32) → HasStorableTexts q.program → IsAskable q
askable q r vars texts = record {
  well = r.well;
  rels = r.rels;
  queries = r.queries;
  vars = vars;
  wheres = r.wheres;
  texts = texts;
  count = r.count;
  models = r.models;
  target = λ m at.
      let read = r.read m at in
      let few = read.1 in
      let limit : MAX_OBJECTS ≡ 200_000 = refl in
      record { valid = read.0; numbers = omega (arith, few, limit) };
}

-- an outcome that is concluded

kept_at : (mode : Mode) (w : CheckWords) (path : List ℕ) → mode ≡ Enforce → path ≡ target_path w → output_of (executes mode w) ≡ Some path
kept_at mode w path enforce at = subst (λ m. output_of (executes m w) ≡ Some path) (sym enforce) (ap Some (sym at))

put_by : (mode : Mode) (w : CheckWords) (path bytes : List ℕ) (report : Report) → mode ≡ Enforce → path ≡ target_path w → is_among (check_paths w) (target_path w) ≡ true
    → IsPutBy (executes mode w) (mended path bytes report) path bytes
put_by mode w path bytes report enforce at named = record {
  puts = refl;
  at = kept_at mode w path enforce at;
  named = subst (λ p. is_among (check_paths w) p ≡ true) (sym at) named;
  done = refl;
}

mended_ended : (told : Option Files) (mode : Mode) (w : CheckWords) (path bytes : List ℕ) (report : Report) (vault_faulted vault_faulted' sink_faulted : Type 0) (before after : Option (List ℕ)) (told_after : Option Files) (result : Status)
    → IsDueReply told (executes mode w) (mended path bytes report) → IsPutBy (executes mode w) (mended path bytes report) path bytes → (vault_faulted → vault_faulted')
    → MendedEnds told path bytes report vault_faulted sink_faulted before after told_after result
    → CommandEnds told (executes mode w) vault_faulted' sink_faulted before after told_after result
mended_ended told mode w path bytes report vf vf' sf before after told_after result due by t (inl (put_well same f)) =
    put_done (mended path bytes report) path bytes due by same f
mended_ended told mode w path bytes report vf vf' sf before after told_after result due by t (inl (put_badly faulted is f)) =
    put_failed (mended path bytes report) path bytes due by (t faulted) is f
mended_ended told mode w path bytes report vf vf' sf before after told_after result due by t (inr e) = starved_of e.kept e.reported

pub execution_ended : (told : Option Files) (mode : Mode) (w : CheckWords) (o : Outcome) (vault_faulted vault_faulted' sink_faulted : Type 0) (before after : Option (List ℕ)) (told_after : Option Files) (result : Status)
    → IfSome told (λ files. ExecutionAnswer mode files w (reply_of o)) → IsMendedFor mode w o → (vault_faulted → vault_faulted')
    → OutcomeEnds told o vault_faulted sink_faulted before after told_after result
    → CommandEnds told (executes mode w) vault_faulted' sink_faulted before after told_after result
execution_ended told mode w outcome.Yes vf vf' sf before after told_after result due at t e = concluded outcome.Yes due refl e.reported e.kept
execution_ended told mode w (outcome.No text) vf vf' sf before after told_after result due at t e = concluded (outcome.No text) due refl e.reported e.kept
execution_ended told mode w outcome.Kept vf vf' sf before after told_after result due at t e = concluded outcome.Kept due refl e.reported e.kept
execution_ended told mode w (outcome.Mended path bytes report) vf vf' sf before after told_after result due at t e =
    mended_ended told mode w path.now bytes report vf vf' sf before after told_after result due (put_by mode w path.now bytes report at.0 at.1 at.2) t e
execution_ended told mode w (outcome.Traced text) vf vf' sf before after told_after result due at t e = concluded (outcome.Traced text) due refl e.reported e.kept

-- an outcome by which nothing is put
pub unput_ended : (told : Option Files) (o : Outcome) (vault_faulted sink_faulted : Type 0) (before after : Option (List ℕ)) (told_after : Option Files) (result : Status)
    → ((path : _) (bytes : _) (report : _) → o ≡ outcome.Mended path bytes report → ⊥) → IsReported told (Some o) sink_faulted before after told_after result
    → OutcomeEnds told o vault_faulted sink_faulted before after told_after result
unput_ended told outcome.Yes vf sf before after told_after result n e = e
unput_ended told (outcome.No text) vf sf before after told_after result n e = e
unput_ended told outcome.Kept vf sf before after told_after result n e = e
unput_ended told (outcome.Mended path bytes report) vf sf before after told_after result n e = absurd (n path bytes report refl)
unput_ended told (outcome.Traced text) vf sf before after told_after result n e = e
