-- The last replies to an enforcement and to a trace are one, or tell two refusals of which either may be told.
use Rattle.std.proofs.Common.{◌≡◌, ◌⊎◌, inl, inr, ℕ, Bool, List, refl, sym, ◌∙◌, ap, subst, arith, true≢false, Some}
use Rattle.std.proofs.lemmas.Option.{same_Some}
use Rattle.vault_io.specs.Files.{Files}
use Rattle.object_tables.specs.declared.breach.Breach.{Breach}
use Rattle.object_tables.specs.Models.{ModelData, id_at}
use Rattle.object_tables.specs.Validity.{Valid, IsFirstBreach}
use Rattle.model_files.specs.declared.file_form.Form.{Form}
use Rattle.model_files.proofs.FaultlessLaws.{not_broken}
use Rattle.model_files.proofs.OneFaultLaws.{one_breach}
use Rattle.qv_syntax.specs.declared.program.Program.{Program}
use Rattle.repair_semantics.specs.declared.report.Report.{Report}
use Rattle.repair_semantics.specs.declared.demand.Demand.{Demand}
use Rattle.repair_semantics.specs.Candidates.{candidate}
use Rattle.repair_semantics.specs.Conflicts.{IsClash}
use Rattle.repair_semantics.specs.TargetItems.{target_metamodel}
use Rattle.repair_semantics.specs.Demands.{demands_of}
use Rattle.repair_semantics.specs.Reports.{IsReport}
use Rattle.repair_semantics.proofs.EntryOrderLaws.{entries_once}
use Rattle.demand_set.specs.DemandSets.{DemandData}
use Rattle.enforcement_laws.proofs.Repairing.{one_set}
use Rattle.answer_texts.specs.Question.{Question}
use Rattle.trace_log.specs.TraceData.{text_of_trace}
use Rattle.demand_trace.specs.Traces.{trace_of}
use Rattle.enforce_steps.specs.declared.cause.Cause.TheVariants as causes
use Rattle.enforce_steps.specs.Endings.{Ended, refused, traced, OutputData}
use Rattle.enforce_steps.specs.EnforceAnswer.{DemandsStop, not_enforceable, cyclic, deep, unmet, conflict, DemandsEnd, TraceAnswer, stops, told, IsMade, IsMadeSo, MadeStops, many, invalid, deep_objects, long, IsFit, MadeEnds, same, mended, EnforceAnswer, stopped, against, done}
use Rattle.enforce_steps.specs.StepTexts.{invalid_text, text_in}
use Rattle.qvtr_engine.specs.CheckWords.{CheckWords}
use Rattle.qvtr_engine.specs.ExecutionAnswer.{reply_of_end, IsReplyOf, ends, output_at, EnforcementAnswer, TracingAnswer, AreRefusals}
use Rattle.qvtr_engine.specs.Reply.{Reply, status_of}
use Rattle.qvtr_engine.specs.Run.{AreExchanged, unmet_for_chain, chain_for_unmet}
use Rattle.qvtr_engine.specs.StepsAnswer.{Inputs, ResolvesTo, question_of, AreAlike, lasts}
use Rattle.qvtr_engine.specs.StepsAnswer as alike
use Rattle.qvtr_engine.specs.Target.{target_path}
use Rattle.xmi_profile.proofs.Prefixes.{same_bool}
use Rattle.enforcement_rules.proofs.RuleLaws.{answer_refuses}

-- ---- what is demanded is one, and isn't refused

one_demands : (q : Question) (d e : DemandData) → DemandsEnd q d → DemandsEnd q e → d ≡ e
one_demands q d e x y = one_set q.program q.models d e x.are y.are

stopped_or_ended : (q : Question) (end : Ended) (d : DemandData) → DemandsStop q end → DemandsEnd q d → ⊥
stopped_or_ended q end d (not_enforceable b broken) x = answer_refuses q.metas q.program b.relation b.rule broken x.enforceable
stopped_or_ended q end d (cyclic can chain is) x = x.are.acyclic chain is
stopped_or_ended q end d (deep can chain is) x = x.are.short chain is
stopped_or_ended q end d (unmet can e place is at) x = x.are.met e is
stopped_or_ended q end d (conflict can clash is) x =
    let entries : is.entries ≡ d.entries = entries_once q.program q.models is.entries d.entries is.are x.are.entries in
    let list : demands_of q.program q.models is.entries ≡ d.list = ap (demands_of q.program q.models) entries ∙ sym x.are.list in
    let told_clash : IsClash (target_metamodel q.program q.models) is.entries d.list clash =
    subst (λ ds. IsClash (target_metamodel q.program q.models) is.entries ds clash) list is.clash_is in
    x.are.peaceful told_clash.first told_clash.second told_clash.c told_clash.d told_clash.conflict

-- ---- what is made is one, with its report

one_made : (q : Question) (m n : ModelData) → IsMade q m → IsMade q n → m ≡ n
one_made q m n x y =
    let target : x.target ≡ y.target = same_Some x.target y.target (sym x.target_is ∙ y.target_is) in
    let demands : x.demands ≡ y.demands = one_demands q x.demands y.demands x.demanded y.demanded in
    let same_candidate : candidate q.program x.target x.demands.list ≡ candidate q.program y.target y.demands.list =
    λ i. candidate q.program (target i) (demands i).list in
    x.made_is ∙ same_candidate ∙ sym y.made_is

report_of : ℕ → ℕ → ℕ → Bool → Report
report_of created updated deleted same_target = record { created = created; updated = updated; deleted = deleted; unchanged = same_target }

pub one_report : (program : Program) (m : ModelData) (ds : List Demand) (r s : Report) → IsReport program m ds r → IsReport program m ds s → r ≡ s
unfolding report_of
one_report program m ds r s x y =
    let created : r.created ≡ s.created = x.created ∙ sym y.created in
    let updated : r.updated ≡ s.updated = x.updated ∙ sym y.updated in
    let deleted : r.deleted ≡ s.deleted = x.deleted ∙ sym y.deleted in
    let same_target : r.unchanged ≡ s.unchanged = same_bool r.unchanged s.unchanged
    (λ e. let z = x.unchanged.0 e in y.unchanged.1 (sym created ∙ z.0, sym updated ∙ z.1, sym deleted ∙ z.2))
    (λ e. let z = y.unchanged.0 e in x.unchanged.1 (created ∙ z.0, updated ∙ z.1, deleted ∙ z.2)) in
    λ i. report_of (created i) (updated i) (deleted i) (same_target i)

made_reports : (q : Question) (m n : ModelData) (r s : Report) → IsMadeSo q m r → IsMadeSo q n s → r ≡ s
made_reports q m n r s x y =
    let target : y.is_made.target ≡ x.is_made.target = same_Some y.is_made.target x.is_made.target (sym y.is_made.target_is ∙ x.is_made.target_is) in
    let demands : y.is_made.demands ≡ x.is_made.demands = one_demands q y.is_made.demands x.is_made.demands y.is_made.demanded x.is_made.demanded in
    let moved : IsReport q.program x.is_made.target x.is_made.demands.list s =
    subst (λ t. IsReport q.program t x.is_made.demands.list s) target (subst (λ d. IsReport q.program y.is_made.target d.list s) demands y.is_report) in
    one_report q.program x.is_made.target x.is_made.demands.list r s x.is_report moved

-- ---- what comes of it is one

same_ids : (made : ModelData) (b c : Breach) (id other : List ℕ) → b ≡ c → id_at made b.object.0 ≡ Some id → id_at made c.object.0 ≡ Some other → id ≡ other
same_ids made b c id other e x y = same_Some id other (sym x ∙ ap (λ (z : Breach). id_at made z.object.0) e ∙ y)

no_breach : (made : ModelData) (b : Breach) → Valid made → IsFirstBreach made b → ⊥
no_breach made b valid first = not_broken made b valid first

made_stops_once : (o : OutputData) (made : ModelData) (a b : Ended) → MadeStops o made a → MadeStops o made b → a ≡ b
made_stops_once o made a b (many x) (many y) = refl
made_stops_once o made a b (many x) (invalid few c id y at) = absurd (omega (arith, x, few))
made_stops_once o made a b (many x) (deep_objects few valid y) = absurd (omega (arith, x, few))
made_stops_once o made a b (many x) (long sound y) = let few = sound.few in absurd (omega (arith, x, few))
made_stops_once o made a b (invalid few c id x at) (many y) = absurd (omega (arith, y, few))
made_stops_once o made a b (invalid few c id x at) (invalid less d other y there) =
    let breach : c ≡ d = one_breach made c d x y in
    let named : id ≡ other = same_ids made c d id other breach at there in
    λ i. refused causes.Invalid (invalid_text made.meta (breach i) (named i))
made_stops_once o made a b (invalid few c id x at) (deep_objects less valid y) = absurd (no_breach made c valid x)
made_stops_once o made a b (invalid few c id x at) (long sound y) = absurd (no_breach made c sound.valid x)
made_stops_once o made a b (deep_objects few valid x) (many y) = absurd (omega (arith, y, few))
made_stops_once o made a b (deep_objects few valid x) (invalid less c id y at) = absurd (no_breach made c valid y)
made_stops_once o made a b (deep_objects few valid x) (deep_objects less also y) = refl
made_stops_once o made a b (deep_objects few valid x) (long sound y) = absurd (sound.flat x)
made_stops_once o made a b (long sound x) (many y) = let few = sound.few in absurd (omega (arith, y, few))
made_stops_once o made a b (long sound x) (invalid less c id y at) = absurd (no_breach made c sound.valid y)
made_stops_once o made a b (long sound x) (deep_objects few valid y) = absurd (sound.flat y)
made_stops_once o made a b (long sound x) (long also y) = refl

fit_or_not : (o : OutputData) (made : ModelData) (end : Ended) → IsFit o made → MadeStops o made end → ⊥
fit_or_not o made end fit (many x) = let few = fit.sound.few in omega (arith, x, few)
fit_or_not o made end fit (invalid few b id x at) = no_breach made b fit.sound.valid x
fit_or_not o made end fit (deep_objects few valid x) = fit.sound.flat x
fit_or_not o made end fit (long sound x) = let short = fit.short in omega (arith, x, short)

made_ends_once : (text : List ℕ) (report : Report) (a b : Ended) → MadeEnds text report a → MadeEnds text report b → a ≡ b
made_ends_once text report a b (same x) (same y) = refl
made_ends_once text report a b (same x) (mended y) = absurd (true≢false (sym x ∙ y))
made_ends_once text report a b (mended x) (same y) = absurd (true≢false (sym y ∙ x))
made_ends_once text report a b (mended x) (mended y) = refl

-- two ends are one, or both are refusals that stand
abbrev AreOneOrStand : Question → Ended → Ended → Type 0
AreOneOrStand q a b = (a ≡ b) ⊎ (DemandsStop q a × DemandsStop q b)

enforcement_ends : (q : Question) (o : OutputData) (a b : Ended) → EnforceAnswer q o a → EnforceAnswer q o b → AreOneOrStand q a b
enforcement_ends q o a b (stopped c x) (stopped d y) = inr (x, y)
enforcement_ends q o a b (stopped c x) (against made is d y) = absurd (stopped_or_ended q c is.demands x is.demanded)
enforcement_ends q o a b (stopped c x) (done made report is fit d y) = absurd (stopped_or_ended q c is.is_made.demands x is.is_made.demanded)
enforcement_ends q o a b (against made is c x) (stopped d y) = absurd (stopped_or_ended q d is.demands y is.demanded)
enforcement_ends q o a b (against made is c x) (against other also d y) =
    inl (made_stops_once o made c d x (subst (λ m. MadeStops o m d) (one_made q other made also is) y))
enforcement_ends q o a b (against made is c x) (done other report also fit d y) =
    absurd (fit_or_not o made c (subst (IsFit o) (one_made q other made also.is_made is) fit) x)
enforcement_ends q o a b (done made report is fit c x) (stopped d y) = absurd (stopped_or_ended q d is.is_made.demands y is.is_made.demanded)
enforcement_ends q o a b (done made report is fit c x) (against other also d y) =
    absurd (fit_or_not o made d fit (subst (λ m. MadeStops o m d) (one_made q other made also is.is_made) y))
enforcement_ends q o a b (done made report is fit c x) (done other account also fine d y) =
    inl (made_ends_once (text_in o.form made) report c d x
    (subst (λ r. MadeEnds (text_in o.form made) r d) (made_reports q other made account report also is)
    (subst (λ m. MadeEnds (text_in o.form m) account d) (one_made q other made also.is_made is.is_made) y)))

trace_ends : (q : Question) (a b : Ended) → TraceAnswer q a → TraceAnswer q b → AreOneOrStand q a b
trace_ends q a b (stops c x) (stops d y) = inr (x, y)
trace_ends q a b (stops c x) (told d is) = absurd (stopped_or_ended q c d x is)
trace_ends q a b (told d is) (stops c x) = absurd (stopped_or_ended q c d x is)
trace_ends q a b (told d is) (told e also) = inl (ap (λ (x : DemandData). traced (text_of_trace (trace_of q.program q.metas q.models x))) (one_demands q d e is also))

-- ---- replies

module _ (files : Files) (w : CheckWords) (i : Inputs files w) (p : Program) (is : ResolvesTo files w i p) where
  abbrev q : Question
  q = question_of files w i p

  ends_alike : (a b : Ended) → AreOneOrStand q a b → AreAlike (AreRefusals (target_path w)) files w (reply_of_end (target_path w) a) (reply_of_end (target_path w) b)
  ends_alike a b (inl e) = subst (λ x. AreAlike (AreRefusals (target_path w)) files w (reply_of_end (target_path w) a) (reply_of_end (target_path w) x)) e (alike.same (reply_of_end (target_path w) a))
  ends_alike a b (inr both) =
      lasts i p is (reply_of_end (target_path w) a) (reply_of_end (target_path w) b) (record { one = ends a both.0; two = ends b both.1 })

  pub enforcements_alike : (form : Form) (r o : Reply) → EnforcementAnswer form (target_path w) q r → EnforcementAnswer form (target_path w) q o
      → AreAlike (AreRefusals (target_path w)) files w r o
  enforcements_alike form r o (ends a x) (ends b y) = ends_alike a b (enforcement_ends q (output_at form (target_path w)) a b x y)

  pub traces_alike : (r o : Reply) → TracingAnswer (target_path w) q r → TracingAnswer (target_path w) q o → AreAlike (AreRefusals (target_path w)) files w r o
  traces_alike r o (ends a x) (ends b y) = ends_alike a b (trace_ends q a b x y)

-- ---- their statuses

abbrev HaveStatuses : List ℕ → Ended → Ended → Type 0
HaveStatuses path a b = (status_of (reply_of_end path a) ≡ status_of (reply_of_end path b)) ⊎ AreExchanged (status_of (reply_of_end path a)) (status_of (reply_of_end path b))

end_statuses : (path : List ℕ) (q : Question) (a b : Ended) → DemandsStop q a → DemandsStop q b → HaveStatuses path a b
end_statuses path q a b (not_enforceable c x) (not_enforceable d y) = inl refl
end_statuses path q a b (not_enforceable c x) (cyclic can chain y) = absurd (answer_refuses q.metas q.program c.relation c.rule x can)
end_statuses path q a b (not_enforceable c x) (deep can chain y) = absurd (answer_refuses q.metas q.program c.relation c.rule x can)
end_statuses path q a b (not_enforceable c x) (unmet can e place y at) = absurd (answer_refuses q.metas q.program c.relation c.rule x can)
end_statuses path q a b (not_enforceable c x) (conflict can clash y) = absurd (answer_refuses q.metas q.program c.relation c.rule x can)
end_statuses path q a b (cyclic can chain x) (not_enforceable d y) = absurd (answer_refuses q.metas q.program d.relation d.rule y can)
end_statuses path q a b (cyclic can chain x) (cyclic also other y) = inl refl
end_statuses path q a b (cyclic can chain x) (deep also other y) = inl refl
end_statuses path q a b (cyclic can chain x) (unmet also e place y at) = inr unmet_for_chain
end_statuses path q a b (cyclic can chain x) (conflict also clash y) = absurd (y.acyclic chain x)
end_statuses path q a b (deep can chain x) (not_enforceable d y) = absurd (answer_refuses q.metas q.program d.relation d.rule y can)
end_statuses path q a b (deep can chain x) (cyclic also other y) = inl refl
end_statuses path q a b (deep can chain x) (deep also other y) = inl refl
end_statuses path q a b (deep can chain x) (unmet also e place y at) = inr unmet_for_chain
end_statuses path q a b (deep can chain x) (conflict also clash y) = absurd (y.short chain x)
end_statuses path q a b (unmet can e place x at) (not_enforceable d y) = absurd (answer_refuses q.metas q.program d.relation d.rule y can)
end_statuses path q a b (unmet can e place x at) (cyclic also other y) = inr chain_for_unmet
end_statuses path q a b (unmet can e place x at) (deep also other y) = inr chain_for_unmet
end_statuses path q a b (unmet can e place x at) (unmet also f there y to) = inl refl
end_statuses path q a b (unmet can e place x at) (conflict also clash y) = absurd (y.met e x)
end_statuses path q a b (conflict can clash x) (not_enforceable d y) = absurd (answer_refuses q.metas q.program d.relation d.rule y can)
end_statuses path q a b (conflict can clash x) (cyclic also other y) = absurd (x.acyclic other y)
end_statuses path q a b (conflict can clash x) (deep also other y) = absurd (x.short other y)
end_statuses path q a b (conflict can clash x) (unmet also e place y at) = absurd (x.met e y)
end_statuses path q a b (conflict can clash x) (conflict also other y) = inl refl

pub refusal_statuses : (path : List ℕ) (q : Question) (reply other : Reply) → IsReplyOf path (DemandsStop q) reply → IsReplyOf path (DemandsStop q) other
    → (status_of reply ≡ status_of other) ⊎ AreExchanged (status_of reply) (status_of other)
refusal_statuses path q reply other (ends a x) (ends b y) = end_statuses path q a b x y
