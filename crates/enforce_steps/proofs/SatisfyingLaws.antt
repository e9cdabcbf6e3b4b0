-- What an enforcement leaves that isn't refused satisfies the relations.
use Rattle.std.specs.Prelude.{◌≡◌, ◌↔◌, ◌≤◌, ℕ, zero, suc, true, List, [], ◌∷◌, length, Some, slice_get, slice_set}
use Rattle.std.proofs.Common.{refl, sym, ap, subst, ◌∙◌}
use Rattle.mof_metamodel.specs.declared.desc.MetaDesc.{MetaDesc}
use Rattle.object_tables.specs.Models.{ModelData}
use Rattle.object_tables.specs.Validity.{Valid}
use Rattle.qv_syntax.specs.declared.program.Program.{Program}
use Rattle.qvtr_semantics.specs.Calls.{RelationCall}
use Rattle.qvtr_semantics.specs.Chains.{Chain, IsCyclic, IsDeep}
use Rattle.qvtr_semantics.specs.Satisfaction.{Satisfied}
use Rattle.repair_semantics.specs.declared.demand.Demand.{Demand}
use Rattle.repair_semantics.specs.declared.report.Report.{Report}
use Rattle.repair_semantics.specs.Candidates.{candidate}
use Rattle.repair_semantics.specs.Reports.{IsReport}
use Rattle.repair_laws.specs.Repairs.{with_target}
use Rattle.entry_finding.specs.Premises.{CanBeEnforced}
use Rattle.demand_set.specs.DemandSets.{DemandData, IsDemandSet}
use Rattle.enforce_mode.specs.Made.{IsSound}
use Rattle.answer_texts.specs.Question.{Question}
use Rattle.enforce_steps.specs.Endings.{Ended, OutputData}
use Rattle.enforce_steps.specs.StepTexts.{text_in}
use Rattle.enforce_steps.specs.EnforceAnswer.{DemandsStop, not_enforceable, cyclic, deep, unmet, conflict, EnforceAnswer, stopped, against, done, IsFit, IsMade, IsMadeSo, MadeStops, many, invalid, deep_objects, long, MadeEnds, same, mended}
use Rattle.enforce_steps.specs.Premises.{IsAskable}
use Rattle.enforce_steps.specs.Satisfying.{HoldsOver, LeavesSatisfied}
use Rattle.enforce_steps.proofs.AskableLaws.{can_be_enforced}

-- a list with what stands there already at a place
set_same : {X : Type 0} (xs : List X) (i : ℕ) (x : X) → slice_get xs i ≡ Some x → slice_set xs i x ≡ xs
set_same [] i x is = refl
set_same (z ∷ xs) zero x is = cc
set_same (z ∷ xs) (suc i) x is = ap (λ ys. z ∷ ys) (set_same xs i x is)

-- a refusal leaves nothing
refused_demands : (q : Question) (o : OutputData) (end : Ended) → DemandsStop q end → LeavesSatisfied q o end
refused_demands q o end (not_enforceable b is) = tt
refused_demands q o end (cyclic e chain is) = tt
refused_demands q o end (deep e chain is) = tt
refused_demands q o end (unmet e entry place is at) = tt
refused_demands q o end (conflict e clash is) = tt

refused_made : (q : Question) (o : OutputData) (made : ModelData) (end : Ended) → MadeStops o made end → LeavesSatisfied q o end
refused_made q o made end (many h) = tt
refused_made q o made end (invalid few b id first at) = tt
refused_made q o made end (deep_objects few valid h) = tt
refused_made q o made end (long sound h) = tt

module _
    (satisfied : (metas : List MetaDesc) (program : Program) (models : List ModelData) (m : ModelData) (d : DemandData) → CanBeEnforced metas program models
    → slice_get models program.target ≡ Some m → Valid m → IsDemandSet program models d → length m.objects ≤ 3_999_000_000 → IsSound (candidate program m d.list)
    → Satisfied program (with_target program models (candidate program m d.list)))
    (chains : (metas : List MetaDesc) (program : Program) (models : List ModelData) (m : ModelData) (d : DemandData) → CanBeEnforced metas program models
    → slice_get models program.target ≡ Some m → Valid m → IsDemandSet program models d → length m.objects ≤ 3_999_000_000 → IsSound (candidate program m d.list)
    → (chain : List RelationCall) → Chain program (with_target program models (candidate program m d.list)) chain → (¬ IsCyclic chain) × (¬ IsDeep chain))
    (exact : (program : Program) (m : ModelData) (demands : List Demand) (report : Report) → Valid m → length m.objects ≤ 3_999_000_000 → IsSound (candidate program m demands)
    → IsReport program m demands report → report.unchanged ≡ true ↔ (candidate program m demands ≡ m))
    (q : Question) (o : OutputData) (a : IsAskable q) where
  -- the relations hold with the candidate
  holds_with_candidate : (made : ModelData) (i : IsMade q made) → IsSound made → HoldsOver q (with_target q.program q.models (candidate q.program i.target i.demands.list))
  holds_with_candidate made i sound =
      let target = a.target i.target i.target_is in
      let can = can_be_enforced q a i.demanded.enforceable in
      let sound_there = subst IsSound i.made_is sound in
      let chain_there = chains q.metas q.program q.models i.target i.demands can i.target_is target.valid i.demanded.are target.numbers sound_there in
      record {
        satisfied = satisfied q.metas q.program q.models i.target i.demands can i.target_is target.valid i.demanded.are target.numbers sound_there;
        acyclic = λ chain c. (chain_there chain c.reached).0 c.cyclic;
        short = λ chain c. (chain_there chain c.reached).1 c.deep;
      }

  -- with what is made
  holds_with : (made : ModelData) → IsMade q made → IsSound made → HoldsOver q (with_target q.program q.models made)
  holds_with made i sound = subst (λ (n : ModelData). HoldsOver q (with_target q.program q.models n)) (sym i.made_is) (holds_with_candidate made i sound)

  -- and where nothing changes, with what is there
  stays : (made : ModelData) (report : Report) → IsMadeSo q made report → IsSound made → report.unchanged ≡ true → HoldsOver q q.models
  stays made report i sound still =
      let is = i.is_made in
      let target = a.target is.target is.target_is in
      let there : candidate q.program is.target is.demands.list ≡ is.target =
      (exact q.program is.target is.demands.list report target.valid target.numbers (subst IsSound is.made_is sound) i.is_report).0 still in
      subst (HoldsOver q) (ap (λ (n : ModelData). with_target q.program q.models n) there ∙ set_same q.models q.program.target is.target is.target_is)
      (holds_with_candidate made is sound)

  ended : (made : ModelData) (report : Report) → IsMadeSo q made report → IsFit o made → (end : Ended) → MadeEnds (text_in o.form made) report end → LeavesSatisfied q o end
  ended made report i fit end (same still) = stays made report i fit.sound still
  ended made report i fit end (mended differs) = record { made = made; text = refl; sound = fit.sound; holds = holds_with made i.is_made fit.sound }

  pub leaves_satisfied : (end : Ended) → EnforceAnswer q o end → LeavesSatisfied q o end
  leaves_satisfied end (stopped other s) = refused_demands q o other s
  leaves_satisfied end (against made i other s) = refused_made q o made other s
  leaves_satisfied end (done made report i fit other e) = ended made report i fit other e
