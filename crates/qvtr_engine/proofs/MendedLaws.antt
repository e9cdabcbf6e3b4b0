-- A target that was enforced and read back: the relations hold with it, and a further enforcement makes the same of it.
use Rattle.std.specs.Prelude.{◌≡◌, ◌↔◌, ◌≤◌, ◌<◌, ◌&&◌, ℕ, zero, suc, Bool, true, false, List, length, filter, Some, slice_get, is_some, IsTrue}
use Rattle.std.proofs.Common.{refl, sym, subst, ◌∙◌, arith}
use Rattle.std.proofs.lemmas.List.{length-set}
use Rattle.std.proofs.lemmas.List.Elements.{All-contains}
use Rattle.std.proofs.lemmas.List.Sums.{count_by-le-length}
use Rattle.std.proofs.lemmas.Option.{same_Some}
use Rattle.mof_metamodel.specs.declared.desc.MetaDesc.{MetaDesc}
use Rattle.object_tables.specs.declared.limit.TheConstants.{MAX_OBJECTS}
use Rattle.object_tables.specs.Models.{ModelData}
use Rattle.object_tables.specs.Sameness.{IsSame}
use Rattle.object_tables.specs.Validity.{Valid}
use Rattle.qv_syntax.specs.declared.program.Program.{Program}
use Rattle.qvtr_semantics.specs.Calls.{RelationCall}
use Rattle.qvtr_semantics.specs.Chains.{Chain, IsCyclic, IsDeep}
use Rattle.qvtr_semantics.specs.Satisfaction.{Satisfied}
use Rattle.enforcement_rules.specs.Rules.{IsEnforceable}
use Rattle.repair_semantics.specs.declared.demand.Demand.{Demand}
use Rattle.repair_semantics.specs.declared.report.Report.{Report}
use Rattle.repair_semantics.specs.Candidates.{candidate}
use Rattle.repair_semantics.specs.CandidateObjects.{fresh_terms}
use Rattle.repair_semantics.specs.Deletions.{managed_classes, images_of, is_unneeded}
use Rattle.repair_semantics.specs.Demands.{demanded_terms}
use Rattle.repair_semantics.specs.Reports.{IsReport, is_removed, is_updated, numbers}
use Rattle.repair_laws.specs.Repairs.{with_target}
use Rattle.entry_finding.specs.Premises.{CanBeEnforced}
use Rattle.demand_set.specs.DemandSets.{DemandData, IsDemandSet}
use Rattle.enforce_mode.specs.Made.{IsSound, IsTooDeep}
use Rattle.enforcement_laws.proofs.Replacing.{target_there, enforced_moved, demands_moved}
use Rattle.enforcement_laws.proofs.UnchangedReports.{equal_is_unchanged}
use Rattle.answer_texts.specs.Question.{Question}
use Rattle.enforce_steps.specs.Endings.{OutputData, unchanged}
use Rattle.enforce_steps.specs.EnforceAnswer.{EnforceAnswer, IsFit, IsMade, done, same}
use Rattle.enforce_steps.specs.Premises.{HasFewConjuncts, IsAskable, IsReadTarget}
use Rattle.enforce_steps.specs.Satisfying.{HoldsOver}

-- ---- what is known of enforcement, of each model that is the same as what was made

abbrev pub AreSatisfying : Type 0
AreSatisfying = (metas : List MetaDesc) (program : Program) (models : List ModelData) (m : ModelData) (d : DemandData) → CanBeEnforced metas program models
    → slice_get models program.target ≡ Some m → Valid m → IsDemandSet program models d → length m.objects ≤ 3_999_000_000 → IsSound (candidate program m d.list)
    → (n : ModelData) → IsSame (candidate program m d.list) n → Valid n → length n.objects ≤ 3_999_000_000
    → Satisfied program (with_target program models n)

abbrev pub AreEnding : Type 0
AreEnding = (metas : List MetaDesc) (program : Program) (models : List ModelData) (m : ModelData) (d : DemandData) → CanBeEnforced metas program models
    → slice_get models program.target ≡ Some m → Valid m → IsDemandSet program models d → length m.objects ≤ 3_999_000_000 → IsSound (candidate program m d.list)
    → (n : ModelData) → IsSame (candidate program m d.list) n → Valid n → length n.objects ≤ 3_999_000_000
    → (chain : List RelationCall) → Chain program (with_target program models n) chain → (¬ IsCyclic chain) × (¬ IsDeep chain)

abbrev pub AreMadeAgain : Type 0
AreMadeAgain = (metas : List MetaDesc) (program : Program) (models : List ModelData) (m : ModelData) (d : DemandData) → CanBeEnforced metas program models
    → slice_get models program.target ≡ Some m → Valid m → IsDemandSet program models d → length m.objects ≤ 3_999_000_000 → IsSound (candidate program m d.list)
    → (n : ModelData) → IsSame (candidate program m d.list) n → Valid n
    → (again : DemandData) → IsDemandSet program (with_target program models n) again → candidate program n again.list ≡ n

-- and of a target with which the relations hold, and of which each object is needed
abbrev pub AreStaying : Type 0
AreStaying = (metas : List MetaDesc) (program : Program) (models : List ModelData) (m : ModelData) (d : DemandData) (report : Report) → CanBeEnforced metas program models
    → slice_get models program.target ≡ Some m → Valid m → IsDemandSet program models d → length m.objects ≤ 3_999_000_000 → IsSound (candidate program m d.list)
    → Satisfied program models → ((o : ℕ) → is_unneeded m (managed_classes program) (images_of program m d.terms) o ≡ false)
    → IsReport program m d.list report → report.unchanged ≡ true

-- ---- a program that can be asked can be enforced, where it keeps the rules

pub can_be_enforced : (q : Question) → IsAskable q → IsEnforceable q.metas q.program → CanBeEnforced q.metas q.program q.models
can_be_enforced q a e = record {
  evaluable = record { well = a.well; texts = a.texts; kept = a.models };
  enforceable = e;
  target = subst (λ n. q.program.target < n) (sym a.count) a.well.numbers.target;
  rels = a.rels;
  vars = a.vars;
  wheres = λ rel has. All-contains HasFewConjuncts q.program.rels rel a.wheres has;
}

-- ---- there is a report

abbrev is_zero : ℕ → Bool
is_zero zero = true
is_zero (suc n) = false

all_zero : (a b c : ℕ) → IsTrue (is_zero a && is_zero b && is_zero c) ↔ ((a ≡ 0) × (b ≡ 0) × (c ≡ 0))
all_zero zero zero zero = (λ h. (refl, refl, refl), λ h. refl)
all_zero zero zero (suc c) = (λ h. absurd (cc), λ h. let no = h.2 in absurd (omega (arith, no)))
all_zero zero (suc b) c = (λ h. absurd (cc), λ h. let no = h.1 in absurd (omega (arith, no)))
all_zero (suc a) b c = (λ h. absurd (cc), λ h. let no = h.0 in absurd (omega (arith, no)))

some_report : (program : Program) (m : ModelData) (demands : List Demand) → (report : Report) × IsReport program m demands report
some_report program m demands =
    let created : ℕ = length (fresh_terms program m (demanded_terms demands)) in
    let updated : ℕ = length (filter (is_updated m (candidate program m demands)) (numbers m)) in
    let deleted : ℕ = length (filter (is_removed m (candidate program m demands)) (numbers m)) in (
      record { created = created; updated = updated; deleted = deleted; unchanged = is_zero created && is_zero updated && is_zero deleted },
      record { created = refl; updated = refl; deleted = refl; unchanged = all_zero created updated deleted },
    )

-- ---- over the models with what was read back

-- a question over other models
abbrev pub over : Question → List ModelData → Question
over q models = record { metas = q.metas; program = q.program; models = models }

module _ (q : Question) (a : IsAskable q) (made : ModelData) (i : IsMade q made) (sound : IsSound made) (n : ModelData) (alike : IsSame made n) (valid : Valid n)
    (few : length n.objects ≤ MAX_OBJECTS)
  where
    abbrev pub others : List ModelData
    others = with_target q.program q.models n

    target : IsReadTarget i.target
    target = a.target i.target i.target_is

    can : CanBeEnforced q.metas q.program q.models
    can = can_be_enforced q a i.demanded.enforceable

    sound_there : IsSound (candidate q.program i.target i.demands.list)
    sound_there = subst IsSound i.made_is sound

    alike_there : IsSame (candidate q.program i.target i.demands.list) n
    alike_there = subst (λ (x : ModelData). IsSame x n) i.made_is alike

    few_numbers : length n.objects ≤ 3_999_000_000
    few_numbers = omega (arith, few)

    -- it is of the metamodel of the target
    same_meta : n.meta ≡ i.target.meta
    same_meta = alike_there.meta

    there : slice_get others q.program.target ≡ Some n
    there = target_there q.program q.models i.target n i.target_is

    moved : CanBeEnforced q.metas q.program others
    moved = enforced_moved q.program q.models i.target n i.target_is q.metas can same_meta valid.kept

    demanded_again : IsDemandSet q.program others i.demands
    demanded_again = demands_moved q.program q.models i.target n i.target_is q.metas can same_meta i.demands i.demanded.are

    -- the relations hold
    pub holds_again : AreSatisfying → AreEnding → HoldsOver q others
    holds_again satisfied chains =
        let end : (chain : List RelationCall) → Chain q.program others chain → (¬ IsCyclic chain) × (¬ IsDeep chain) =
        chains q.metas q.program q.models i.target i.demands can i.target_is target.valid i.demanded.are target.numbers sound_there n alike_there valid few_numbers in
        record {
          satisfied = satisfied q.metas q.program q.models i.target i.demands can i.target_is target.valid i.demanded.are target.numbers sound_there n alike_there valid few_numbers;
          acyclic = λ chain c. (end chain c.reached).0 c.cyclic;
          short = λ chain c. (end chain c.reached).1 c.deep;
        }

    -- it can be asked again
    pub askable_again : IsAskable (over q others)
    askable_again = record {
      well = a.well;
      rels = a.rels;
      queries = a.queries;
      vars = a.vars;
      wheres = a.wheres;
      texts = a.texts;
      count = length-set q.models q.program.target n ∙ a.count;
      models = moved.evaluable.kept;
      target = λ m at. subst IsReadTarget (same_Some n m (sym there ∙ at)) (record { valid = valid; numbers = few_numbers });
    }

    -- the same is made
    abbrev made_again : AreMadeAgain → IsMade (over q others) n
    made_again again = record {
      target = n;
      target_is = there;
      demands = i.demands;
      demanded = record { enforceable = i.demanded.enforceable; are = demanded_again };
      made_is = sym (again q.metas q.program q.models i.target i.demands can i.target_is target.valid i.demanded.are target.numbers sound_there n alike_there valid i.demands demanded_again);
    }

    -- nothing is changed
    still : AreMadeAgain → (report : Report) → IsReport q.program n i.demands.list report → report.unchanged ≡ true
    still again report is = equal_is_unchanged q.program n i.demands.list report is few_numbers (sym (made_again again).made_is)

    -- it is sound
    pub sound_again : ¬ IsTooDeep n → IsSound n
    sound_again flat = record { few = (let live = count_by-le-length is_some n.objects in omega (arith, live, few)); valid = valid; flat = flat }

    -- so an enforcement leaves it
    pub kept_again : AreMadeAgain → (o : OutputData) → IsFit o n → EnforceAnswer (over q others) o unchanged
    kept_again again o fit =
        let (report, is) = some_report q.program n i.demands.list in
        done n report (record { is_made = made_again again; is_report = is; askable = askable_again }) fit unchanged (same (still again report is))
