-- After an enforcement the relations hold, and another one is neither refused nor changes anything.
use Rattle.std.proofs.Common.{◌≡◌, ◌≤◌, ℕ, zero, suc, true, List, [], ◌∷◌, length, Some, refl, sym, ap, ◌∙◌, subst}
use Rattle.std.specs.Prelude.{slice_get, slice_set}
use Rattle.std.proofs.lemmas.Option.{same_Some, none-some}
use Rattle.mof_metamodel.specs.declared.desc.MetaDesc.{MetaDesc}
use Rattle.object_tables.specs.Models.{ModelData}
use Rattle.object_tables.specs.Kept.{Kept}
use Rattle.object_tables.specs.Sameness.{IsSame}
use Rattle.object_tables.specs.Validity.{Valid}
use Rattle.object_tables.proofs.SamenessLemmas.{same_as_itself}
use Rattle.qv_syntax.specs.declared.program.Program.{Program}
use Rattle.qvtr_semantics.specs.Calls.{RelationCall}
use Rattle.qvtr_semantics.specs.Satisfaction.{Satisfied}
use Rattle.qvtr_semantics.specs.Chains.{Chain, IsCyclic, IsDeep}
use Rattle.repair_semantics.specs.declared.report.Report.{Report}
use Rattle.repair_semantics.specs.Candidates.{candidate}
use Rattle.repair_semantics.specs.Reports.{IsReport}
use Rattle.repair_laws.specs.Repairs.{with_target}
use Rattle.entry_finding.specs.Premises.{CanBeEnforced}
use Rattle.demand_set.specs.DemandSets.{DemandData, IsDemandSet}
use Rattle.enforce_mode.specs.Made.{IsSound}
use Rattle.relation_calls.specs.declared.error.CallError.{CallError}
use Rattle.relation_calls.specs.declared.error.CallError.TheVariants as calls
use Rattle.relation_calls.specs.Faults.{IsFault}
use Rattle.relation_calls.specs.Names.{chain_named}
use Rattle.example_run.specs.Repaired.{IsReadable, IsUnrefused, IsRepaired, IsAfter}
use Rattle.example_run.proofs.RefusalLaws.{not_refused}

-- ---- the laws of enforcement

abbrev pub Replaces : Type 0
Replaces = (metas : List MetaDesc) (program : Program) (models : List ModelData) (m n : ModelData) → CanBeEnforced metas program models → slice_get models program.target ≡ Some m → Kept n
    → n.meta ≡ m.meta → CanBeEnforced metas program (with_target program models n)

abbrev pub IsOfSources : Type 0
IsOfSources = (metas : List MetaDesc) (program : Program) (models : List ModelData) (m n : ModelData) (d : DemandData) → CanBeEnforced metas program models
    → slice_get models program.target ≡ Some m → n.meta ≡ m.meta → IsDemandSet program models d → IsDemandSet program (with_target program models n) d

abbrev pub Satisfies : Type 0
Satisfies = (metas : List MetaDesc) (program : Program) (models : List ModelData) (m : ModelData) (d : DemandData) → CanBeEnforced metas program models → slice_get models program.target ≡ Some m
    → Valid m → IsDemandSet program models d → length m.objects ≤ 3_999_000_000 → IsSound (candidate program m d.list) → Satisfied program (with_target program models (candidate program m d.list))

abbrev pub HasCleanChains : Type 0
HasCleanChains = (metas : List MetaDesc) (program : Program) (models : List ModelData) (m : ModelData) (d : DemandData) → CanBeEnforced metas program models
    → slice_get models program.target ≡ Some m → Valid m → IsDemandSet program models d → length m.objects ≤ 3_999_000_000 → IsSound (candidate program m d.list)
    → (chain : List RelationCall) → Chain program (with_target program models (candidate program m d.list)) chain → (¬ IsCyclic chain) × (¬ IsDeep chain)

abbrev pub Stays : Type 0
Stays = (metas : List MetaDesc) (program : Program) (models : List ModelData) (m : ModelData) (d : DemandData) → CanBeEnforced metas program models → slice_get models program.target ≡ Some m
    → Valid m → IsDemandSet program models d → length m.objects ≤ 3_999_000_000 → IsSound (candidate program m d.list) → (n : ModelData) → IsSame (candidate program m d.list) n → Valid n
    → (again : DemandData) → IsDemandSet program (with_target program models n) again → candidate program n again.list ≡ n

abbrev pub IsToldToStay : Type 0
IsToldToStay = (metas : List MetaDesc) (program : Program) (models : List ModelData) (m : ModelData) (d : DemandData) → CanBeEnforced metas program models
    → slice_get models program.target ≡ Some m → Valid m → IsDemandSet program models d → length m.objects ≤ 3_999_000_000 → IsSound (candidate program m d.list)
    → (n : ModelData) → IsSame (candidate program m d.list) n → Valid n → length n.objects ≤ 3_999_000_000
    → (again : DemandData) (report : Report) → IsDemandSet program (with_target program models n) again → IsReport program n again.list report → report.unchanged ≡ true

-- ---- what was put at a place is found there

found_set : {X : Type 0} (xs : List X) (i : ℕ) (x y : X) → slice_get xs i ≡ Some x → slice_get (slice_set xs i y) i ≡ Some y
found_set [] i x y e = absurd (none-some x e)
found_set (z ∷ xs) zero x y e = refl
found_set (z ∷ xs) (suc i) x y e = found_set xs i x y e

-- ---- models after an enforcement

module _ (program : Program) (models : List ModelData) (a : IsAfter program models) where
  abbrev target : ModelData
  target = a.repaired.target

  abbrev d : DemandData
  d = a.repaired.demands

  abbrev made : ModelData
  made = candidate program target d.list

  readable : IsReadable target
  readable = a.readable target a.repaired.demanded.target_is

  pub made_there : slice_get models program.target ≡ Some made
  made_there = ap (λ (ms : List ModelData). slice_get ms program.target) a.repaired.after_is ∙ found_set a.before program.target target made a.repaired.demanded.target_is

  -- the target is the model that was made
  made_is : (m : ModelData) → slice_get models program.target ≡ Some m → made ≡ m
  made_is m is = same_Some made m (sym made_there ∙ is)

  pub can_again : Replaces → CanBeEnforced a.metas program models
  can_again replaces =
      subst (CanBeEnforced a.metas program) (sym a.repaired.after_is) (replaces a.metas program a.before target made a.can a.repaired.demanded.target_is a.repaired.sound.valid.kept refl)

  demanded_again : IsOfSources → IsDemandSet program models d
  demanded_again sources =
      subst (λ (ms : List ModelData). IsDemandSet program ms d) (sym a.repaired.after_is) (sources a.metas program a.before target made d a.can a.repaired.demanded.target_is refl a.repaired.demanded.are)

  pub satisfied_after : Satisfies → Satisfied program models
  satisfied_after satisfies =
      subst (Satisfied program) (sym a.repaired.after_is)
      (satisfies a.metas program a.before target d a.can a.repaired.demanded.target_is readable.valid a.repaired.demanded.are readable.numbers a.repaired.sound)

  pub clean_after : HasCleanChains → (chain : List RelationCall) → Chain program models chain → (¬ IsCyclic chain) × (¬ IsDeep chain)
  clean_after clean chain reached =
      clean a.metas program a.before target d a.can a.repaired.demanded.target_is readable.valid a.repaired.demanded.are readable.numbers a.repaired.sound chain
      (subst (λ (ms : List ModelData). Chain program ms chain) a.repaired.after_is reached)

  -- over the same models, as they are written in the laws
  over_written : (again : DemandData) → IsDemandSet program models again → IsDemandSet program (with_target program a.before made) again
  over_written again is = subst (λ (ms : List ModelData). IsDemandSet program ms again) a.repaired.after_is is

  -- nothing is refused
  pub unrefused_after : IsOfSources → Stays → IsUnrefused program models
  unrefused_after sources stays = record {
    demanded = not_refused program models d (demanded_again sources);
    sound = λ m again r.
        (let is : made ≡ m = made_is m r.target_is in
        let same : candidate program m again.list ≡ made =
        ap (λ (x : ModelData). candidate program x again.list) (sym is)
        ∙ stays a.metas program a.before target d a.can a.repaired.demanded.target_is readable.valid a.repaired.demanded.are readable.numbers a.repaired.sound made (same_as_itself made) a.repaired.sound.valid
        again (over_written again r.are) in
        subst IsSound (sym same) a.repaired.sound);
  }

  -- and nothing changes
  pub unchanged_after : IsToldToStay → IsReadable made → (later : List ModelData) (report : Report) → IsRepaired program models later report → report.unchanged ≡ true
  unchanged_after told fine later report r =
      told a.metas program a.before target d a.can a.repaired.demanded.target_is readable.valid a.repaired.demanded.are readable.numbers a.repaired.sound made (same_as_itself made) fine.valid fine.numbers
      r.demands report (over_written r.demands r.demanded.are)
      (subst (λ (m : ModelData). IsReport program m r.demands.list report) (sym (made_is r.target r.demanded.target_is)) r.report_is)

-- a check is refused for want of memory alone
pub checked_after : (program : Program) (models : List ModelData) → ((chain : List RelationCall) → Chain program models chain → (¬ IsCyclic chain) × (¬ IsDeep chain)) → (e : CallError)
    → IsFault (Chain program models) e → e ≡ calls.NoMemory
checked_after program models clean calls.NoMemory fault = refl
checked_after program models clean (calls.Cycle names) fault = absurd ((clean (chain_named names) fault.0).0 fault.1)
checked_after program models clean (calls.Deep names) fault = absurd ((clean (chain_named names) fault.0).1 fault.1)
