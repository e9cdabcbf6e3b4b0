-- Models with another target of the same metamodel: a program can be enforced over them as before, and the same is demanded.
use Rattle.std.specs.Prelude.{◌≡◌, ◌≢◌, ◌<◌, ◌⊎◌, ℕ, zero, suc, true, false, List, [], ◌∷◌, Option, Some, slice_get, slice_set}
use Rattle.std.specs.Option.{option_map_or}
use Rattle.std.proofs.Common.{refl, ap, sym, ◌∙◌, subst, inl, inr, eqb}
use Rattle.std.proofs.lemmas.Bool.Decides.{eqb_tells}
use Rattle.std.proofs.lemmas.List.{length-set}
use Rattle.mof_metamodel.specs.declared.desc.MetaDesc.{MetaDesc}
use Rattle.object_tables.specs.Kept.{Kept}
use Rattle.object_tables.specs.Models.{ModelData}
use Rattle.qv_syntax.specs.declared.program.Program.{Program}
use Rattle.qvtr_semantics.specs.Expressions.{setting}
use Rattle.evaluation_laws.specs.TypedValues.{IsModelFor, AreModels}
use Rattle.source_laws.specs.Agreement.{AgreeBut}
use Rattle.repair_semantics.specs.TargetItems.{no_metamodel, target_metamodel}
use Rattle.repair_semantics.specs.EntryOrder.{AreEntries}
use Rattle.repair_semantics.specs.Conflicts.{AreAtPeace}
use Rattle.repair_laws.specs.Repairs.{with_target}
use Rattle.demand_sources.proofs.EntriesMoved.{demands_same}
use Rattle.demand_sources.proofs.ChainsMoved.{cyclic_back, deep_back, unmet_back, are_to}
use Rattle.entry_finding.specs.Premises.{CanBeEnforced}
use Rattle.demand_set.specs.DemandSets.{DemandData, IsDemandSet}

-- ---- lists with another element at a place

set_there : {X : Type 0} (xs : List X) (i : ℕ) (x y : X) → slice_get xs i ≡ Some y → slice_get (slice_set xs i x) i ≡ Some x
set_there [] i x y is = absurd (cc)
set_there (z ∷ xs) zero x y is = refl
set_there (z ∷ xs) (suc i) x y is = set_there xs i x y is

set_elsewhere : {X : Type 0} (xs : List X) (i j : ℕ) (x : X) → j ≢ i → slice_get (slice_set xs i x) j ≡ slice_get xs j
set_elsewhere [] i j x other = refl
set_elsewhere (z ∷ xs) zero zero x other = absurd (other refl)
set_elsewhere (z ∷ xs) zero (suc j) x other = refl
set_elsewhere (z ∷ xs) (suc i) zero x other = refl
set_elsewhere (z ∷ xs) (suc i) (suc j) x other = set_elsewhere xs i j x (λ same. other (ap suc same))

-- the last one that is set stands
set_again : {X : Type 0} (xs : List X) (i : ℕ) (x y : X) → slice_set (slice_set xs i x) i y ≡ slice_set xs i y
set_again [] i x y = refl
set_again (z ∷ xs) zero x y = refl
set_again (z ∷ xs) (suc i) x y = ap (λ ys. z ∷ ys) (set_again xs i x y)

one_model : (a b : ModelData) → Some a ≡ Some b → a ≡ b
one_model a b h = cc

-- ---- the target's metamodel

pub metamodel_at : (program : Program) (models : List ModelData) (m : ModelData) → slice_get models program.target ≡ Some m → target_metamodel program models ≡ m.meta
metamodel_at program models m target = ap (λ (x : Option ModelData). option_map_or (λ n. n.meta) x no_metamodel) target

module _ (program : Program) (models : List ModelData) (m n : ModelData) (target : slice_get models program.target ≡ Some m) where
  abbrev others : List ModelData
  others = with_target program models n

  pub target_there : slice_get others program.target ≡ Some n
  target_there = set_there models program.target n m target

  pub agree : AgreeBut program.target models others
  agree k other = sym (set_elsewhere models program.target k n other)

  -- what is made of the other target takes the place of the first one
  pub target_again : (other : ModelData) → with_target program others other ≡ with_target program models other
  target_again other = set_again models program.target n other

  module _ (metas : List MetaDesc) (can : CanBeEnforced metas program models) (same : n.meta ≡ m.meta) where
    pub metas_same : target_metamodel program models ≡ target_metamodel program others
    metas_same = metamodel_at program models m target ∙ sym same ∙ sym (metamodel_at program others n target_there)

    -- the other target is one of the program's models
    models_others : Kept n → AreModels metas (setting program others)
    models_others kept k slot model at there = by (eqb_tells k program.target)
      where
        by : ((eqb k program.target ≡ true) × (k ≡ program.target)) ⊎ ((eqb k program.target ≡ false) × (k ≢ program.target)) → IsModelFor metas slot model
        by (inr other) = can.evaluable.kept k slot model at (sym (set_elsewhere models program.target k n other.1) ∙ there)
        by (inl here) =
            let old = can.evaluable.kept k slot m at (ap (slice_get models) here.1 ∙ target) in
            let one : n ≡ model = one_model n model (sym target_there ∙ ap (slice_get others) (sym here.1) ∙ there) in
            subst (IsModelFor metas slot) one (record { kept = kept; described = old.described ∙ ap (λ (x : MetaDesc). Some x) (sym same) })

    pub enforced_moved : Kept n → CanBeEnforced metas program others
    enforced_moved kept = record {
      evaluable = record { well = can.evaluable.well; texts = can.evaluable.texts; kept = models_others kept };
      enforceable = can.enforceable;
      target = subst (λ (k : ℕ). program.target < k) (sym (length-set models program.target n)) can.target;
      rels = can.rels;
      vars = can.vars;
      wheres = can.wheres;
    }

    module _ (d : DemandData) (are : IsDemandSet program models d) where
      pub entries_moved : AreEntries program others d.entries
      entries_moved = are_to metas program models others can.evaluable can.enforceable agree metas_same d.entries are.entries

      pub demands_moved : IsDemandSet program others d
      demands_moved = record {
        entries = entries_moved;
        list = are.list ∙ demands_same metas program models others can.evaluable can.enforceable agree metas_same d.entries are.entries.only;
        terms = are.terms;
        acyclic = λ chain cyclic. are.acyclic chain (cyclic_back metas program models others can.evaluable can.enforceable agree metas_same chain cyclic);
        short = λ chain deep. are.short chain (deep_back metas program models others can.evaluable can.enforceable agree metas_same chain deep);
        met = λ e unmet. are.met e (unmet_back metas program models others can.evaluable can.enforceable agree metas_same e unmet);
        peaceful = subst (λ (x : MetaDesc). AreAtPeace x d.list) metas_same are.peaceful;
      }
