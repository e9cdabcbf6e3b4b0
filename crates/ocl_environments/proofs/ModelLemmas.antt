-- One way through the models finds the one model of each metamodel.
use Rattle.std.proofs.Common.{if◌then◌else◌, ◌≡◌, ◌<◌, ◌≤◌, ℕ, ◌+◌, Bool, true, false, List, [], ◌∷◌, ◌++◌, Option, None, Result, Ok, Err, map, set, replicate, length, drop, get_or, refl, sym, ◌∙◌, ap, arith, inl, inr, eq-eqb}
use Rattle.std.specs.Prelude.{◌==◌, IfOk}
use Rattle.std.proofs.lemmas.Bool.{cases_eq, ne_eqb}
use Rattle.std.proofs.lemmas.List.{drop_more, drop_all, get_or-map, length-map, get_or-replicate, length-replicate, get_or-set_same, get_or-set_other}
use Rattle.std.proofs.lemmas.List.FromFn.{fill_by_all}
use Rattle.qv_syntax.specs.declared.query.ModelSlot.{ModelSlot}
use Rattle.ocl_environments.specs.declared.extents.Met.{Met}
use Rattle.ocl_environments.specs.declared.extents.Met.TheVariants.{Nothing, Several}
use Rattle.ocl_environments.specs.Environments.{only, models_of, only_model, only_models}
use Rattle.ocl_environments.specs.Extents.{next_met, met_all, alone_of, met_at}

several_met : (is : List ℕ) → met_all Several is ≡ Several
several_met [] = refl
several_met (i ∷ is) = several_met is

met_only : (is : List ℕ) → alone_of (met_all Nothing is) ≡ only is
met_only [] = refl
met_only (i ∷ []) = refl
met_only (i ∷ j ∷ is) = ap alone_of (several_met is)

-- another metamodel's place stays as it is
pub met_put : (table : List Met) (at i : ℕ) → at < length table → (meta : ℕ) → meta < length table
    → met_at (set table at (next_met (met_at table at) i)) meta ≡ (if at == meta then next_met (met_at table meta) i else met_at table meta)
met_put table at i within meta inside = elim (cases_eq at meta) [
  | inl e ↦ ap (λ n. met_at (set table at (next_met (met_at table at) i)) n) (sym e) ∙ get_or-set_same table at (next_met (met_at table at) i) Nothing within
      ∙ ap (λ n. next_met (met_at table n) i) e ∙ ap (λ b. if b then next_met (met_at table meta) i else met_at table meta) (sym (eq-eqb at meta e))
  | inr e ↦ get_or-set_other table at meta (next_met (met_at table at) i) Nothing (λ f. e (sym f))
      ∙ ap (λ b. if b then next_met (met_at table meta) i else met_at table meta) (sym (ne_eqb at meta e))
]

pub met_past : (table : List Met) (at i : ℕ) → length table ≤ at → (meta : ℕ) → meta < length table
    → met_at table meta ≡ (if at == meta then next_met (met_at table meta) i else met_at table meta)
met_past table at i past meta inside = elim (cases_eq at meta) [
  | inl e ↦ absurd (omega (arith, past, inside, e))
  | inr e ↦ ap (λ b. if b then next_met (met_at table meta) i else met_at table meta) (sym (ne_eqb at meta e))
]

module _ (models : List ModelSlot) where
  models-step : (meta i : ℕ) (slot : ModelSlot) → i < length models → slot ≡ get_or models i slot
      → models_of meta i (drop i models) ≡ (if slot.meta == meta then i ∷ [] else []) ++ models_of meta (i + 1) (drop (i + 1) models)
  models-step meta i slot within is =
      ap (λ ms. models_of meta i ms) (drop_more models i slot within)
      ∙ ap (λ (s : ModelSlot). (if s.meta == meta then i ∷ [] else []) ++ models_of meta (i + 1) (drop (i + 1) models)) (sym is)

  -- one model more
  pub met_step : (before after : Met) (meta i : ℕ) (slot : ModelSlot) → i < length models → slot ≡ get_or models i slot
      → after ≡ (if slot.meta == meta then next_met before i else before)
      → met_all after (models_of meta (i + 1) (drop (i + 1) models)) ≡ met_all before (models_of meta i (drop i models))
  met_step before after meta i slot within is grown =
      ap (λ m. met_all m rest) grown ∙ by (slot.meta == meta) ∙ ap (met_all before) (sym (models-step meta i slot within is))
    where
      rest : List ℕ
      rest = models_of meta (i + 1) (drop (i + 1) models)

      by : (b : Bool) → met_all (if b then next_met before i else before) rest ≡ met_all before ((if b then i ∷ [] else []) ++ rest)
      by true = refl
      by false = refl

  pub met_end : (met whole : Met) (meta i : ℕ) → length models ≤ i → met_all met (models_of meta i (drop i models)) ≡ whole → met ≡ whole
  met_end met whole meta i end is = sym (ap (λ ms. met_all met (models_of meta i ms)) (drop_all i models end)) ∙ is

  pub met_table : (count : ℕ) (before after : List Met) (out : List (Option ℕ)) → before ≡ replicate count Nothing → length after ≡ length before
      → ((meta : ℕ) → meta < length before → met_at after meta ≡ met_all (met_at before meta) (models_of meta 0 models))
      → out ≡ map alone_of after → out ≡ only_models models count
  unfolding only_model
  met_table count before after out none long met told =
      let counted : length before ≡ count = ap length none ∙ length-replicate count Nothing in
      told ∙ fill_by_all (only_model models) (map alone_of after) count None (let m = length-map after alone_of in omega (arith, m, long, counted))
      (λ k lt.
      get_or-map alone_of after k Nothing None (omega (arith, lt, long, counted))
      ∙ ap alone_of (met k (omega (arith, lt, counted)) ∙ ap (λ m. met_all m (models_of k 0 models)) (ap (λ t. met_at t k) none ∙ get_or-replicate count k Nothing Nothing lt))
      ∙ met_only (models_of k 0 models))

  -- the same of what a call gives
  pub table_made : {E : Type 0} (r : Result (List (Option ℕ)) E) (count : ℕ) (before after : List Met) → before ≡ replicate count Nothing → length after ≡ length before
      → ((meta : ℕ) → meta < length before → met_at after meta ≡ met_all (met_at before meta) (models_of meta 0 models))
      → IfOk r (λ out. out ≡ map alone_of after) → IfOk r (λ out. out ≡ only_models models count)
  table_made (Ok out) count before after none long met told = met_table count before after out none long met told
  table_made (Err e) count before after none long met told = tt
