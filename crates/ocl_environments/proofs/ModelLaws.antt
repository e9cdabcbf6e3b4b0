-- The one model of a metamodel, and what is kept of it.
use Rattle.std.proofs.Common.{◌≡◌, ◌<◌, ◌≤◌, ℕ, ◌+◌, if◌then◌else◌, List, [], ◌∷◌, ◌++◌, Option, None, length, get_or, refl, sym, ap, ◌∙◌, arith}
use Rattle.std.specs.Prelude.{nat_lt, IsTrue}
use Rattle.std.proofs.lemmas.Bool.{ltb-true, ne_eqb}
use Rattle.std.proofs.lemmas.List.FromFn.{get_or-map-range_with_len, length-map-range_with_len}
use Rattle.qv_syntax.specs.declared.query.ModelSlot.{ModelSlot}
use Rattle.ocl_environments.specs.Environments.{have_metas, only, models_of, only_model, only_models}
use Rattle.std.proofs.lemmas.Bool.{and_parts}

module _ (models : List ModelSlot) (table : List (Option ℕ)) (count : ℕ) (kept : table ≡ only_models models count) where
  long : length table ≡ count
  long = ap length kept ∙ length-map-range_with_len (only_model models) 0 count

  -- what is kept of a metamodel is its one model
  pub only_at : (meta : ℕ) (d : Option ℕ) → meta < length table → get_or table meta d ≡ only_model models meta
  only_at meta d within =
      ap (λ t. get_or t meta d) kept ∙ get_or-map-range_with_len (only_model models) 0 count meta meta d (omega (arith, within, long)) (omega arith)

  -- no model has a metamodel past the end
  none_past : (meta i : ℕ) (slots : List ModelSlot) → IsTrue (have_metas slots count) → count ≤ meta → models_of meta i slots ≡ []
  none_past meta i [] placed past = refl
  none_past meta i (slot ∷ slots) placed past =
      let both = and_parts (nat_lt slot.meta count) (have_metas slots count) placed in
      let before : slot.meta < count = ltb-true slot.meta count both.0 in
      ap (λ b. (if b then i ∷ [] else []) ++ models_of meta (i + 1) slots) (ne_eqb slot.meta meta (λ same. absurd (omega (arith, before, past, same))))
      ∙ none_past meta (i + 1) slots both.1 past

  pub only_past : (meta : ℕ) → IsTrue (have_metas models count) → length table ≤ meta → None ≡ only_model models meta
  unfolding only_model
  only_past meta placed past = sym (ap only (none_past meta 0 models placed (omega (arith, past, long))))
