-- The place of a name that stands among others, and what models have there.
use Rattle.std.proofs.Common.{◌≡◌, ℕ, zero, suc, ◌+◌, ◌<◌, List, [], ◌∷◌, Bool, true, false, not, cond, refl, sym, ◌∙◌, ap, map, length, get_or, arith, true≢false}
use Rattle.std.specs.Prelude.{Some, None, Contains, slice_get}
use Rattle.std.specs.Option.{unwrap_or}
use Rattle.std.specs.List.{position_or_len}
use Rattle.std.proofs.lemmas.Bool.{lt-ltb}
use Rattle.std.proofs.lemmas.Option.{slice_get-get_or}
use Rattle.std.proofs.lemmas.List.Sums.{passes_at_first}
use Rattle.mof_metamodel.specs.Characters.{same_name}
use Rattle.mof_metamodel.specs.NameTables.{value_of}
use Rattle.qv_syntax.specs.declared.script.ModelTree.{ModelTree}
use Rattle.qv_syntax.specs.declared.script.Script.{Script}
use Rattle.script_scopes.specs.ScriptNames.{model_names}
use Rattle.script_scopes.specs.Environments.{place_of, slot_of, slots_of}
use Rattle.script_scopes.specs.Declarations.{meta_of}
use Rattle.script_scopes.specs.VariableTypes.{metamodel_numbers}
use Rattle.script_scopes.proofs.NameLemmas.{same_is, is_same}

pub first_below : (name : List ℕ) (names : List (List ℕ)) → Contains names name → position_or_len (same_name name) names < length names
first_below name [] (k, l, at) = absurd (omega arith)
first_below name (n ∷ names) (k, l, at) = by (λ c. first_below name names c) (same_name name n) refl k l at
  where
    by : (Contains names name → position_or_len (same_name name) names < length names) → (b : Bool) → same_name name n ≡ b → (k : ℕ) → k < length (n ∷ names) → get_or (n ∷ names) k name ≡ name
        → cond (not b) (1 + position_or_len (same_name name) names) 0 < length (n ∷ names)
    by rest true e k l at = omega arith
    by rest false e zero l at = absurd (true≢false (sym (is_same name n (sym at)) ∙ e))
    by rest false e (suc k) l at = let below = rest (k, omega arith, at) in omega (arith, below)

pub place_is : (name : List ℕ) (names : List (List ℕ)) → Contains names name → place_of name names ≡ position_or_len (same_name name) names
place_is name names c =
    ap (λ (b : Bool). unwrap_or (cond b (Some (position_or_len (same_name name) names)) None) 0) (lt-ltb (position_or_len (same_name name) names) (length names) (first_below name names c))

-- the name stands there
pub at_place : (name : List ℕ) (names : List (List ℕ)) → Contains names name → slice_get names (place_of name names) ≡ Some name
at_place name names c =
    let below = first_below name names c in
    ap (slice_get names) (place_is name names c) ∙ slice_get-get_or names (position_or_len (same_name name) names) name below
    ∙ ap Some (sym (same_is name (get_or names (position_or_len (same_name name) names) name) (passes_at_first (same_name name) names name below)))

-- ---- models

module _ (script : Script) (model : List ℕ) where
  numbered : (ms : List ModelTree) → Contains (model_names ms) model
      → value_of (metamodel_numbers (map (slot_of script) ms)) model ≡ Some (get_or (map (slot_of script) ms) (position_or_len (same_name model) (model_names ms)) (record { name = []; meta = 0 })).meta
  numbered [] (k, l, at) = absurd (omega arith)
  numbered (m ∷ ms) (k, l, at) = by (λ c. numbered ms c) (same_name model m.name.text) refl k l at
    where
      by : (Contains (model_names ms) model
          → value_of (metamodel_numbers (map (slot_of script) ms)) model ≡ Some (get_or (map (slot_of script) ms) (position_or_len (same_name model) (model_names ms)) (record { name = []; meta = 0 })).meta)
          → (b : Bool) → same_name model m.name.text ≡ b → (k : ℕ) → k < length (model_names (m ∷ ms)) → get_or (model_names (m ∷ ms)) k model ≡ model
          → cond b (Some (slot_of script m).meta) (value_of (metamodel_numbers (map (slot_of script) ms)) model)
          ≡ Some (get_or (slot_of script m ∷ map (slot_of script) ms) (cond (not b) (1 + position_or_len (same_name model) (model_names ms)) 0) (record { name = []; meta = 0 })).meta
      by rest true e k l at = refl
      by rest false e zero l at = absurd (true≢false (sym (is_same model m.name.text (sym at)) ∙ e))
      by rest false e (suc k) l at =
          let next : suc (position_or_len (same_name model) (model_names ms)) ≡ 1 + position_or_len (same_name model) (model_names ms) = omega arith in
          rest (k, omega arith, at) ∙ ap (λ (i : ℕ). Some (get_or (slot_of script m ∷ map (slot_of script) ms) i (record { name = []; meta = 0 })).meta) next

  pub meta_found : Contains (model_names script.models) model → value_of (metamodel_numbers (slots_of script)) model ≡ Some (meta_of script model)
  meta_found c = numbered script.models c
      ∙ ap (λ (i : ℕ). Some (get_or (slots_of script) i (record { name = []; meta = 0 })).meta) (sym (place_is model (model_names script.models) c))
