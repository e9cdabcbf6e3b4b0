-- Names that are met one after another.
use Rattle.std.proofs.Common.{◌≡◌, ℕ, List, [], ◌∷◌, ◌++◌, cond, map, sym, ◌∙◌, ap, append-nil}
use Rattle.std.specs.Prelude.{is_some}
use Rattle.std.specs.Set.{is_member}
use Rattle.std.proofs.lemmas.Map.Made.{is_some-lookup}
use Rattle.mof_metamodel.specs.Characters.{same_name}
use Rattle.mof_metamodel.specs.NameTables.{NamesWith, value_of}
use Rattle.script_scopes.specs.ScriptNames.{each_once}
use Rattle.script_scopes.proofs.OnceLemmas.{new_names-append, member_once}

-- a name is in the table where it is among the table's names
pub met_member : (met : NamesWith ℕ) (name : List ℕ) → is_some (value_of met name) ≡ is_member same_name (map (λ e. e.0) met) name
met_member met name = is_some-lookup (same_name name) met

-- one more name
pub once_more : (names : List (List ℕ)) (name : List ℕ) → each_once (names ++ name ∷ []) ≡ each_once names ++ cond (is_member same_name (each_once names) name) [] (name ∷ [])
once_more names name =
    new_names-append [] names (name ∷ []) ∙ ap (λ ns. each_once names ++ ns) (append-nil (cond (is_member same_name names name) [] (name ∷ [])) ∙ ap (λ b. cond b [] (name ∷ [])) (sym (member_once names name)))
