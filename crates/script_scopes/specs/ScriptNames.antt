-- The names that a script needs files for, those of its models and of their metamodels, and how names that are given may fail to be
-- these (QVT 1.3, section 7.11.1.2).
use Rattle.std.specs.Prelude.{◌≡◌, ℕ, List, [], ◌∷◌, ◌++◌, Some, if◌then◌else◌, map, take, slice_get, Contains, All}
use Rattle.std.specs.Set.{is_member}
use Rattle.mof_metamodel.specs.Characters.{same_name}
use Rattle.qv_syntax.specs.declared.script.ModelTree.{ModelTree}
use Rattle.script_scopes.specs.declared.name_fault.NameFault.{NameFault}
use Rattle.script_scopes.specs.declared.name_fault.NameFault.TheVariants.{Target, Extra, Missing}

-- the names of the models, in the order of the text
abbrev pub model_names : List ModelTree → List (List ℕ)
model_names models = map (λ m. m.name.text) models

-- the names of their metamodels
abbrev pub meta_names : List ModelTree → List (List ℕ)
meta_names models = map (λ m. m.meta.text) models

-- the names in the second list that are neither in the first nor before themselves
abbrev pub new_names : List (List ℕ) → List (List ℕ) → List (List ℕ)
new_names before [] = []
new_names before (name ∷ names) = (if is_member same_name before name then [] else name ∷ []) ++ new_names (before ++ name ∷ []) names

-- each name once, at its first place
abbrev pub each_once : List (List ℕ) → List (List ℕ)
each_once names = new_names [] names

-- all names of models, and behind them those of metamodels
abbrev pub written_names : List ModelTree → List (List ℕ)
written_names models = model_names models ++ meta_names models

-- the names of a script: its models and then its metamodels, in the order of the text, each once
abbrev pub script_names : List ModelTree → List (List ℕ)
script_names models = each_once (written_names models)

-- the names that are given are those of the script, and the target is one of its models
pub record AreNamesOf (models : List ModelTree) (target : List ℕ) (names : List (List ℕ)) : Type 0 where
  pub aimed : Contains (model_names models) target
  pub known : All (Contains (script_names models)) names
  pub given : All (Contains names) (script_names models)

-- the first name of the second list that the first one lacks stands at this place
pub record IsFirstLacking (others names : List (List ℕ)) (place : ℕ) : Type 0 where
  pub name : List ℕ
  pub found : slice_get names place ≡ Some name
  pub lacking : ¬ Contains others name
  pub before : All (Contains others) (take place names)

-- the first thing that is wrong with the target and the names
abbrev pub IsNameFault : List ModelTree → List ℕ → List (List ℕ) → NameFault → Type 0
IsNameFault models target names Target = ¬ Contains (model_names models) target
IsNameFault models target names (Extra place) = Contains (model_names models) target × IsFirstLacking (script_names models) names place
IsNameFault models target names (Missing place) =
    Contains (model_names models) target × All (Contains (script_names models)) names × IsFirstLacking names (script_names models) place
