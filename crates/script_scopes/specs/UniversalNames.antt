-- The universal variables of a relation, listed with each of their occurrences (QVT 1.3, section 7.11.1.4), and the numbers of those
-- variables that are among names or aren't.
use Rattle.std.specs.Prelude.{ℕ, ◌+◌, Bool, false, not, if◌then◌else◌, List, [], ◌∷◌, ◌++◌}
use Rattle.std.specs.List.{list_any}
use Rattle.std.specs.Option.{option_map_or}
use Rattle.std.specs.Set.{is_member}
use Rattle.mof_metamodel.specs.Characters.{same_name}
use Rattle.qv_syntax.specs.declared.script.RelationTree.{RelationTree}
use Rattle.qv_syntax.specs.declared.script.DomainTree.{DomainTree}
use Rattle.script_scopes.specs.Occurrences.{template_count, domain_variables, clause_variables}
use Rattle.script_scopes.specs.Divisions.{model_of}

-- the domain is one of the model of this name
abbrev pub is_of_model : List ℕ → DomainTree → Bool
is_of_model target domain = option_map_or (same_name target) (model_of domain) false

-- one of the domains is
abbrev pub has_domain_of : List ℕ → List DomainTree → Bool
has_domain_of target domains = list_any (is_of_model target) domains

-- what occurs in those of these domains that aren't; the first template of the first one has this number
abbrev pub names_outside : List ℕ → ℕ → List DomainTree → List (List ℕ)
names_outside target k [] = []
names_outside target k (domain ∷ more) = (if is_of_model target domain then [] else domain_variables k domain) ++ names_outside target (k + template_count domain) more

-- the universal variables, in the direction towards the model of this name
abbrev pub universal_names : List ℕ → RelationTree → List (List ℕ)
universal_names target r = names_outside target 1 r.domains ++ clause_variables r.when

-- it is among the names, or else it isn't
abbrev pub is_among : List (List ℕ) → Bool → List ℕ → Bool
is_among names wanted v = if wanted then is_member same_name names v else not (is_member same_name names v)

-- the numbers, from this one on, of the names that pass a test
abbrev pub numbers_from : (List ℕ → Bool) → ℕ → List (List ℕ) → List ℕ
numbers_from test k [] = []
numbers_from test k (name ∷ names) = (if test name then k ∷ [] else []) ++ numbers_from test (k + 1) names
