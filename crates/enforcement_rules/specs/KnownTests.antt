-- Which variables of a relation are known, as rules on their numbers.
use Rattle.std.specs.Prelude.{◌≡◌, ◌<◌, ℕ, Bool, true, false, ◌&&◌, not, List, [], ◌∷◌, ◌++◌, map, length, slice_index_or}
use Rattle.std.specs.List.{flat_map, list_any, list_all}
use Rattle.qv_syntax.specs.declared.typed.Typed.{Typed}
use Rattle.qv_syntax.specs.declared.program.Program.{Program}
use Rattle.qv_syntax.specs.declared.program.Rel.{Rel}
use Rattle.qv_syntax.specs.declared.program.Conj.{Conj}
use Rattle.qv_syntax.specs.declared.program.Conj.TheVariants as conjuncts
use Rattle.enforcement_rules.specs.Derivations.{NumberRule}
use Rattle.enforcement_rules.specs.KnownVariables.{IsKnown}
use Rattle.enforcement_rules.specs.Mentions.{variables_of}
use Rattle.enforcement_rules.specs.TargetTests.{is_data_variable}

abbrev pub universal_rule : ℕ → NumberRule
universal_rule v = (v, [])

abbrev pub equation_rules : ℕ → Conj → List NumberRule
equation_rules count (conjuncts.Cond e) = []
equation_rules count (conjuncts.Equation v e) = (v, variables_of count e) ∷ []
equation_rules count (conjuncts.Call number args) = []

abbrev pub known_rules : Rel → List NumberRule
known_rules rel = map universal_rule rel.universal ++ flat_map (equation_rules (length rel.vars)) rel.wheres

abbrev pub is_marked : List Bool → ℕ → Bool
is_marked marks n = slice_index_or marks n false

-- each variable of the relation that the expression names is known
abbrev pub is_over_known : Rel → List Bool → Typed → Bool
is_over_known rel known e = list_all (is_marked known) (variables_of (length rel.vars) e)

abbrev pub is_undetermined : Rel → List Bool → ℕ → Bool
is_undetermined rel known v = is_data_variable rel v && not (is_marked known v)

abbrev pub has_undetermined : Rel → List Bool → Bool
has_undetermined rel known = list_any (is_undetermined rel known) rel.existential

-- the marks are those of the known variables of the relation
pub record IsKnownTable (program : Program) (rel : Rel) (known : List Bool) : Type 0 where
  pub sound : (v : ℕ) → is_marked known v ≡ true → IsKnown program rel v
  pub complete : (v : ℕ) → v < length rel.vars → IsKnown program rel v → is_marked known v ≡ true
