-- The variables that an expression names, by their names, and those that its typed tree names, by their numbers (OCL 2.4, section 9.4).
use Rattle.std.specs.Prelude.{◌<◌, ℕ, List, length, Contains}
use Rattle.qv_syntax.specs.declared.typed.Typed.{Typed}
use Rattle.qv_syntax.specs.Parts.{Names}
use Rattle.ocl_environments.specs.declared.variable.Variable.{Variable}
use Rattle.ocl_environments.specs.Environments.{Environment}
use Rattle.ocl_types.specs.TypeRules.{IsFirstNamed}

-- the name is that of this variable in reach, the first one of the name
abbrev pub HasNumber : Environment → List ℕ → ℕ → Type 0
HasNumber env name number = (x : Variable) × IsFirstNamed Variable env.variables name (number, x)

-- the variables in reach that the tree names are those of the names
pub record NamesThose (env : Environment) (names : List (List ℕ)) (tree : Typed) : Type 0 where
  pub listed : (name : List ℕ) → Contains names name → (number : ℕ) × HasNumber env name number × Names tree number
  pub named : (number : ℕ) → number < length env.variables → Names tree number → (name : List ℕ) × HasNumber env name number × Contains names name
