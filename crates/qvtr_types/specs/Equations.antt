-- Which conjuncts of a clause are equations (QVT 1.3, section 7.11.1.4), told conjunct by conjunct from the variables that the earlier ones
-- give. `Divisions` has the same by places.
use Rattle.std.specs.Prelude.{◌≡◌, ℕ, Bool, false, not, ◌&&◌, if◌then◌else◌, List, [], ◌∷◌, ◌++◌, Option, None, Some, map, position, slice_get}
use Rattle.std.specs.Option.{option_map_or}
use Rattle.std.specs.Set.{is_member}
use Rattle.mof_metamodel.specs.Characters.{same_name}
use Rattle.qv_syntax.specs.declared.expr.Expr.{Expr}
use Rattle.qv_syntax.specs.declared.program.Var.{Var}
use Rattle.qvtr_types.specs.declared.equations.Variables.{Variables}
use Rattle.script_scopes.specs.Usages.{variables_in}
use Rattle.script_scopes.specs.Conjuncts.{equation_of}
use Rattle.script_scopes.specs.UniversalNames.{is_among}
use Rattle.script_variables.specs.Variables.{is_class}

-- ---- what a conjunct gives

-- the variable and the expression, unless the expression names the variable
abbrev pub unless_named : Option (List ℕ × Expr) → Option (List ℕ × Expr)
unless_named None = None
unless_named (Some said) = if is_member same_name (variables_in said.1) said.0 then None else Some said

-- what the conjunct gives a variable by: an expression that doesn't name it
abbrev pub given_by : Expr → Option (List ℕ × Expr)
given_by conjunct = unless_named (equation_of conjunct)

-- names that are given, and one more
abbrev pub with_given : List (List ℕ) → Option (List ℕ × Expr) → List (List ℕ)
with_given met None = met
with_given met (Some said) = met ++ (if is_member same_name met said.0 then [] else said.0 ∷ [])

-- those that conjuncts give, behind others
abbrev pub given_after : List (List ℕ) → List Expr → List (List ℕ)
given_after met [] = met
given_after met (conjunct ∷ more) = given_after (with_given met (given_by conjunct)) more

-- ---- equations

-- an equation, if it is one
abbrev pub taken : Bool → List ℕ × Expr → Option (List ℕ × Expr)
taken first said = if first then Some said else None

-- the first that gives a variable which passes the test
abbrev pub first_given : (List ℕ → Bool) → List (List ℕ) → Option (List ℕ × Expr) → Option (List ℕ × Expr)
first_given test met None = None
first_given test met (Some said) = taken (test said.0 && not (is_member same_name met said.0)) said

-- the equation, if the conjunct is one, behind those that give these variables
abbrev pub equation_behind : (List ℕ → Bool) → List (List ℕ) → Expr → Option (List ℕ × Expr)
equation_behind test met conjunct = first_given test met (given_by conjunct)

-- the conjunct says the equation, if there is one
abbrev pub IsSaid : Expr → Option (List ℕ × Expr) → Type 0
IsSaid conjunct None = Unit {0}
IsSaid conjunct (Some said) = equation_of conjunct ≡ Some said

-- ---- variables that have equations

-- the variable at a place, if there is one, is one of data
abbrev pub is_data_at : List Var → Option ℕ → Bool
is_data_at vars None = false
is_data_at vars (Some place) = option_map_or (λ var. not (is_class var.ty)) (slice_get vars place) false

-- a name is that of a data variable, among variables with these names
abbrev pub is_data_named : List (List ℕ) → List Var → List ℕ → Bool
is_data_named names vars v = is_data_at vars (position (same_name v) names)

-- what an equation of a clause is for: a data variable that is universal in when, and existential in where
abbrev pub has_equation : List (List ℕ) → List Var → List (List ℕ) → Bool → List ℕ → Bool
has_equation names vars universal wanted v = is_data_named names vars v && is_among universal wanted v

-- the same of variables as the code has them
abbrev pub equation_test : Variables → Bool → List ℕ → Bool
equation_test variables wanted = has_equation (map (λ e. e.0) variables.numbers.now) variables.vars.now (map (λ e. e.0) variables.universal.now) wanted
