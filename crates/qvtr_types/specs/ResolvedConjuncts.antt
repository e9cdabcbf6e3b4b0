-- The conjuncts of a clause, resolved one after another (QVT 1.3, section 7.11.1.4): over what is in reach, the relations with the roots of
-- their domains, and the variables that have equations. `Resolutions` has the same by places.
use Rattle.std.specs.Prelude.{◌≡◌, ℕ, Bool, List, [], ◌∷◌, Option, None, Some, All, map, length, slice_get, Contains}
use Rattle.qv_syntax.specs.declared.expr.Expr.{Expr}
use Rattle.qv_syntax.specs.declared.typed.Typed.{Typed}
use Rattle.qv_syntax.specs.declared.program.Var.{Var}
use Rattle.qv_syntax.specs.declared.program.Conj.{Conj}
use Rattle.qv_syntax.specs.declared.program.Conj.TheVariants as conjs
use Rattle.ocl_environments.specs.declared.fault.TypeFault.{TypeFault}
use Rattle.ocl_environments.specs.Environments.{Environment}
use Rattle.ocl_types.specs.HasType.{HasTree}
use Rattle.qvtr_types.specs.declared.resolved_conjuncts.ClauseScope.{ClauseScope}
use Rattle.script_scopes.specs.Conjuncts.{call_of}
use Rattle.script_scopes.specs.Environments.{place_of}
use Rattle.script_scopes.specs.CallRows.{number_in}
use Rattle.qvtr_types.specs.Equations.{with_given, given_by, equation_behind}
use Rattle.qvtr_types.specs.Expressions.{HaveTypes, IsCondition, StandsInCondition, AreArguments, StandsInArguments}

-- what a clause of a relation is resolved over: what its expressions may name, the names of its variables, the names of the relations of the
-- script, and the roots of their domains
pub record ClauseReach : Type 0 where
  pub env : Environment
  pub variables : List (List ℕ)
  pub relations : List (List ℕ)
  pub roots : List (List Var)

-- as the code has it
abbrev pub reach_of : ClauseScope → ClauseReach
reach_of scope = record {
  env = scope.env.now;
  variables = map (λ e. e.0) scope.variables.numbers.now;
  relations = map (λ e. e.0) scope.relations.now;
  roots = map (map (λ r. r.now)) scope.roots.now;
}

-- each relation has its roots, and these have types of the metamodels
pub record HasRootTypes (reach : ClauseReach) : Type 0 where
  pub count : length reach.roots ≡ length reach.relations
  pub types : All (HaveTypes reach.env.metas) reach.roots

-- the number of the relation that a conjunct calls
abbrev pub called_number : ClauseReach → Expr → Option ℕ
called_number reach conjunct = number_in reach.relations (call_of conjunct)

-- a call of the relation of this number with arguments that fit its roots
pub record IsCallWith (reach : ClauseReach) (number : ℕ) (args : List Expr) (c : Conj) : Type 0 where
  pub roots : List Var
  pub asked : slice_get reach.roots number ≡ Some roots
  pub trees : List Typed
  pub is : c ≡ conjs.Call number trees
  pub fit : AreArguments reach.env roots args trees

-- the fault stands in arguments that the relation of this number and name is called with
pub record StandsInCallWith (reach : ClauseReach) (number : ℕ) (name : List ℕ) (args : List Expr) (fault : TypeFault) : Type 0 where
  pub roots : List Var
  pub asked : slice_get reach.roots number ≡ Some roots
  pub stands : StandsInArguments reach.env name roots args fault

-- a conjunct with what it resolves to: a call of a relation; else the equation, if it is one; else a condition
pub data IsResolved (reach : ClauseReach) (equation : Option (List ℕ × Expr)) (conjunct : Expr) : Conj → Type 0 where
  call : (name : List ℕ) (args : List Expr) (number : ℕ) (roots : List Var) (trees : List Typed) → call_of conjunct ≡ Some (name, args)
      → called_number reach conjunct ≡ Some number → slice_get reach.roots number ≡ Some roots → AreArguments reach.env roots args trees
      → IsResolved reach equation conjunct (conjs.Call number trees)
  equation : (v : List ℕ) (e : Expr) (t condition : Typed) → called_number reach conjunct ≡ None → equation ≡ Some (v, e) → HasTree reach.env e t
      → IsCondition reach.env conjunct condition → IsResolved reach equation conjunct (conjs.Equation (place_of v reach.variables) t)
  condition : (t : Typed) → called_number reach conjunct ≡ None → equation ≡ None → IsCondition reach.env conjunct t → IsResolved reach equation conjunct (conjs.Cond t)

-- the fault stands in a conjunct: in the arguments of a call, or in a condition
pub data StandsInConjunct (reach : ClauseReach) (conjunct : Expr) (fault : TypeFault) : Type 0 where
  arguments : (name : List ℕ) (args : List Expr) (number : ℕ) (roots : List Var) → call_of conjunct ≡ Some (name, args)
      → called_number reach conjunct ≡ Some number → slice_get reach.roots number ≡ Some roots
      → StandsInArguments reach.env name roots args fault → StandsInConjunct reach conjunct fault
  condition : called_number reach conjunct ≡ None → StandsInCondition reach.env conjunct fault → StandsInConjunct reach conjunct fault

-- one after another, behind conjuncts that give these variables
abbrev pub AreResolved : ClauseReach → (List ℕ → Bool) → List (List ℕ) → List Expr → List Conj → Type 0
AreResolved reach test met [] [] = Unit {0}
AreResolved reach test met [] (c ∷ cs) = ⊥
AreResolved reach test met (e ∷ es) [] = ⊥
AreResolved reach test met (e ∷ es) (c ∷ cs) = IsResolved reach (equation_behind test met e) e c × AreResolved reach test (with_given met (given_by e)) es cs

-- the fault stands in one of them
pub record StandsInOne (reach : ClauseReach) (conjuncts : List Expr) (fault : TypeFault) : Type 0 where
  pub conjunct : Expr
  pub among : Contains conjuncts conjunct
  pub stands : StandsInConjunct reach conjunct fault
