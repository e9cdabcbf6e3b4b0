-- The direction towards a target model, calls of relations, and strata (QVT 1.3, sections 7.2, 7.3 and 7.11.1), said of a script.
use Rattle.std.specs.Prelude.{◌≡◌, ◌≤◌, ◌⊎◌, ℕ, suc, List, Option, Some, Contains}
use Rattle.qv_syntax.specs.declared.expr.Expr.{Expr}
use Rattle.qv_syntax.specs.declared.script.BlockTree.{BlockTree}
use Rattle.qv_syntax.specs.declared.script.Script.{Script}
use Rattle.qv_syntax.specs.declared.script.RelationTree.{RelationTree}
use Rattle.qv_syntax.specs.declared.script.DomainTree.{DomainTree}
use Rattle.script_scopes.specs.Usages.{calls_in}
use Rattle.script_scopes.specs.Conjuncts.{clause_conjuncts, call_of}
use Rattle.script_scopes.specs.Occurrences.{WrittenProperty, relations_of}
use Rattle.script_scopes.specs.Occurrences.Piece.{asks}
use Rattle.script_scopes.specs.Divisions.{model_of, HasPiece}
use Rattle.script_scopes.specs.ObjectModels.{CallsWith}

-- the relation is part of the direction: it has a domain of the target
abbrev pub IsInDirection : List ℕ → RelationTree → Type 0
IsInDirection target r = (domain : DomainTree) × Contains r.domains domain × (model_of domain ≡ Some target)

-- ---- calls

-- the relation calls the other one in its clause
abbrev pub CallsIn : Script → Option BlockTree → RelationTree → Type 0
CallsIn script clause called = (args : List Expr) × CallsWith script clause called args

-- a path of calls from a relation to another, with the number of those that stand in when clauses
pub data IsPath (script : Script) : RelationTree → RelationTree → ℕ → Type 0 where
  end : (r : RelationTree) → Contains (relations_of script) r → IsPath script r r 0
  by_when : (r called last : RelationTree) (count : ℕ) → Contains (relations_of script) r → CallsIn script r.when called → IsPath script called last count → IsPath script r last (suc count)
  by_where : (r called last : RelationTree) (count : ℕ) → Contains (relations_of script) r → CallsIn script r.wheres called → IsPath script called last count → IsPath script r last count

-- it lies on a cycle of calls of which one stands in a when clause
abbrev pub IsOnWhenCycle : Script → RelationTree → Type 0
IsOnWhenCycle script r = (count : ℕ) × IsPath script r r (suc count)

-- the greatest number of calls in when clauses on a path from it
pub record IsStratum (script : Script) (r : RelationTree) (stratum : ℕ) : Type 0 where
  pub reached : (last : RelationTree) × IsPath script r last stratum
  pub greatest : (last : RelationTree) (count : ℕ) → IsPath script r last count → count ≤ stratum

-- ---- calls in a wrong place

-- a relation has this name
abbrev pub IsRelationName : Script → List ℕ → Type 0
IsRelationName script name = (r : RelationTree) × Contains (relations_of script) r × (r.name.text ≡ name)

-- the name is called within a conjunct, and not by the conjunct itself
pub data IsCalledWithin (script : Script) (conjunct : Expr) (name : List ℕ) : Type 0 where
  argument : (called : List ℕ) (args : List Expr) (arg : Expr) → call_of conjunct ≡ Some (called, args) → IsRelationName script called → Contains args arg
      → Contains (calls_in arg) name → IsCalledWithin script conjunct name
  part : ((called : List ℕ) (args : List Expr) → call_of conjunct ≡ Some (called, args) → ¬ IsRelationName script called) → Contains (calls_in conjunct) name
      → IsCalledWithin script conjunct name

-- a relation's name is called in an expression of a relation that is no conjunct
pub data IsMisplaced (script : Script) (r : RelationTree) (name : List ℕ) : Type 0 where
  item : (domain : DomainTree) (at : Option WrittenProperty) (value : Expr) → HasPiece r domain (asks at value) → Contains (calls_in value) name → IsRelationName script name → IsMisplaced script r name
  when : (conjunct : Expr) → Contains (clause_conjuncts r.when) conjunct → IsCalledWithin script conjunct name → IsRelationName script name → IsMisplaced script r name
  where_clause : (conjunct : Expr) → Contains (clause_conjuncts r.wheres) conjunct → IsCalledWithin script conjunct name → IsRelationName script name → IsMisplaced script r name

-- a relation of the direction calls one that is no part of it
pub record LeavesDirection (script : Script) (target : List ℕ) (r called : RelationTree) : Type 0 where
  pub inside : IsInDirection target r
  pub call : CallsIn script r.when called ⊎ CallsIn script r.wheres called
  pub outside : ¬ IsInDirection target called
