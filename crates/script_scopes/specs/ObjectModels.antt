-- The model to which an object variable belongs: that of its template, or of the domain in whose place it stands alone as an argument of
-- a call (QVT 1.3, sections 7.11.1 and 7.11.2).
use Rattle.std.specs.Prelude.{◌≡◌, ◌≢◌, ℕ, List, Option, Some, slice_get, Contains}
use Rattle.qv_syntax.specs.declared.expr.Expr.{Expr}
use Rattle.qv_syntax.specs.declared.name.Path.{Path}
use Rattle.qv_syntax.specs.declared.script.BlockTree.{BlockTree}
use Rattle.qv_syntax.specs.declared.script.Script.{Script}
use Rattle.qv_syntax.specs.declared.script.RelationTree.{RelationTree}
use Rattle.qv_syntax.specs.declared.script.DomainTree.{DomainTree}
use Rattle.script_scopes.specs.Conjuncts.{clause_conjuncts, name_alone, call_of}
use Rattle.script_scopes.specs.Occurrences.{WrittenProperty, relations_of}
use Rattle.script_scopes.specs.Occurrences.Piece.{begins}
use Rattle.script_scopes.specs.Divisions.{model_of, HasPiece}

-- a conjunct of the clause calls this relation of the script with these arguments
pub record CallsWith (script : Script) (clause : Option BlockTree) (called : RelationTree) (args : List Expr) : Type 0 where
  pub conjunct : Expr
  pub among : Contains (clause_conjuncts clause) conjunct
  pub is : call_of conjunct ≡ Some (called.name.text, args)
  pub relation : Contains (relations_of script) called

-- the variable stands alone as the argument in the place of a domain
pub record IsArgument (script : Script) (clause : Option BlockTree) (v : List ℕ) (domain : DomainTree) : Type 0 where
  pub called : RelationTree
  pub args : List Expr
  pub call : CallsWith script clause called args
  pub place : ℕ
  pub arg : Expr
  pub given : slice_get args place ≡ Some arg
  pub alone : name_alone arg ≡ Some v
  pub asked : slice_get called.domains place ≡ Some domain

-- a variable has objects of the model of this name
pub data HasModel (script : Script) (r : RelationTree) (v model : List ℕ) : Type 0 where
  template : (domain : DomainTree) (at : Option WrittenProperty) (class : Path) → HasPiece r domain (begins at v class) → model_of domain ≡ Some model → HasModel script r v model
  when_argument : (domain : DomainTree) → IsArgument script r.when v domain → model_of domain ≡ Some model → HasModel script r v model
  where_argument : (domain : DomainTree) → IsArgument script r.wheres v domain → model_of domain ≡ Some model → HasModel script r v model

-- it has one alone
pub record HasOneModel (script : Script) (r : RelationTree) (v model : List ℕ) : Type 0 where
  pub has : HasModel script r v model
  pub alone : (other : List ℕ) → HasModel script r v other → other ≡ model

-- it has two
pub record HasTwoModels (script : Script) (r : RelationTree) (v : List ℕ) : Type 0 where
  pub one : List ℕ
  pub other : List ℕ
  pub has_one : HasModel script r v one
  pub has_other : HasModel script r v other
  pub apart : one ≢ other
