-- The faults of the expressions of a relation by where they stand: in items of its templates, or in conjuncts of its clauses (QVT 1.3, sections
-- 7.11.1.4 and 7.11.2).
use Rattle.std.specs.Prelude.{◌≡◌, ◌⊎◌, ℕ, List, Option, None, Some, false, Contains, slice_get}
use Rattle.std.specs.List.{AllZip}
use Rattle.mof_metamodel.specs.declared.desc.ClassId.{ClassId}
use Rattle.mof_metamodel.specs.Metamodels.{prop_number}
use Rattle.qv_syntax.specs.declared.expr.Expr.{Expr}
use Rattle.qv_syntax.specs.declared.name.Path.{Path}
use Rattle.qv_syntax.specs.declared.ty.Ty.{Ty}
use Rattle.qv_syntax.specs.declared.ty.Ty.TheVariants as types
use Rattle.qv_syntax.specs.declared.script.BlockTree.{BlockTree}
use Rattle.qv_syntax.specs.declared.script.RelationTree.{RelationTree}
use Rattle.qv_syntax.specs.declared.script.DomainTree.{DomainTree}
use Rattle.qv_syntax.specs.declared.program.Var.{Var}
use Rattle.qv_syntax.specs.Types.{AreRelated}
use Rattle.qv_syntax.specs.TypedTrees.{Typing}
use Rattle.qv_syntax.specs.ProgramTypes.{typing_of}
use Rattle.ocl_environments.specs.declared.fault.TypeFault.{TypeFault}
use Rattle.ocl_environments.specs.declared.fault.TypeFault.TheVariants.{UnknownName, WrongType}
use Rattle.ocl_environments.specs.Environments.{meta_at}
use Rattle.ocl_types.specs.HasType.{Stands}
use Rattle.ocl_environments.specs.Naming.{names_of, type_text}
use Rattle.script_scopes.specs.Conjuncts.{clause_conjuncts, name_alone, call_of, is_null}
use Rattle.script_scopes.specs.Occurrences.{WrittenProperty, Piece, variables_of}
use Rattle.script_scopes.specs.Occurrences.Piece.{begins, asks}
use Rattle.script_scopes.specs.Divisions.{HasPiece}
use Rattle.script_scopes.specs.ObjectModels.{CallsWith}
use Rattle.script_scopes.specs.Directions.{IsRelationName}
use Rattle.script_scopes.specs.Environments.{Setting, in_relation, metamodel_names}
use Rattle.script_scopes.specs.Declarations.{template_class, meta_of}
use Rattle.script_scopes.specs.Resolutions.{model_number}
use Rattle.script_scopes.specs.Faults.{IsExpression, IsProperty, IsRoot, StandsAt, StandsInPlace}
use Rattle.qvtr_types.specs.Expressions.{StandsInCondition, StandsInArguments}

-- ---- clauses

-- the roots of a relation's domains, one for each
abbrev pub AreRoots : Setting → RelationTree → List Var → Type 0
AreRoots s r roots = AllZip (λ domain root. IsRoot s r domain (typing_of root)) r.domains roots

-- the clause is one of the two of the relation
abbrev pub IsClauseOf : RelationTree → Option BlockTree → Type 0
IsClauseOf r clause = (clause ≡ r.when) ⊎ (clause ≡ r.wheres)

-- the conjunct calls no relation
abbrev pub CallsNone : Setting → Expr → Type 0
CallsNone s e = (name : List ℕ) (args : List Expr) → call_of e ≡ Some (name, args) → ¬ IsRelationName s.script name

pub data StandsInClauses (s : Setting) (r : RelationTree) (vars : List Var) (f : TypeFault) : Type 0 where
  condition : (clause : Option BlockTree) (e : Expr) → IsClauseOf r clause → Contains (clause_conjuncts clause) e → CallsNone s e
      → StandsInCondition (in_relation s r vars) e f → StandsInClauses s r vars f
  call : (clause : Option BlockTree) (called : RelationTree) (args : List Expr) (roots : List Var) → IsClauseOf r clause → CallsWith s.script clause called args
      → AreRoots s called roots → StandsInArguments (in_relation s r vars) called.name.text roots args f → StandsInClauses s r vars f

-- where a variable stands alone as an argument, its type is that of the root in whose place it stands, or a related class
abbrev pub AreAloneRelated : Setting → RelationTree → List Var → Type 0
AreAloneRelated s r vars = (clause : Option BlockTree) (called : RelationTree) (args : List Expr) (place : ℕ) (e : Expr) (domain : DomainTree) (number : ℕ) (v : List ℕ) (var : Var) (wanted : Typing)
    → IsClauseOf r clause → CallsWith s.script clause called args → slice_get args place ≡ Some e → slice_get called.domains place ≡ Some domain
    → name_alone e ≡ Some v → slice_get (variables_of r) number ≡ Some v → slice_get vars number ≡ Some var → IsRoot s called domain wanted → AreRelated s.metas var.ty wanted.ty

-- ---- items

pub data StandsInItems (s : Setting) (r : RelationTree) (vars : List Var) : TypeFault → Type 0 where
  typing : (domain : DomainTree) (at : Option WrittenProperty) (e : Expr) (f : TypeFault) → HasPiece r domain (asks at e) → Stands (in_relation s r vars) e f
      → StandsInItems s r vars f
  unknown_property : (piece : Piece) (model : List ℕ) (class : ClassId) (name : List ℕ) → StandsAt s r piece model class name
      → prop_number (meta_at s.metas (meta_of s.script model)) class.0 name ≡ None → StandsInItems s r vars (UnknownName name)
  value : (at : Option WrittenProperty) (e : Expr) (model : List ℕ) (class : ClassId) (name : List ℕ) (of : Ty) (given : Typing) (f : TypeFault)
      → StandsAt s r (asks at e) model class name → IsProperty s model class name of → is_null e ≡ false → IsExpression s r vars e given
      → StandsInPlace s (record { ty = of; model = Some (model_number s model) }) given name f → StandsInItems s r vars f
  nested : (at : Option WrittenProperty) (v : List ℕ) (path : Path) (model : List ℕ) (class inner : ClassId) (name : List ℕ) (of : Ty)
      → StandsAt s r (begins at v path) model class name → IsProperty s model class name of
      → template_class s.metas (metamodel_names s.script) (meta_of s.script model) (names_of path) ≡ Some inner
      → ¬ AreRelated s.metas (types.Class (meta_of s.script model) inner) of
      → StandsInItems s r vars (WrongType (type_text s.metas of) (type_text s.metas (types.Class (meta_of s.script model) inner)))
