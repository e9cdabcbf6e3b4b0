-- Variables that stand alone as arguments of calls, in the places of domains (QVT 1.3, section 7.11.1.4): their types are related to those of
-- the roots. What they are given by is known before the expressions of the relation are typed.
use Rattle.std.specs.Prelude.{◌≡◌, ℕ, List, Some, position, slice_get, Contains}
use Rattle.mof_metamodel.specs.declared.desc.MetaDesc.{MetaDesc}
use Rattle.mof_metamodel.specs.Characters.{same_name}
use Rattle.qv_syntax.specs.declared.expr.Expr.{Expr}
use Rattle.qv_syntax.specs.declared.program.Var.{Var}
use Rattle.qv_syntax.specs.Types.{AreRelated}
use Rattle.ocl_environments.specs.declared.fault.TypeFault.{TypeFault}
use Rattle.ocl_environments.specs.Outcomes.{wrong_type}
use Rattle.script_scopes.specs.Conjuncts.{name_alone, call_of}
use Rattle.qvtr_types.specs.ResolvedConjuncts.{ClauseReach}
use Rattle.qvtr_types.specs.RootVariables.{IsNamed}

-- the argument is this variable alone
pub record IsAlone (names : List (List ℕ)) (vars : List Var) (arg : Expr) (var : Var) : Type 0 where
  pub v : List ℕ
  pub alone : name_alone arg ≡ Some v
  pub named : IsNamed names vars v var

module _ (metas : List MetaDesc) (names : List (List ℕ)) (vars : List Var) where
  -- a name, if it is one of a variable, is related to a root
  abbrev pub IsRelatedName : List ℕ → Var → Type 0
  IsRelatedName v root = (var : Var) → IsNamed names vars v var → AreRelated metas var.ty root.ty

  pub record IsUnrelatedName (v : List ℕ) (root : Var) (fault : TypeFault) : Type 0 where
    pub var : Var
    pub named : IsNamed names vars v var
    pub unrelated : ¬ AreRelated metas var.ty root.ty
    pub is : fault ≡ wrong_type metas root.ty var.ty

  -- where an argument is a variable alone, that is related to the root in whose place it stands
  abbrev pub IsRelated : Expr → Var → Type 0
  IsRelated arg root = (var : Var) → IsAlone names vars arg var → AreRelated metas var.ty root.ty

  pub record IsUnrelated (arg : Expr) (root : Var) (fault : TypeFault) : Type 0 where
    pub var : Var
    pub alone : IsAlone names vars arg var
    pub unrelated : ¬ AreRelated metas var.ty root.ty
    pub is : fault ≡ wrong_type metas root.ty var.ty

  -- the same of the arguments of a call, and of the roots
  abbrev pub AreRelatedTo : List Expr → List Var → Type 0
  AreRelatedTo args roots = (place : ℕ) (arg : Expr) (root : Var) → slice_get args place ≡ Some arg → slice_get roots place ≡ Some root → IsRelated arg root

  pub record HasUnrelated (args : List Expr) (roots : List Var) (fault : TypeFault) : Type 0 where
    pub place : ℕ
    pub arg : Expr
    pub root : Var
    pub given : slice_get args place ≡ Some arg
    pub asked : slice_get roots place ≡ Some root
    pub unrelated : IsUnrelated arg root fault

module _ (reach : ClauseReach) (vars : List Var) where
  -- the same of a call of a name, if it is one of a relation
  abbrev pub CallRelated : List ℕ → List Expr → Type 0
  CallRelated name args = (number : ℕ) (roots : List Var) → position (same_name name) reach.relations ≡ Some number → slice_get reach.roots number ≡ Some roots
      → AreRelatedTo reach.env.metas reach.variables vars args roots

  pub record CallUnrelated (name : List ℕ) (args : List Expr) (fault : TypeFault) : Type 0 where
    pub number : ℕ
    pub roots : List Var
    pub called : position (same_name name) reach.relations ≡ Some number
    pub has : slice_get reach.roots number ≡ Some roots
    pub unrelated : HasUnrelated reach.env.metas reach.variables vars args roots fault

  -- the same of a conjunct, if it is a call
  abbrev pub CallsRelated : Expr → Type 0
  CallsRelated conjunct = (name : List ℕ) (args : List Expr) → call_of conjunct ≡ Some (name, args) → CallRelated name args

  pub record CallsUnrelated (conjunct : Expr) (fault : TypeFault) : Type 0 where
    pub name : List ℕ
    pub args : List Expr
    pub is_call : call_of conjunct ≡ Some (name, args)
    pub unrelated : CallUnrelated name args fault

  -- the fault is one of these conjuncts
  pub record IsUnrelatedFault (conjuncts : List Expr) (fault : TypeFault) : Type 0 where
    pub conjunct : Expr
    pub among : Contains conjuncts conjunct
    pub unrelated : CallsUnrelated conjunct fault
