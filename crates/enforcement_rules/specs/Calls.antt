-- What calls between relations hand on of the target (QVT 1.3, sections 7.10.2 and 7.11.1.4).
use Rattle.std.specs.Prelude.{◌≡◌, ◌≢◌, ◌<◌, ℕ, List, Some, true, slice_get, Contains}
use Rattle.mof_metamodel.specs.declared.desc.MetaDesc.{MetaDesc}
use Rattle.qv_syntax.specs.declared.ty.Ty.{Ty}
use Rattle.qv_syntax.specs.declared.typed.Typed.{Typed}
use Rattle.qv_syntax.specs.declared.typed.Node.TheVariants as nodes
use Rattle.qv_syntax.specs.declared.program.Program.{Program}
use Rattle.qv_syntax.specs.declared.program.Rel.{Rel}
use Rattle.qv_syntax.specs.declared.program.Var.{Var}
use Rattle.qv_syntax.specs.declared.program.Dom.{Dom}
use Rattle.qv_syntax.specs.declared.program.Conj.{Conj}
use Rattle.qv_syntax.specs.declared.program.Conj.TheVariants as conjuncts
use Rattle.qv_syntax.specs.Relations.{IsUniversal, CallsIn}
use Rattle.ocl_environments.specs.Conformance.{TypeConforms}
use Rattle.enforcement_rules.specs.TargetParts.{IsTargetVariable}

-- An argument of a call in this clause that gives a root of the called relation its object of the target: that of its target domain, or of a
-- primitive domain. Where two domains have one root, the last argument is what it gets.
pub record IsTargetArgument (program : Program) (clause : List Conj) (called : Rel) (dom : Dom) (e : Typed) : Type 0 where
  pub number : ℕ
  pub args : List Typed
  pub call : Contains clause (conjuncts.Call number args)
  pub found : slice_get program.rels number ≡ Some called
  pub place : ℕ
  pub of : slice_get called.domains place ≡ Some dom
  pub target : IsTargetVariable program called dom.root
  pub last : (later : ℕ) (other : Dom) (more : Typed) → place < later → slice_get called.domains later ≡ Some other → slice_get args later ≡ Some more → other.root ≢ dom.root
  pub argument : slice_get args place ≡ Some e

-- the expression is the variable alone
abbrev pub IsVariable : Typed → ℕ → Type 0
IsVariable e v = (ty : Ty) × (e ≡ record { ty = ty; node = nodes.Variable v })

-- ---- E9

-- the variable stands alone as a target argument of a call in the clause
pub record IsTaken (program : Program) (clause : List Conj) (v : ℕ) : Type 0 where
  pub called : Rel
  pub dom : Dom
  pub e : Typed
  pub argument : IsTargetArgument program clause called dom e
  pub alone : IsVariable e v

-- E9: a relation called in when is top and part of the direction, and each universal object variable of the target model stands alone as a
-- target argument of a call in when
pub data HasUnmatchedCall (program : Program) (rel : Rel) : Type 0 where
  called : (number : ℕ) (called : Rel) → CallsIn rel.whens number → slice_get program.rels number ≡ Some called
      → ¬ ((called.top ≡ true) × (called.in_direction ≡ true)) → HasUnmatchedCall program rel
  variable : (v : ℕ) → IsUniversal program rel v → IsTargetVariable program rel v → ¬ IsTaken program rel.whens v → HasUnmatchedCall program rel

-- ---- E10

-- the argument is a target object variable alone, of the one type, and the root of the called relation's target domain has the other
pub record HasTypes (program : Program) (rel called : Rel) (dom : Dom) (e : Typed) (own asked : Ty) : Type 0 where
  pub v : ℕ
  pub alone : IsVariable e v
  pub var : Var
  pub found : slice_get rel.vars v ≡ Some var
  pub target : var.model ≡ Some program.target
  pub typed : var.ty ≡ own
  pub root : Var
  pub root_found : slice_get called.vars dom.root ≡ Some root
  pub root_typed : root.ty ≡ asked

-- in when the class is the same, in where it conforms
pub record IsPassedInWhen (program : Program) (rel called : Rel) (dom : Dom) (e : Typed) : Type 0 where
  pub ty : Ty
  pub types : HasTypes program rel called dom e ty ty

pub record IsPassedInWhere (metas : List MetaDesc) (program : Program) (rel called : Rel) (dom : Dom) (e : Typed) : Type 0 where
  pub own : Ty
  pub asked : Ty
  pub types : HasTypes program rel called dom e own asked
  pub conforms : TypeConforms metas own asked

-- E10: a target argument is a target object variable alone, whose class conforms to the callee's target root class in where, and is the
-- same in when
pub data HasWrongArgument (metas : List MetaDesc) (program : Program) (rel : Rel) : Type 0 where
  of_when : (called : Rel) (dom : Dom) (e : Typed) → IsTargetArgument program rel.whens called dom e → ¬ IsPassedInWhen program rel called dom e
      → HasWrongArgument metas program rel
  of_where : (called : Rel) (dom : Dom) (e : Typed) → IsTargetArgument program rel.wheres called dom e → ¬ IsPassedInWhere metas program rel called dom e
      → HasWrongArgument metas program rel
