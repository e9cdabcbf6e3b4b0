-- When a piece of a template is as its place asks, and which faults stand at it (QVT 1.3, sections 7.11.2.2 and 7.11.2.3).
use Rattle.std.specs.Prelude.{◌≡◌, ℕ, true, false, List, None, Some, Contains}
use Rattle.mof_metamodel.specs.declared.desc.ClassId.{ClassId}
use Rattle.mof_metamodel.specs.declared.desc.PropId.{PropId}
use Rattle.mof_metamodel.specs.Metamodels.{prop_number}
use Rattle.qv_syntax.specs.declared.name.Path.{Path}
use Rattle.qv_syntax.specs.declared.expr.Expr.{Expr}
use Rattle.qv_syntax.specs.declared.ty.Ty.{Ty}
use Rattle.qv_syntax.specs.declared.ty.Ty.TheVariants as types
use Rattle.qv_syntax.specs.declared.typed.Typed.{Typed}
use Rattle.qv_syntax.specs.declared.typed.Values.{Values}
use Rattle.qv_syntax.specs.declared.program.ItemValue.{ItemValue}
use Rattle.qv_syntax.specs.declared.program.ItemValue.TheVariants as items
use Rattle.qv_syntax.specs.Types.{AreRelated}
use Rattle.qv_syntax.specs.TypeRules.{HasProperty}
use Rattle.qv_syntax.specs.TypedTrees.{Typing}
use Rattle.ocl_environments.specs.declared.fault.TypeFault.{TypeFault}
use Rattle.ocl_environments.specs.declared.fault.TypeFault.TheVariants.{UnknownName}
use Rattle.ocl_environments.specs.Environments.{meta_at}
use Rattle.ocl_types.specs.HasType.{HasTree, Stands}
use Rattle.ocl_environments.specs.Naming.{path_text}
use Rattle.ocl_environments.specs.Outcomes.{wrong_type}
use Rattle.script_scopes.specs.Conjuncts.{is_null}
use Rattle.script_scopes.specs.Occurrences.{WrittenProperty, Piece, property_of}
use Rattle.script_scopes.specs.Occurrences.Piece.{begins, asks}
use Rattle.qvtr_types.specs.Expressions.{HasTyping, IsGiven, StandsInGiven}
use Rattle.script_scopes.specs.ResolvedTemplates.{DomainReach, class_named}

module _ (reach : DomainReach) where
  -- a property of a template's class: its number, and the type of its values
  pub record IsItemProperty (at : WrittenProperty) (class : ClassId) (prop : PropId) (of : Ty) : Type 0 where
    pub is_class : class_named reach at.class ≡ Some class
    pub number : prop_number (meta_at reach.env.metas reach.meta) class.0 at.name ≡ Some prop.0
    pub gives : Values
    pub has : HasProperty reach.env.metas (types.Class reach.meta class) prop gives of

  -- the class has none of this name, and the fault has the name
  pub record LacksProperty (at : WrittenProperty) (fault : TypeFault) : Type 0 where
    pub class : ClassId
    pub is_class : class_named reach at.class ≡ Some class
    pub lacks : prop_number (meta_at reach.env.metas reach.meta) class.0 at.name ≡ None
    pub is : fault ≡ UnknownName at.name

  -- a path names no class, and the fault has the path
  abbrev pub IsUnknownClass : Path → TypeFault → Type 0
  IsUnknownClass path fault = (class_named reach path ≡ None) × (fault ≡ UnknownName (path_text path))

  -- what a value of the type is asked for: objects are of the domain's model
  abbrev pub asked_for : Ty → Typing
  asked_for of = record { ty = of; model = Some reach.model }

  -- an object of the class may stand where a value of the type is asked for
  abbrev pub IsRelated : ClassId → Ty → Type 0
  IsRelated class of = AreRelated reach.env.metas (types.Class reach.meta class) of

  -- ---- the value at a property of this type

  -- an expression: `null`, which has a type too and asks for an empty slot, or one of the type
  pub data IsValueOf (of : Ty) (e : Expr) : Type 0 where
    empty : (t : Typed) (typing : Typing) → is_null e ≡ true → HasTyping reach.env e t typing → IsValueOf of e
    given : (t : Typed) → is_null e ≡ false → IsGiven reach.env (asked_for of) e t → IsValueOf of e

  -- what it resolves to
  pub data HasValue (e : Expr) (value : ItemValue) : Type 0 where
    empty : is_null e ≡ true → value ≡ items.Null → HasValue e value
    given : (t : Typed) → is_null e ≡ false → HasTree reach.env e t → value ≡ items.Expr t → HasValue e value

  -- the faults that stand in it, at the property of this name
  pub data StandsInValue (of : Ty) (name : List ℕ) (e : Expr) (fault : TypeFault) : Type 0 where
    typing : Stands reach.env e fault → StandsInValue of name e fault
    given : is_null e ≡ false → StandsInGiven reach.env (asked_for of) name e fault → StandsInValue of name e fault

  -- a template with the class of this path: its class is related to the type
  pub record IsNested (of : Ty) (path : Path) (class : ClassId) : Type 0 where
    pub is_class : class_named reach path ≡ Some class
    pub related : IsRelated class of

  pub data StandsInNested (of : Ty) (path : Path) (fault : TypeFault) : Type 0 where
    unknown_class : IsUnknownClass path fault → StandsInNested of path fault
    other_class : (class : ClassId) → class_named reach path ≡ Some class → ¬ IsRelated class of
        → fault ≡ wrong_type reach.env.metas of (types.Class reach.meta class) → StandsInNested of path fault

  -- ---- pieces

  -- a template is the value at a property
  pub record IsNestedAt (at : WrittenProperty) (path : Path) : Type 0 where
    pub class : ClassId
    pub prop : PropId
    pub of : Ty
    pub inner : ClassId
    pub property : IsItemProperty at class prop of
    pub nested : IsNested of path inner

  -- an expression is
  pub record IsValueAt (at : WrittenProperty) (e : Expr) : Type 0 where
    pub class : ClassId
    pub prop : PropId
    pub of : Ty
    pub property : IsItemProperty at class prop of
    pub value : IsValueOf of e

  -- a template that begins at a domain has a class; else it, and an expression, is the value at a property
  abbrev pub IsMeant : Piece → Type 0
  IsMeant (begins None v path) = (class : ClassId) × (class_named reach path ≡ Some class)
  IsMeant (begins (Some at) v path) = IsNestedAt at path
  IsMeant (asks None e) = ⊥
  IsMeant (asks (Some at) e) = IsValueAt at e

  -- the faults that stand where it isn't so
  pub data StandsAtPiece : Piece → TypeFault → Type 0 where
    outer : (v : List ℕ) (path : Path) (f : TypeFault) → IsUnknownClass path f → StandsAtPiece (begins None v path) f
    property : (piece : Piece) (at : WrittenProperty) (f : TypeFault) → property_of piece ≡ Some at → LacksProperty at f → StandsAtPiece piece f
    nested : (at : WrittenProperty) (class : ClassId) (prop : PropId) (of : Ty) (v : List ℕ) (path : Path) (f : TypeFault)
        → IsItemProperty at class prop of → StandsInNested of path f → StandsAtPiece (begins (Some at) v path) f
    expression : (at : WrittenProperty) (class : ClassId) (prop : PropId) (of : Ty) (e : Expr) (f : TypeFault)
        → IsItemProperty at class prop of → StandsInValue of at.name e f → StandsAtPiece (asks (Some at) e) f

  -- one of the pieces has the fault
  pub record IsPieceFault (pieces : List Piece) (fault : TypeFault) : Type 0 where
    pub piece : Piece
    pub among : Contains pieces piece
    pub stands : StandsAtPiece piece fault
