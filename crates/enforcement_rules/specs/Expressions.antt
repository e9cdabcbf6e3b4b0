-- What the expressions of a relation may not say of the target, which isn't there yet when they have their values (QVT 1.3, sections
-- 7.10.2 and 7.11.1.4).
use Rattle.std.specs.Prelude.{◌≡◌, ℕ, Some, slice_get, Contains}
use Rattle.mof_metamodel.specs.declared.desc.ClassId.{ClassId}
use Rattle.qv_syntax.specs.declared.ty.Ty.{Ty}
use Rattle.qv_syntax.specs.declared.typed.Typed.{Typed}
use Rattle.qv_syntax.specs.declared.typed.Node.TheVariants as nodes
use Rattle.qv_syntax.specs.declared.query.ModelSlot.{ModelSlot}
use Rattle.qv_syntax.specs.declared.query.Query.{Query}
use Rattle.qv_syntax.specs.declared.program.Program.{Program}
use Rattle.qv_syntax.specs.declared.program.Rel.{Rel}
use Rattle.qv_syntax.specs.declared.program.Dom.{Dom}
use Rattle.qv_syntax.specs.declared.program.Conj.{Conj}
use Rattle.qv_syntax.specs.declared.program.Conj.TheVariants as conjuncts
use Rattle.qv_syntax.specs.Parts.{IsWithin, Names, CallsQuery}
use Rattle.qv_syntax.specs.QueryCalls.{Calls}
use Rattle.qv_syntax.specs.Relations.{IsItemExpression}
use Rattle.enforcement_rules.specs.TargetParts.{target_meta, IsTargetVariable}

-- ---- extents

-- `allInstances` of a class of the target's metamodel stands in the expression
pub record HasTargetExtent (program : Program) (e : Typed) : Type 0 where
  pub ty : Ty
  pub model : ℕ
  pub class : ClassId
  pub within : IsWithin e (record { ty = ty; node = nodes.Extent model class })
  pub slot : ModelSlot
  pub found : slice_get program.models model ≡ Some slot
  pub target : slot.meta ≡ target_meta program

-- it stands in the body of the query, or in that of one that it calls, directly or through others
pub data ReadsTarget (program : Program) : ℕ → Type 0 where
  extent : (q : ℕ) (query : Query) → slice_get program.queries q ≡ Some query → HasTargetExtent program query.body → ReadsTarget program q
  through : (q called : ℕ) → Calls program.queries q called → ReadsTarget program called → ReadsTarget program q

-- ---- the expressions of a relation

-- the expression is a variable alone
abbrev pub IsAlone : Typed → Type 0
IsAlone e = (ty : Ty) × (v : ℕ) × (e ≡ record { ty = ty; node = nodes.Variable v })

-- the expression of a condition or of an equation, and an argument of a call
abbrev pub IsAsked : Conj → Typed → Type 0
IsAsked (conjuncts.Cond c) e = c ≡ e
IsAsked (conjuncts.Equation v value) e = value ≡ e
IsAsked (conjuncts.Call rel args) e = ⊥

abbrev pub IsArgument : Conj → Typed → Type 0
IsArgument (conjuncts.Cond c) e = ⊥
IsArgument (conjuncts.Equation v value) e = ⊥
IsArgument (conjuncts.Call rel args) e = Contains args e

-- a conjunct of when or of where
pub data IsConjunct (rel : Rel) (c : Conj) : Type 0 where
  of_when : Contains rel.whens c → IsConjunct rel c
  of_where : Contains rel.wheres c → IsConjunct rel c

-- an item's value or a call's argument: there a target object variable may stand, but only alone
pub data IsObjectPlace (rel : Rel) (e : Typed) : Type 0 where
  item : (dom : Dom) → Contains rel.domains dom → IsItemExpression dom e → IsObjectPlace rel e
  argument : (c : Conj) → IsConjunct rel c → IsArgument c e → IsObjectPlace rel e

-- a condition or an equation
pub record IsDataPlace (rel : Rel) (e : Typed) : Type 0 where
  pub c : Conj
  pub of : IsConjunct rel c
  pub asked : IsAsked c e

pub data IsExpressionOf (rel : Rel) (e : Typed) : Type 0 where
  in_data : IsDataPlace rel e → IsExpressionOf rel e
  of_object : IsObjectPlace rel e → IsExpressionOf rel e

-- ---- E2

-- E2: no expression of it navigates from, tests or casts a target object; neither its expressions nor those of the queries that they call,
-- directly or through others, use `allInstances` of a class of the target's metamodel; a target object variable stands only alone, as an
-- item's value or as an argument of a relation's call, and never as an argument of a query. An expression comes to a target object by a
-- variable or by an extent alone, so where the second and the third hold the first does too.
pub data TouchesTarget (program : Program) (rel : Rel) : Type 0 where
  in_data : (e : Typed) (v : ℕ) → IsDataPlace rel e → Names e v → IsTargetVariable program rel v → TouchesTarget program rel
  not_alone : (e : Typed) (v : ℕ) → IsObjectPlace rel e → ¬ IsAlone e → Names e v → IsTargetVariable program rel v → TouchesTarget program rel
  extent : (e : Typed) → IsExpressionOf rel e → HasTargetExtent program e → TouchesTarget program rel
  query : (e : Typed) (q : ℕ) → IsExpressionOf rel e → CallsQuery e q → ReadsTarget program q → TouchesTarget program rel
