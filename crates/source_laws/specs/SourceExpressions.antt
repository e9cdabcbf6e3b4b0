-- Expressions that ask for no objects of the target model (QVT 1.3, section 7.10.2; OCL 2.4, section 7.5.10 (allInstances)).
use Rattle.std.specs.Prelude.{◌≡◌, ◌≢◌, ℕ, List, Some, slice_get}
use Rattle.mof_metamodel.specs.declared.desc.ClassId.{ClassId}
use Rattle.qv_syntax.specs.declared.ty.Ty.{Ty}
use Rattle.qv_syntax.specs.declared.typed.Typed.{Typed}
use Rattle.qv_syntax.specs.declared.typed.Node.TheVariants as nodes
use Rattle.qv_syntax.specs.declared.query.ModelSlot.{ModelSlot}
use Rattle.qv_syntax.specs.declared.query.Query.{Query}
use Rattle.qv_syntax.specs.declared.program.Program.{Program}
use Rattle.qv_syntax.specs.Parts.{IsWithin, CallsQuery}
use Rattle.qv_syntax.specs.QueryCalls.{Calls}

-- no `allInstances` within the expression is of the target model
abbrev pub AsksNoTargetExtent : ℕ → Typed → Type 0
AsksNoTargetExtent target e = (ty : Ty) (model : ℕ) (class : ClassId) → IsWithin e (record { ty = ty; node = nodes.Extent model class }) → model ≢ target

-- no `allInstances` within the expression is of a class of the target's metamodel
abbrev pub AsksNoTargetClass : Program → Typed → Type 0
AsksNoTargetClass program e = (ty : Ty) (model : ℕ) (class : ClassId) (own target : ModelSlot) → IsWithin e (record { ty = ty; node = nodes.Extent model class })
    → slice_get program.models model ≡ Some own → slice_get program.models program.target ≡ Some target → own.meta ≢ target.meta

-- the expression calls the query, itself or through other queries
pub data ComesTo (queries : List Query) (e : Typed) : ℕ → Type 0 where
  itself : (q : ℕ) → CallsQuery e q → ComesTo queries e q
  through : (q called : ℕ) → ComesTo queries e q → Calls queries q called → ComesTo queries e called

-- neither the expression nor a query that it calls, itself or through others, has an `allInstances` of the target model
pub record SpeaksOfSources (program : Program) (e : Typed) : Type 0 where
  pub own : AsksNoTargetExtent program.target e
  pub called : (q : ℕ) (query : Query) → ComesTo program.queries e q → slice_get program.queries q ≡ Some query → AsksNoTargetExtent program.target query.body
