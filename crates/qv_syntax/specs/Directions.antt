-- Domains, templates, variables, calls, marks of direction and strata of the relations of a program are as a transformation means them
-- (QVT 1.3, sections 7.2, 7.3, 7.10 and 7.11.1).
use Rattle.std.specs.Prelude.{◌≡◌, ◌≢◌, ◌<◌, ◌≤◌, ◌↔◌, ℕ, true, List, [], None, Some, slice_get, Contains, AllPairs}
use Rattle.qv_syntax.specs.declared.ty.Ty.TheVariants as types
use Rattle.mof_metamodel.specs.declared.desc.ClassId.{ClassId}
use Rattle.qv_syntax.specs.declared.typed.Typed.{Typed}
use Rattle.qv_syntax.specs.declared.query.ModelSlot.{ModelSlot}
use Rattle.qv_syntax.specs.declared.program.Program.{Program}
use Rattle.qv_syntax.specs.declared.program.Rel.{Rel}
use Rattle.qv_syntax.specs.declared.program.Var.{Var}
use Rattle.qv_syntax.specs.declared.program.Dom.{Dom}
use Rattle.qv_syntax.specs.declared.program.Marker.TheVariants as markers
use Rattle.qv_syntax.specs.declared.program.Tmpl.{Tmpl, out-Tmpl}
use Rattle.qv_syntax.specs.declared.program.Conj.{Conj}
use Rattle.qv_syntax.specs.declared.program.Conj.TheVariants as conjuncts
use Rattle.std.specs.List.{flat_map}
use Rattle.std.specs.Option.{option_map_or}
use Rattle.qv_syntax.specs.Parts.{Names, template_variables}
use Rattle.qv_syntax.specs.Relations.{IsModelDomain, IsTargetDomain, IsTemplateOf, IsUniversal, IsDataVariable, Says, IsBound, CallsIn, IsCallPath}

-- ---- domains and templates

-- a domain of a model has a template for its root; a primitive one has neither
pub record IsDomainShaped (dom : Dom) : Type 0 where
  pub primitive : (dom.marker ≡ markers.Primitive) ↔ (dom.model ≡ None)
  pub bare : dom.model ≡ None → dom.template ≡ None
  pub shaped : (model : ℕ) → dom.model ≡ Some model → (t : Tmpl) × (dom.template ≡ Some t) × ((out-Tmpl t).var ≡ dom.root)

-- no model of the one is that of the other
abbrev pub AreOfTwoModels : Dom → Dom → Type 0
AreOfTwoModels a b = (model : ℕ) → a.model ≡ Some model → b.model ≢ Some model

-- a template declares its variable with its class, in the model of its domain
pub record IsDeclared (rel : Rel) (model meta : ℕ) (t : Tmpl) : Type 0 where
  pub var : Var
  pub found : slice_get rel.vars (out-Tmpl t).var ≡ Some var
  pub class : var.ty ≡ types.Class meta (out-Tmpl t).class
  pub of_model : var.model ≡ Some model

-- the variables of the templates of a domain
abbrev pub domain_variables : Dom → List ℕ
domain_variables dom = option_map_or template_variables dom.template []

pub record HasDomains (program : Program) (rel : Rel) : Type 0 where
  pub shaped : (dom : Dom) → Contains rel.domains dom → IsDomainShaped dom
  pub models : AllPairs AreOfTwoModels rel.domains
  pub declared : (dom : Dom) (d : IsModelDomain program rel dom) (t : Tmpl) → IsTemplateOf dom t → IsDeclared rel d.model d.slot.meta t
  -- a variable has at most one template
  pub templates : AllPairs (λ v w. v ≢ w) (flat_map domain_variables rel.domains)

-- ---- variables

-- an object variable has a model of its class's metamodel, a data variable has none
pub record IsInModel (program : Program) (var : Var) : Type 0 where
  pub object : (meta : ℕ) (class : ClassId) → var.ty ≡ types.Class meta class
      → (model : ℕ) × (slot : ModelSlot) × (var.model ≡ Some model) × (slice_get program.models model ≡ Some slot) × (slot.meta ≡ meta)
  pub data_value : ((meta : ℕ) (class : ClassId) → var.ty ≢ types.Class meta class) → var.model ≡ None

pub record HasVariables (program : Program) (rel : Rel) : Type 0 where
  pub models : (var : Var) → Contains rel.vars var → IsInModel program var
  pub universal : (v : ℕ) (var : Var) → slice_get rel.vars v ≡ Some var → (Contains rel.universal v ↔ IsUniversal program rel v)
  pub existential : (v : ℕ) (var : Var) → slice_get rel.vars v ≡ Some var → (Contains rel.existential v ↔ (¬ IsUniversal program rel v))
  pub universal_order : AllPairs (λ v w. v < w) rel.universal
  pub existential_order : AllPairs (λ v w. v < w) rel.existential
  pub bound : (v : ℕ) → IsDataVariable rel v → IsBound program rel v

-- ---- equations

-- one of the first so many conjuncts gives the variable by an expression that doesn't name it
pub record IsGivenBefore (clause : List Conj) (place v : ℕ) : Type 0 where
  pub earlier : ℕ
  pub before : earlier < place
  pub c : Conj
  pub found : slice_get clause earlier ≡ Some c
  pub e : Typed
  pub says : Says c v e
  pub other : ¬ Names e v

-- The equation of a data variable that is looked for here is the first conjunct `v = e` in which `e` doesn't name it; each other
-- conjunct that is no call is a condition.
pub record HasEquations (rel : Rel) (IsSought : ℕ → Type 0) (clause : List Conj) : Type 0 where
  pub are : (place v : ℕ) (e : Typed) → slice_get clause place ≡ Some (conjuncts.Equation v e)
      → IsDataVariable rel v × IsSought v × (¬ Names e v) × (¬ IsGivenBefore clause place v)
  pub all : (place v : ℕ) (c e : Typed) → slice_get clause place ≡ Some (conjuncts.Cond c) → Says (conjuncts.Cond c) v e
      → IsDataVariable rel v → IsSought v → (¬ Names e v) → IsGivenBefore clause place v

-- ---- calls, marks of direction and strata

-- a relation of the direction calls relations of the direction
pub record CallsInDirection (program : Program) (rel : Rel) : Type 0 where
  pub whens : (number : ℕ) (called : Rel) → CallsIn rel.whens number → slice_get program.rels number ≡ Some called → called.in_direction ≡ true
  pub wheres : (number : ℕ) (called : Rel) → CallsIn rel.wheres number → slice_get program.rels number ≡ Some called → called.in_direction ≡ true

-- the stratum is the greatest number of calls in when clauses on a path of calls from the relation; so no call in a when clause lies on a cycle
pub record IsStratum (program : Program) (number stratum : ℕ) : Type 0 where
  pub reached : IsCallPath program number stratum
  pub greatest : (count : ℕ) → IsCallPath program number count → count ≤ stratum

pub record IsMeant (program : Program) (number : ℕ) (rel : Rel) : Type 0 where
  pub domains : HasDomains program rel
  pub variables : HasVariables program rel
  pub whens : HasEquations rel (IsUniversal program rel) rel.whens
  pub wheres : HasEquations rel (λ v. ¬ IsUniversal program rel v) rel.wheres
  pub direction : (rel.in_direction ≡ true) ↔ ((dom : Dom) × IsTargetDomain program rel dom)
  pub calls : rel.in_direction ≡ true → CallsInDirection program rel
  pub stratum : IsStratum program number rel.stratum

abbrev pub AreMeant : Program → Type 0
AreMeant program = (number : ℕ) (rel : Rel) → slice_get program.rels number ≡ Some rel → IsMeant program number rel
