-- What of a relation belongs to the target: its metamodel, object variables of its model, and the templates of its domain with the
-- places at which they stand in one another (QVT 1.3, sections 7.9 and 7.11.2).
use Rattle.std.specs.Prelude.{◌≡◌, ℕ, List, [], Option, None, Some, true, slice_get, slice_index_or}
use Rattle.mof_metamodel.specs.declared.desc.MetaDesc.{MetaDesc}
use Rattle.mof_metamodel.specs.declared.desc.ClassId.{ClassId}
use Rattle.mof_metamodel.specs.declared.desc.PropId.{PropId}
use Rattle.qv_syntax.specs.declared.ty.Ty.TheVariants as types
use Rattle.qv_syntax.specs.declared.query.ModelSlot.{ModelSlot}
use Rattle.qv_syntax.specs.declared.program.Program.{Program}
use Rattle.qv_syntax.specs.declared.program.Rel.{Rel}
use Rattle.qv_syntax.specs.declared.program.Var.{Var}
use Rattle.qv_syntax.specs.declared.program.Dom.{Dom}
use Rattle.qv_syntax.specs.declared.program.Tmpl.{Tmpl, out-Tmpl}
use Rattle.qv_syntax.specs.declared.program.ItemValue.TheVariants as items
use Rattle.qv_syntax.specs.Parts.{HasItem}
use Rattle.qv_syntax.specs.Relations.{IsTargetDomain, IsUniversal}
use Rattle.ocl_environments.specs.Environments.{meta_at}
use Rattle.enforcement_rules.specs.declared.standing.Place.{Place}

-- ---- the target's metamodel

abbrev pub no_slot : ModelSlot
no_slot = record { name = []; meta = 0 }

-- its number, and its description
abbrev pub target_meta : Program → ℕ
target_meta program = (slice_index_or program.models program.target no_slot).meta

abbrev pub target_desc : List MetaDesc → Program → MetaDesc
target_desc metas program = meta_at metas (target_meta program)

-- ---- variables

-- an object variable
pub record IsObjectVariable (rel : Rel) (v : ℕ) : Type 0 where
  pub var : Var
  pub found : slice_get rel.vars v ≡ Some var
  pub meta : ℕ
  pub class : ClassId
  pub typed : var.ty ≡ types.Class meta class

-- a variable for objects of the target model
pub record IsTargetVariable (program : Program) (rel : Rel) (v : ℕ) : Type 0 where
  pub var : Var
  pub found : slice_get rel.vars v ≡ Some var
  pub target : var.model ≡ Some program.target

-- ---- templates

-- the second template is the first, or stands within it, each with its place; a domain's has none
pub data Stands : Tmpl → Option Place → Tmpl → Option Place → Type 0 where
  whole : (t : Tmpl) (at : Option Place) → Stands t at t at
  inside : (t : Tmpl) (at : Option Place) (prop : PropId) (part inner : Tmpl) (place : Option Place)
      → HasItem t (record { prop = prop; value = items.Nested part })
      → Stands part (Some (record { parent = (out-Tmpl t).var; prop = prop })) inner place → Stands t at inner place

-- a template of the target domain, with its place
pub record IsTargetTemplate (program : Program) (rel : Rel) (t : Tmpl) (at : Option Place) : Type 0 where
  pub dom : Dom
  pub of : IsTargetDomain program rel dom
  pub root : Tmpl
  pub has : dom.template ≡ Some root
  pub stands : Stands root None t at

-- One whose objects the relation makes: its variable is existential. The root of a relation that isn't top is handed on by the caller.
pub record IsMade (program : Program) (rel : Rel) (t : Tmpl) (at : Option Place) : Type 0 where
  pub is : IsTargetTemplate program rel t at
  pub existential : ¬ IsUniversal program rel (out-Tmpl t).var
  pub own : at ≡ None → rel.top ≡ true
