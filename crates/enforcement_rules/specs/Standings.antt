-- Lists of templates with their places, as they are collected from domains.
use Rattle.std.specs.Prelude.{◌≡◌, ◌⊎◌, ℕ, true, List, [], Option, None, Some, Contains}
use Rattle.qv_syntax.specs.declared.program.Program.{Program}
use Rattle.qv_syntax.specs.declared.program.Rel.{Rel}
use Rattle.qv_syntax.specs.declared.program.Dom.{Dom}
use Rattle.qv_syntax.specs.declared.program.Tmpl.{Tmpl}
use Rattle.qv_syntax.specs.declared.program.Item.{Item}
use Rattle.qv_syntax.specs.declared.program.ItemValue.{ItemValue}
use Rattle.qv_syntax.specs.declared.program.ItemValue.TheVariants as items
use Rattle.enforcement_rules.specs.declared.standing.Place.{Place}
use Rattle.enforcement_rules.specs.declared.standing.Standing.{Standing}
use Rattle.enforcement_rules.specs.TargetParts.{Stands}
use Rattle.enforcement_rules.specs.TargetTests.{is_of_target}

-- a template with its place
abbrev pub Shown : Type 0
Shown = Tmpl × Option Place

abbrev pub shown_standing : Standing → Shown
shown_standing s = (s.template.now, s.at)

-- the new list has what the old one has, and these
pub record Adds (IsNew : Shown → Type 0) (old new : List Shown) : Type 0 where
  pub kept : (s : Shown) → Contains old s → Contains new s
  pub more : (s : Shown) → IsNew s → Contains new s
  pub only : (s : Shown) → Contains new s → Contains old s ⊎ IsNew s

abbrev pub IsOf : Tmpl → Option Place → Shown → Type 0
IsOf t at s = Stands t at s.0 s.1

pub record IsOfValue (place : Place) (value : ItemValue) (s : Shown) : Type 0 where
  pub part : Tmpl
  pub is : value ≡ items.Nested part
  pub stands : Stands part (Some place) s.0 s.1

pub record IsOfItems (parent : ℕ) (of : List Item) (s : Shown) : Type 0 where
  pub item : Item
  pub among : Contains of item
  pub value : IsOfValue (record { parent = parent; prop = item.prop }) item.value s

pub record IsOfDomain (dom : Dom) (s : Shown) : Type 0 where
  pub root : Tmpl
  pub has : dom.template ≡ Some root
  pub stands : Stands root None s.0 s.1

pub record IsOfTarget (program : Program) (dom : Dom) (s : Shown) : Type 0 where
  pub target : is_of_target program dom.model ≡ true
  pub of : IsOfDomain dom s

pub record IsOfDomains (Of : Dom → Shown → Type 0) (doms : List Dom) (s : Shown) : Type 0 where
  pub dom : Dom
  pub among : Contains doms dom
  pub of : Of dom s

-- those of the target's domain
abbrev pub AreTargetTemplates : Program → Rel → List Shown → Type 0
AreTargetTemplates program rel templates = Adds (IsOfDomains (IsOfTarget program) rel.domains) [] templates
