-- What an object template asks, item by item (QVT 1.3, sections 7.2.3 and 7.11.2): each template in it has an object of its class, and each item
-- holds of the object of the template in which it stands.
use Rattle.std.specs.Prelude.{◌≡◌, ℕ, Bool, true, false, List, Option, None, Some, Contains}
use Rattle.mof_metamodel.specs.declared.desc.PropId.{PropId}
use Rattle.object_tables.specs.Models.{ModelData}
use Rattle.qv_syntax.specs.declared.program.Program.{Program}
use Rattle.qv_syntax.specs.declared.program.Tmpl.{Tmpl, out-Tmpl}
use Rattle.qv_syntax.specs.Parts.{IsNested}
use Rattle.qvtr_semantics.specs.declared.datum.Datum.{Datum}
use Rattle.qvtr_semantics.specs.Outs.{datum_of}
use Rattle.qvtr_semantics.specs.Objects.{held_at}
use Rattle.qvtr_semantics.specs.Expressions.{setting, value_for}
use Rattle.qvtr_semantics.specs.Templates.{Values, value_at, is_empty_slot, has, is_of_class}
use Rattle.repair_semantics.specs.TargetItems.{Content, TargetItem, parts}

-- what a content asks of a slot
abbrev pub slot_holds : Program → List ModelData → Values → Option (List Datum) → Content → Bool
slot_holds program models g slot Content.empty = is_empty_slot slot
slot_holds program models g slot (Content.expression e) = has slot (datum_of (value_for program models e g))
slot_holds program models g slot (Content.template v) = has slot (value_at g v)

-- what it asks of the object of the template in which it stands
abbrev pub content_holds : Program → List ModelData → Values → PropId → Content → Option Datum → Bool
content_holds program models g p content None = false
content_holds program models g p content (Some d) = slot_holds program models g (held_at (setting program models) d p.0) content

abbrev pub item_holds : Program → List ModelData → Values → TargetItem → Bool
item_holds program models g i = content_holds program models g i.prop i.content (value_at g i.owner)

-- the variable of the template has a live object of its class
pub record HasObject (program : Program) (models : List ModelData) (g : Values) (t : Tmpl) : Type 0 where
  pub datum : Datum
  pub at : value_at g (out-Tmpl t).var ≡ Some datum
  pub of_class : is_of_class (setting program models) (out-Tmpl t).class.0 datum ≡ true

-- each template in it has its object, and each item in it holds
pub record HoldsThroughout (program : Program) (models : List ModelData) (g : Values) (t : Tmpl) : Type 0 where
  pub objects : (inner : Tmpl) → IsNested t inner → HasObject program models g inner
  pub items : (i : TargetItem) → Contains (parts t).items i → item_holds program models g i ≡ true
