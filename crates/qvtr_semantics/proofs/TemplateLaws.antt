-- What a template with these items asks, form by form.
use Rattle.std.specs.Prelude.{◌≡◌, ℕ, List, map}
use Rattle.mof_metamodel.specs.declared.desc.ClassId.{ClassId}
use Rattle.mof_metamodel.specs.declared.desc.PropId.{PropId}
use Rattle.object_tables.specs.Models.{ModelData}
use Rattle.qv_syntax.specs.declared.program.Program.{Program}
use Rattle.qv_syntax.specs.declared.program.Tmpl.{Tmpl, roll-Tmpl, fold-roll-Tmpl}
use Rattle.qv_syntax.specs.declared.program.Item.{Item, fold-Item, fold-roll-Item}
use Rattle.qv_syntax.specs.declared.program.ItemValue.{ItemValue, roll-ItemValue, fold-ItemValue, fold-roll-ItemValue}
use Rattle.qv_syntax.specs.declared.program.ItemValue.TheOpen as of
use Rattle.qv_syntax.specs.declared.typed.Typed.{Typed}
use Rattle.qvtr_semantics.specs.Expressions.{setting}
use Rattle.qvtr_semantics.specs.Templates.{SlotMeaning, ItemMeaning, Pattern, slot_meaning, item_meaning, tmpl_meaning, pattern}

abbrev pub slot_of : Program → List ModelData → ItemValue → SlotMeaning
slot_of program models = fold-ItemValue SlotMeaning ItemMeaning Pattern (slot_meaning program models) (item_meaning (setting program models)) (tmpl_meaning (setting program models))

abbrev pub item_of : Program → List ModelData → Item → ItemMeaning
item_of program models = fold-Item SlotMeaning ItemMeaning Pattern (slot_meaning program models) (item_meaning (setting program models)) (tmpl_meaning (setting program models))

pub slot_null : (program : Program) (models : List ModelData) → slot_of program models (roll-ItemValue of.Null) ≡ slot_meaning program models of.Null
slot_null program models = fold-roll-ItemValue SlotMeaning ItemMeaning Pattern (slot_meaning program models) (item_meaning (setting program models)) (tmpl_meaning (setting program models)) of.Null

pub slot_expr : (program : Program) (models : List ModelData) (e : Typed) → slot_of program models (roll-ItemValue (of.Expr e)) ≡ slot_meaning program models (of.Expr e)
slot_expr program models e = fold-roll-ItemValue SlotMeaning ItemMeaning Pattern (slot_meaning program models) (item_meaning (setting program models)) (tmpl_meaning (setting program models)) (of.Expr e)

pub slot_nested : (program : Program) (models : List ModelData) (t : Tmpl) → slot_of program models (roll-ItemValue (of.Nested t)) ≡ slot_meaning program models (of.Nested (pattern program models t))
slot_nested program models t = fold-roll-ItemValue SlotMeaning ItemMeaning Pattern (slot_meaning program models) (item_meaning (setting program models)) (tmpl_meaning (setting program models)) (of.Nested t)

pub item_is : (program : Program) (models : List ModelData) (prop : PropId) (value : ItemValue)
    → item_of program models (record { prop = prop; value = value }) ≡ item_meaning (setting program models) (record { prop = prop; value = slot_of program models value })
item_is program models prop value = fold-roll-Item SlotMeaning ItemMeaning Pattern (slot_meaning program models) (item_meaning (setting program models)) (tmpl_meaning (setting program models)) (record { prop = prop; value = value })

pub template_is : (program : Program) (models : List ModelData) (var : ℕ) (class : ClassId) (its : List Item)
    → pattern program models (roll-Tmpl (record { var = var; class = class; items = its }))
    ≡ tmpl_meaning (setting program models) (record { var = var; class = class; items = map (item_of program models) its })
template_is program models var class its = fold-roll-Tmpl SlotMeaning ItemMeaning Pattern (slot_meaning program models) (item_meaning (setting program models)) (tmpl_meaning (setting program models)) (record { var = var; class = class; items = its })
