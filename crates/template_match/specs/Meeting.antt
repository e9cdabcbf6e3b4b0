-- What items and their values ask, as parts of the templates that they stand in (QVT 1.3, section 7.11.2.3).
use Rattle.std.specs.Prelude.{List}
use Rattle.object_tables.specs.Models.{ModelData}
use Rattle.qv_syntax.specs.declared.program.Program.{Program}
use Rattle.qv_syntax.specs.declared.program.Item.{Item, fold-Item}
use Rattle.qv_syntax.specs.declared.program.ItemValue.{ItemValue, fold-ItemValue}
use Rattle.qvtr_semantics.specs.Expressions.{setting}
use Rattle.qvtr_semantics.specs.Templates.{SlotMeaning, ItemMeaning, Pattern, slot_meaning, item_meaning, tmpl_meaning}

abbrev pub slot_of : Program → List ModelData → ItemValue → SlotMeaning
slot_of program models = fold-ItemValue SlotMeaning ItemMeaning Pattern (slot_meaning program models) (item_meaning (setting program models)) (tmpl_meaning (setting program models))

abbrev pub item_of : Program → List ModelData → Item → ItemMeaning
item_of program models = fold-Item SlotMeaning ItemMeaning Pattern (slot_meaning program models) (item_meaning (setting program models)) (tmpl_meaning (setting program models))
