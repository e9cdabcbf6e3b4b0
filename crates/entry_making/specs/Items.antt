-- The items of a target template as code keeps them.
use Rattle.std.specs.Prelude.{◌<◌, ℕ, List}
use Rattle.mof_metamodel.specs.declared.desc.MetaDesc.{MetaDesc}
use Rattle.mof_metamodel.specs.Metamodels.{prop_count}
use Rattle.qv_syntax.specs.declared.program.Item.{Item, fold-Item}
use Rattle.qv_syntax.specs.declared.program.ItemValue.{ItemValue, fold-ItemValue}
use Rattle.repair_semantics.specs.TargetItems as items
use Rattle.repair_semantics.specs.TargetItems.{TargetItem, ContentPart, ItemPart, TemplatePart, content_part, item_part, template_part}
use Rattle.entry_making.specs.declared.content.Content.{Content}
use Rattle.entry_making.specs.declared.content.Content.TheVariants as contents
use Rattle.entry_making.specs.declared.content.OwnedItem.{OwnedItem}

abbrev pub shown_content : Content → items.Content
shown_content contents.Empty = items.Content.empty
shown_content (contents.Expression e) = items.Content.expression e.now
shown_content (contents.Template v) = items.Content.template v

abbrev pub shown_item : OwnedItem → TargetItem
shown_item i = record { owner = i.owner; prop = i.prop; content = shown_content i.content }

-- the items of an item, behind the variable of its template
abbrev pub item_parts : Item → ItemPart
item_parts = fold-Item ContentPart ItemPart TemplatePart content_part item_part template_part

-- what an item puts into its slot, with the items of the template that this is
abbrev pub value_part : ItemValue → ContentPart
value_part = fold-ItemValue ContentPart ItemPart TemplatePart content_part item_part template_part

-- the property of the item is one of the metamodel
abbrev pub IsItemOf : MetaDesc → OwnedItem → Type 0
IsItemOf desc i = i.prop.0 < prop_count desc
