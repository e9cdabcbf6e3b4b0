-- The items of a template, form by form.
use Rattle.std.specs.Prelude.{◌≡◌, ℕ, List, [], map}
use Rattle.mof_metamodel.specs.declared.desc.ClassId.{ClassId}
use Rattle.mof_metamodel.specs.declared.desc.PropId.{PropId}
use Rattle.qv_syntax.specs.declared.program.Tmpl.{Tmpl, roll-Tmpl, fold-roll-Tmpl}
use Rattle.qv_syntax.specs.declared.program.Item.{Item, fold-Item, fold-roll-Item}
use Rattle.qv_syntax.specs.declared.program.ItemValue.{ItemValue, roll-ItemValue, fold-ItemValue, fold-roll-ItemValue}
use Rattle.qv_syntax.specs.declared.program.ItemValue.TheOpen as of
use Rattle.qv_syntax.specs.declared.typed.Typed.{Typed}
use Rattle.repair_semantics.specs.TargetItems.{Content, ContentPart, TemplatePart, ItemPart, content_part, item_part, template_part, parts}

abbrev pub content_of : ItemValue → ContentPart
content_of = fold-ItemValue ContentPart ItemPart TemplatePart content_part item_part template_part

abbrev pub item_of : Item → ItemPart
item_of = fold-Item ContentPart ItemPart TemplatePart content_part item_part template_part

pub of_nothing : content_of (roll-ItemValue of.Null) ≡ record { content = Content.empty; within = [] }
of_nothing = fold-roll-ItemValue ContentPart ItemPart TemplatePart content_part item_part template_part of.Null

pub of_expression : (e : Typed) → content_of (roll-ItemValue (of.Expr e)) ≡ record { content = Content.expression e; within = [] }
of_expression e = fold-roll-ItemValue ContentPart ItemPart TemplatePart content_part item_part template_part (of.Expr e)

pub of_template : (t : Tmpl) → content_of (roll-ItemValue (of.Nested t)) ≡ content_part (of.Nested (parts t))
of_template t = fold-roll-ItemValue ContentPart ItemPart TemplatePart content_part item_part template_part (of.Nested t)

pub item_is : (prop : PropId) (value : ItemValue) → item_of (record { prop = prop; value = value }) ≡ item_part (record { prop = prop; value = content_of value })
item_is prop value = fold-roll-Item ContentPart ItemPart TemplatePart content_part item_part template_part (record { prop = prop; value = value })

pub template_is : (var : ℕ) (class : ClassId) (its : List Item)
    → parts (roll-Tmpl (record { var = var; class = class; items = its })) ≡ template_part (record { var = var; class = class; items = map item_of its })
template_is var class its = fold-roll-Tmpl ContentPart ItemPart TemplatePart content_part item_part template_part (record { var = var; class = class; items = its })
