-- The variables of the target template of a relation (QVT 1.3, sections 7.2.3 and 7.11.2.3), as code comes to them: item by item.
use Rattle.std.specs.Prelude.{ℕ, Bool, List, [], ◌∷◌, ◌++◌, if◌then◌else◌}
use Rattle.std.specs.List.{filter_map}
use Rattle.std.specs.Option.{option_map_or, option_to_list}
use Rattle.qv_syntax.specs.declared.program.Dom.{Dom}
use Rattle.qv_syntax.specs.declared.program.Item.{Item}
use Rattle.qv_syntax.specs.declared.program.ItemValue.{ItemValue, fold-ItemValue}
use Rattle.repair_semantics.specs.TargetItems.{TargetItem, ContentPart, ItemPart, TemplatePart, content_part, item_part, template_part, parts, variable_of}

-- the variables of the templates that items put into slots
abbrev pub variables_in : List TargetItem → List ℕ
variables_in items = filter_map (λ item. variable_of item.content) items

-- what an item puts into its slot, with the items of the template that this is
abbrev pub value_part : ItemValue → ContentPart
value_part = fold-ItemValue ContentPart ItemPart TemplatePart content_part item_part template_part

-- the variable of the template that the value of an item is, and of those within it
abbrev pub value_variables : ItemValue → List ℕ
value_variables value = option_to_list (variable_of (value_part value).content) ++ variables_in (value_part value).within

abbrev pub item_variables : Item → List ℕ
item_variables item = value_variables item.value

-- the root of a domain of a top relation
abbrev pub root_if : Bool → Dom → List ℕ
root_if top dom = if top then dom.root ∷ [] else []

-- the variables of the templates within the template of a domain
abbrev pub variables_within : Dom → List ℕ
variables_within dom = option_map_or (λ t. variables_in (parts t).items) dom.template []
