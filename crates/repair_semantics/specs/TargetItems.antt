-- The target template of a relation as a list of its items (QVT 1.3, sections 7.2.3 and 7.11.2.3), and the keys of classes of the target
-- (section 7.10.2).
use Rattle.std.specs.Prelude.{ℕ, Bool, ◌&&◌, ◌==◌, List, [], ◌∷◌, Option, None, Some, slice_get}
use Rattle.std.specs.List.{find, flat_map, filter_map}
use Rattle.std.specs.Option.{option_map, option_map_or, option_and_then}
use Rattle.mof_metamodel.specs.declared.desc.MetaDesc.{MetaDesc}
use Rattle.mof_metamodel.specs.declared.desc.PropId.{PropId}
use Rattle.object_tables.specs.Models.{ModelData}
use Rattle.qv_syntax.specs.declared.program.Program.{Program}
use Rattle.qv_syntax.specs.declared.program.Key.{Key}
use Rattle.qv_syntax.specs.declared.program.Rel.{Rel}
use Rattle.qv_syntax.specs.declared.program.Dom.{Dom}
use Rattle.qv_syntax.specs.declared.program.Tmpl.{Tmpl, fold-Tmpl}
use Rattle.qv_syntax.specs.declared.program.ItemValue.TheOpen as of
use Rattle.qv_syntax.specs.declared.ty.Ty.{Ty}
use Rattle.qv_syntax.specs.declared.ty.Ty.TheVariants as types
use Rattle.qv_syntax.specs.declared.typed.Typed.{Typed}
use Rattle.qvtr_semantics.specs.Objects.{meta_number}
use Rattle.qvtr_semantics.specs.Bindings.{is_target_domain}

-- ---- items

-- what an item puts into a slot: nothing, the value of an expression, or the object of the template with this variable
pub data Content : Type 0 where
  empty : Content
  expression : Typed → Content
  template : ℕ → Content

-- an item, with the variable of the template in which it stands
pub record TargetItem : Type 0 where
  pub owner : ℕ
  pub prop : PropId
  pub content : Content

-- the content of an item, with the items of the template that it is
pub record ContentPart : Type 0 where
  pub content : Content
  pub within : List TargetItem

-- a template: its variable and all items in it
pub record TemplatePart : Type 0 where
  pub var : ℕ
  pub items : List TargetItem

-- the items of an item of a template with this variable: itself, and those within it
abbrev pub ItemPart : Type 0
ItemPart = ℕ → List TargetItem

-- a content, with the items of the template that it is
abbrev pub content_part : of.ItemValue-F ContentPart ItemPart TemplatePart → ContentPart
content_part of.Null = record { content = Content.empty; within = [] }
content_part (of.Expr e) = record { content = Content.expression e; within = [] }
content_part (of.Nested t) = record { content = Content.template t.var; within = t.items }

-- an item behind the variable of its template, with those within it
abbrev pub item_part : of.Item-F ContentPart ItemPart TemplatePart → ItemPart
item_part i owner = record { owner = owner; prop = i.prop; content = i.value.content } ∷ i.value.within

-- a template, with all items in it
abbrev pub template_part : of.Tmpl-F ContentPart ItemPart TemplatePart → TemplatePart
template_part t = record { var = t.var; items = flat_map (λ part. part t.var) t.items }

-- the variable of a template, and its items in text order, an item before those of the template that is its value
abbrev pub parts : Tmpl → TemplatePart
parts = fold-Tmpl ContentPart ItemPart TemplatePart content_part item_part template_part

-- ---- the target domain

-- the domain of the target model
abbrev pub target_domain : Program → Rel → Option Dom
target_domain program rel = find (is_target_domain program) rel.domains

-- the root variable of the target domain
abbrev pub target_root : Program → Rel → Option ℕ
target_root program rel = option_map (λ dom. dom.root) (target_domain program rel)

-- the items of the target template in text order
abbrev pub target_items : Program → Rel → List TargetItem
target_items program rel = option_map_or (λ t. (parts t).items) (option_and_then (λ dom. dom.template) (target_domain program rel)) []

-- the variable of the template that a content is
abbrev pub variable_of : Content → Option ℕ
variable_of Content.empty = None
variable_of (Content.expression e) = None
variable_of (Content.template v) = Some v

-- the variables of the templates within the target template
abbrev pub nested_variables : Program → Rel → List ℕ
nested_variables program rel = filter_map (λ item. variable_of item.content) (target_items program rel)

-- the class that a type is
abbrev pub class_in : Ty → Option ℕ
class_in (types.Class meta class) = Some class.0
class_in ty = None

-- the class of an object variable, which is that of its template
abbrev pub class_of_variable : Rel → ℕ → Option ℕ
class_of_variable rel v = option_and_then (λ var. class_in var.ty) (slice_get rel.vars v)

-- ---- the target's metamodel, and keys

-- a metamodel without classes
abbrev pub no_metamodel : MetaDesc
no_metamodel = record { name = []; classes = []; enums = [] }

-- the metamodel of the target model
abbrev pub target_metamodel : Program → List ModelData → MetaDesc
target_metamodel program models = option_map_or (λ m. m.meta) (slice_get models program.target) no_metamodel

-- its number in the script
abbrev pub target_meta_number : Program → ℕ
target_meta_number program = meta_number (slice_get program.models program.target)

-- the key is that of the class of the target
abbrev pub is_key_of : Program → ℕ → Key → Bool
is_key_of program class key = (key.meta == target_meta_number program) && (key.class.0 == class)

-- the properties of the key of a class of the target, in the key's order; that of a superclass is none of the class
abbrev pub key_of : Program → ℕ → Option (List PropId)
key_of program class = option_map (λ key. key.props) (find (is_key_of program class) program.keys)
