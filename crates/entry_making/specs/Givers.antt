-- Where values come from: of items, of the key properties of templates, and of arguments.
use Rattle.std.specs.Prelude.{ℕ, Bool, false, ◌&&◌, not, List, map, Option, None, Some, slice_get, if◌then◌else◌}
use Rattle.std.specs.Option.{option_map, option_and_then}
use Rattle.mof_metamodel.specs.declared.desc.MetaDesc.{MetaDesc}
use Rattle.mof_metamodel.specs.declared.desc.PropId.{PropId}
use Rattle.mof_metamodel.specs.Metamodels.{opposite_of}
use Rattle.object_tables.specs.Models.{ModelData}
use Rattle.qv_syntax.specs.declared.program.Program.{Program}
use Rattle.qv_syntax.specs.declared.program.Rel.{Rel}
use Rattle.qv_syntax.specs.declared.typed.Typed.{Typed}
use Rattle.qvtr_semantics.specs.Outs.{all_given}
use Rattle.qvtr_semantics.specs.Objects.{is_number_among}
use Rattle.qvtr_semantics.specs.Expressions.{value}
use Rattle.repair_semantics.specs.declared.term.TermValue.{TermValue}
use Rattle.repair_semantics.specs.EntryValues.{Known, value_of, given_out, variable_alone}
use Rattle.repair_semantics.specs.TargetItems.{Content, TargetItem, class_of_variable, key_of, target_root}
use Rattle.repair_semantics.specs.Making.{first_item, item_around, is_option_of, keyed}
use Rattle.entry_making.specs.declared.origin.Origin.{Origin}
use Rattle.entry_making.specs.declared.origin.Origin.TheVariants as origins

-- what gives a value: nothing, a variable, or an expression
pub data Giver : Type 0 where
  nothing : Giver
  variable : ℕ → Giver
  expression : Typed → Giver

-- the value that is given
abbrev pub giver_value : Program → List ModelData → Known → Giver → Option TermValue
giver_value program models k Giver.nothing = None
giver_value program models k (Giver.variable v) = value_of k.values v
giver_value program models k (Giver.expression e) = given_out (value program models e k.scope)

abbrev pub shown_origin : Origin → Giver
shown_origin origins.Nothing = Giver.nothing
shown_origin (origins.Variable v) = Giver.variable v
shown_origin (origins.Expression e) = Giver.expression e.now

-- an expression, which may be this variable alone
abbrev pub giver_by : Typed → Option ℕ → Giver
giver_by e None = Giver.expression e
giver_by e (Some v) = Giver.variable v

abbrev pub expression_giver : Typed → Giver
expression_giver e = giver_by e (variable_alone e)

-- what gives the value of an item
abbrev pub content_giver : Content → Giver
content_giver Content.empty = Giver.nothing
content_giver (Content.expression e) = expression_giver e
content_giver (Content.template v) = Giver.variable v

-- ---- key properties

-- the template around, where the property is the opposite of that at which the template stands in it
abbrev pub parent_giver : MetaDesc → ℕ → Option TargetItem → Giver
parent_giver desc p None = Giver.nothing
parent_giver desc p (Some item) = if is_option_of (opposite_of desc item.prop.0) p then Giver.variable item.owner else Giver.nothing

abbrev pub key_giver_by : MetaDesc → ℕ → Option TargetItem → Option TargetItem → Giver
key_giver_by desc p None around = parent_giver desc p around
key_giver_by desc p (Some item) around = content_giver item.content

-- what gives the value of a key property of the template of a variable
abbrev pub key_giver : MetaDesc → List TargetItem → ℕ → PropId → Giver
key_giver desc items v p = key_giver_by desc p.0 (first_item items v p.0) (item_around items v)

-- a class, and what gives the values of its key properties
pub record KeyGivers : Type 0 where
  pub class : ℕ
  pub keys : List Giver

abbrev pub givers_of_class : Program → MetaDesc → List TargetItem → ℕ → ℕ → Option KeyGivers
givers_of_class program desc items v class = option_map (λ props. record { class = class; keys = map (key_giver desc items v) props }) (key_of program class)

-- the class of an object variable that has a key, and what gives the values of its key properties
abbrev pub key_givers : Program → MetaDesc → Rel → List TargetItem → ℕ → Option KeyGivers
key_givers program desc rel items v = option_and_then (givers_of_class program desc items v) (class_of_variable rel v)

-- the term by the values that are given, if each is
abbrev pub given_term : Program → List ModelData → Known → KeyGivers → Option TermValue
given_term program models k g = option_map (keyed g.class) (all_given (map (giver_value program models k) g.keys))

-- ---- variables that a relation makes

-- the root of the target domain of a relation that isn't top: its caller hands it on
abbrev pub is_handed_on : Program → Rel → ℕ → Bool
is_handed_on program rel v = not rel.top && is_option_of (target_root program rel) v

-- the relation makes the values of the variable, or its equations give them
abbrev pub is_made : Program → Rel → ℕ → Bool
is_made program rel v = is_number_among v rel.existential && not (is_handed_on program rel v)
