-- When an object template matches (QVT 1.3, sections 7.2.3, 7.3 and 7.11.2): the variable of the template has an object of its class
-- that is live, and each item holds.
use Rattle.std.specs.Prelude.{ℕ, Bool, false, ◌&&◌, ◌==◌, List, length, Option, None, Some, slice_index_or}
use Rattle.std.specs.List.{list_all}
use Rattle.object_tables.specs.Models.{ModelData}
use Rattle.qv_syntax.specs.declared.program.Program.{Program}
use Rattle.qv_syntax.specs.declared.program.Tmpl.{Tmpl, fold-Tmpl}
use Rattle.qv_syntax.specs.declared.program.ItemValue.TheOpen as of
use Rattle.qvtr_semantics.specs.declared.datum.Datum.{Datum}
use Rattle.qvtr_semantics.specs.Outs.{datum_of}
use Rattle.qvtr_semantics.specs.Data.{is_among}
use Rattle.qvtr_semantics.specs.Objects.{Setting, ObjectClass, held_at, class_of, is_kind_of}
use Rattle.qvtr_semantics.specs.Expressions.{setting, value_for}

-- the values of the variables of a relation, by their places; nothing where a variable has none
abbrev pub Values : Type 0
Values = List (Option Datum)

abbrev pub value_at : Values → ℕ → Option Datum
value_at values v = slice_index_or values v None

-- ---- slots

abbrev pub is_empty_slot : Option (List Datum) → Bool
is_empty_slot None = false
is_empty_slot (Some ds) = length ds == 0

-- a single slot holds the datum; one of many values has it among its elements
abbrev pub has : Option (List Datum) → Option Datum → Bool
has (Some ds) (Some d) = is_among d ds
has ds d = false

-- ---- templates

-- whether an item holds of the object of the template around it
abbrev pub ItemMeaning : Type 0
ItemMeaning = Values → Datum → Bool

-- what is asked of a slot's content
abbrev pub SlotMeaning : Type 0
SlotMeaning = Values → Option (List Datum) → Bool

-- a template: its variable, and whether it matches
pub record Pattern : Type 0 where
  pub var : ℕ
  pub matches : Values → Bool

abbrev pub conforms : ℕ → Option ObjectClass → Bool
conforms class None = false
conforms class (Some c) = is_kind_of c.meta c.class class

-- the datum is a live object of the class or of one that inherits from it
abbrev pub is_of_class : Setting → ℕ → Datum → Bool
is_of_class s class d = conforms class (class_of s d)

abbrev pub object_matches : Setting → ℕ → List ItemMeaning → Values → Option Datum → Bool
object_matches s class items values None = false
object_matches s class items values (Some d) = is_of_class s class d && list_all (λ item. item values d) items

abbrev pub tmpl_meaning : Setting → of.Tmpl-F SlotMeaning ItemMeaning Pattern → Pattern
tmpl_meaning s t = record { var = t.var; matches = λ values. object_matches s t.class.0 t.items values (value_at values t.var) }

abbrev pub item_meaning : Setting → of.Item-F SlotMeaning ItemMeaning Pattern → ItemMeaning
item_meaning s i values d = i.value values (held_at s d i.prop.0)

-- null asks for an empty slot; a value that is null or invalid stands nowhere; an object that matches the template stands in the slot
abbrev pub slot_meaning : Program → List ModelData → of.ItemValue-F SlotMeaning ItemMeaning Pattern → SlotMeaning
slot_meaning program models of.Null values slot = is_empty_slot slot
slot_meaning program models (of.Expr e) values slot = has slot (datum_of (value_for program models e values))
slot_meaning program models (of.Nested t) values slot = has slot (value_at values t.var) && t.matches values

abbrev pub pattern : Program → List ModelData → Tmpl → Pattern
pattern program models = fold-Tmpl SlotMeaning ItemMeaning Pattern (slot_meaning program models) (item_meaning (setting program models)) (tmpl_meaning (setting program models))

-- the template matches
abbrev pub meets : Program → List ModelData → Tmpl → Values → Bool
meets program models t values = (pattern program models t).matches values
