-- Indexes of the objects of classes by their key values (QVT 1.3, section 7.10.2; that objects are looked up so is this engine's own).
use Rattle.std.specs.Prelude.{◌≡◌, ℕ, cond, List, map, Option, None, Some}
use Rattle.std.specs.List.{find}
use Rattle.std.specs.Option.{option_map, option_or}
use Rattle.std.specs.BTreeMap.{BTreeMap, get, is_at}
use Rattle.std.specs.Ordering.{nat_cmp}
use Rattle.mof_metamodel.specs.declared.desc.PropId.{PropId}
use Rattle.object_tables.specs.declared.value.ObjId.{ObjId}
use Rattle.object_tables.specs.Models.{ModelData}
use Rattle.qv_syntax.specs.declared.program.Program.{Program}
use Rattle.qvtr_semantics.specs.Objects.{extent_of}
use Rattle.repair_semantics.specs.Images.{holds_key, object_with_key}
use Rattle.repair_semantics.specs.TargetItems.{key_of}
use Rattle.term_table.specs.declared.numbered.NumberedValue.{NumberedValue}
use Rattle.term_table.specs.declared.numbered.NumberedTerm.{NumberedTerm}
use Rattle.term_table.specs.NumberOrder.{numbered_term_order}
use Rattle.term_images.specs.declared.class_index.ClassIndex.{ClassIndex}
use Rattle.term_images.specs.declared.class_index.ClassIndex.TheVariants.{Firsts, Objects}
use Rattle.term_images.specs.KeyReadings.{asked}

-- ---- objects by their numbers

abbrev pub number_of : ObjId → ℕ
number_of o = o.0

abbrev pub numbers_of : List ObjId → List ℕ
numbers_of os = map number_of os

-- ---- one class

-- the object of least number that conforms to the class and holds the values at its key
abbrev pub object_holding : Program → ModelData → ℕ → List NumberedValue → Option ℕ
object_holding program m class ws = object_with_key program m class (asked ws) (key_of program class)

-- the first of the objects that holds the values at the properties
abbrev pub first_holding : Program → ModelData → List PropId → List NumberedValue → List ℕ → Option ℕ
first_holding program m ps ws os = find (λ o. holds_key program m o ps (asked ws)) os

-- how values at the key of a class are looked up
abbrev pub table_key : ℕ → List NumberedValue → NumberedTerm
table_key class ws = record { class = record { 0 = class }; keys = ws }

-- what is looked up
abbrev pub first_at : BTreeMap NumberedTerm ObjId → ℕ → List NumberedValue → Option ℕ
first_at firsts class ws = option_map number_of (get numbered_term_order firsts (table_key class ws))

-- the object stands at its values afterwards, where none stood before
abbrev pub PutsFirst : NumberedTerm → ObjId → BTreeMap NumberedTerm ObjId → BTreeMap NumberedTerm ObjId → Type 0
PutsFirst key o before after =
    (q : NumberedTerm) → get numbered_term_order after q
    ≡ option_or (get numbered_term_order before q) (cond (is_at (numbered_term_order key) q) (Some o) None)

-- each list of values leads to the first of the objects that holds it
abbrev pub HasFirsts : Program → ModelData → ℕ → List PropId → List ℕ → BTreeMap NumberedTerm ObjId → Type 0
HasFirsts program m class ps os firsts = (ws : List NumberedValue) → first_at firsts class ws ≡ first_holding program m ps ws os

-- an index of the objects of the class: by key values, or all of them
abbrev pub IsIndexOf : Program → ModelData → ℕ → ClassIndex → Type 0
IsIndexOf program m class (Firsts firsts) = (ws : List NumberedValue) → first_at firsts class ws ≡ object_holding program m class ws
IsIndexOf program m class (Objects objects) = numbers_of objects ≡ extent_of m class

-- ---- all classes

-- each is an index of its class
abbrev pub AreIndexes : Program → ModelData → BTreeMap ℕ ClassIndex → Type 0
AreIndexes program m indexes = (class : ℕ) (index : ClassIndex) → get nat_cmp indexes class ≡ Some index → IsIndexOf program m class index
