-- The example's source models: packages of a hundred persistent classes each, the last one perhaps of fewer, and up to three
-- attributes in a class. Objects are numbered as they stand in a file: a package, then each of its classes with its attributes behind it.
use Rattle.std.specs.Prelude.{ℕ, ◌+◌, ◌-◌, ◌*◌, ◌/◌, ◌%◌, ◌==◌, min, if◌then◌else◌, List, [], ◌∷◌, ◌++◌, map, sum_by, codes, Option, Some}
use Rattle.std.specs.List.{flat_map, range_with_len}
use Rattle.std.specs.Fmt.{decimal}
use Rattle.object_tables.specs.declared.value.Value.TheVariants as values
use Rattle.object_tables.specs.Objects.{Object, Slot}
use Rattle.object_tables.specs.Models.{ModelData, no_slot}
use Rattle.example_models.specs.ClsTable.{cls_desc}

-- ---- names and identifiers

abbrev pub package_name : ℕ → List ℕ
package_name k = codes "p" ++ decimal k

abbrev pub class_name : ℕ → List ℕ
class_name i = codes "C" ++ decimal i

abbrev pub attribute_name : ℕ → List ℕ
attribute_name j = codes "a" ++ decimal j

-- an identifier is the object's name behind those of its containers, with a full stop between
abbrev pub inside : List ℕ → List ℕ → List ℕ
inside outer name = outer ++ 46 ∷ name

abbrev pub class_id : ℕ → List ℕ
class_id i = inside (package_name (i / 100)) (class_name i)

abbrev pub attribute_id : ℕ → ℕ → List ℕ
attribute_id i j = inside (class_id i) (attribute_name j)

-- ---- how many there are

-- one package for each hundred classes begun
abbrev pub package_count : ℕ → ℕ
package_count n = (n + 99) / 100

-- the classes of package k: those from 100 k on, as far as there are any
abbrev pub classes_in : ℕ → ℕ → ℕ
classes_in n k = min 100 (n - 100 * k)

-- the attributes of class i
abbrev pub attribute_count : ℕ → ℕ → ℕ
attribute_count seed i = (i + seed) % 4

-- the attributes of all classes before class i
abbrev pub attributes_before : ℕ → ℕ → ℕ
attributes_before seed i = sum_by (attribute_count seed) (range_with_len 0 i)

-- ---- the numbers of objects

-- before a package stand k others, their classes and the attributes of these
abbrev pub package_number : ℕ → ℕ → ℕ
package_number seed k = k + 100 * k + attributes_before seed (100 * k)

-- before a class stand its package and those before that, the classes before it and the attributes of these
abbrev pub class_number : ℕ → ℕ → ℕ
class_number seed i = i / 100 + 1 + i + attributes_before seed i

-- ---- objects

abbrev pub text_slot : List ℕ → Slot
text_slot text = record { values = values.Str text ∷ []; partners = [] }

abbrev pub link_slot : List ℕ → Slot
link_slot partners = record { values = []; partners = partners }

-- package k with so many classes: its name and its classes
abbrev pub package_object : ℕ → ℕ → ℕ → Object
package_object seed k classes = record {
  class = 1;
  id = package_name k;
  slots = text_slot (package_name k) ∷ link_slot (map (class_number seed) (range_with_len (100 * k) classes)) ∷ [];
}

-- class i with so many attributes: its name, owner, kind, parent, uses, usedBy and attrs
abbrev pub class_object : ℕ → ℕ → ℕ → Object
class_object seed i attributes = record {
  class = 2;
  id = class_id i;
  slots =
      text_slot (class_name i) ∷ link_slot (package_number seed (i / 100) ∷ []) ∷ text_slot (codes "persistent")
      ∷ no_slot ∷ no_slot ∷ no_slot ∷ link_slot (range_with_len (class_number seed i + 1) attributes) ∷ [];
}

-- the type of attribute j of class i
abbrev pub attribute_prim : ℕ → ℕ → ℕ → List ℕ
attribute_prim seed i j = if ((i + j + seed) % 2) == 0 then codes "Integer" else codes "String"

-- attribute j of class i: its name, owner, prim and ref
abbrev pub attribute_object : ℕ → ℕ → ℕ → Object
attribute_object seed i j = record {
  class = 3;
  id = attribute_id i j;
  slots = text_slot (attribute_name j) ∷ link_slot (class_number seed i ∷ []) ∷ text_slot (attribute_prim seed i j) ∷ no_slot ∷ [];
}

-- ---- the model

-- class i, and so many attributes of it
abbrev pub class_objects : ℕ → ℕ → ℕ → List (Option Object)
class_objects seed i attributes = Some (class_object seed i attributes) ∷ map (λ j. Some (attribute_object seed i j)) (range_with_len 0 attributes)

-- so many classes from class i on, each with its attributes
abbrev pub classes_objects : ℕ → ℕ → ℕ → List (Option Object)
classes_objects seed i classes = flat_map (λ i. class_objects seed i (attribute_count seed i)) (range_with_len i classes)

-- package k, and so many classes of it
abbrev pub package_objects : ℕ → ℕ → ℕ → List (Option Object)
package_objects seed k classes = Some (package_object seed k classes) ∷ classes_objects seed (100 * k) classes

-- so many packages
abbrev pub packages_objects : ℕ → ℕ → ℕ → List (Option Object)
packages_objects n seed packages = flat_map (λ k. package_objects seed k (classes_in n k)) (range_with_len 0 packages)

-- the source of n classes
abbrev pub source_data : ℕ → ℕ → ModelData
source_data n seed = record { meta = cls_desc; objects = packages_objects n seed (package_count n) }

-- how many objects it has
abbrev pub source_count : ℕ → ℕ → ℕ
source_count n seed = package_count n + n + attributes_before seed n
