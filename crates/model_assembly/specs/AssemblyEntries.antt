-- What a file writes at references, in the order of objects, in an object in the class order of its properties, and at a property in the
-- order in which it is written (UML 2.5.1, 9.9.17: properties in the order of their classifiers).
use Rattle.std.specs.Prelude.{◌≡◌, ◌&&◌, ◌==◌, ℕ, suc, ◌+◌, ◌<◌, ◌≤◌, Bool, true, List, [], ◌∷◌, length, filter, slice_get, slice_index_or, Contains, IsPermutation, Option, None, Some}
use Rattle.std.specs.List.Sorted.{IsNonDecreasingBy}
use Rattle.mof_metamodel.specs.declared.desc.MetaDesc.{MetaDesc}
use Rattle.mof_metamodel.specs.declared.desc.ClassId.{ClassId}
use Rattle.mof_metamodel.specs.Metamodels.{props_of, type_of}
use Rattle.object_tables.specs.Models.{slot_number, is_class_type}
use Rattle.model_assembly.specs.declared.filed.WrittenReference.{WrittenReference}
use Rattle.model_assembly.specs.declared.assembly.entry.Entry.{Entry}

-- the class of an object
abbrev pub class_in : List ClassId → ℕ → ClassId
class_in classes o = slice_index_or classes o (record { 0 = 0 })

-- the property is a reference of the object's class
pub record IsReferenceAt (meta : MetaDesc) (classes : List ClassId) (o p : ℕ) : Type 0 where
  pub object : o < length classes
  pub has : Contains (props_of meta (class_in classes o).0) p
  pub class_type : is_class_type (type_of meta p) ≡ true

abbrev pub entry_of : MetaDesc → List ClassId → ℕ → WrittenReference → Entry
entry_of meta classes n r =
    record { object = r.object; place = slot_number meta (class_in classes r.object).0 r.property.0; property = r.property; target = r.target; written = n }

abbrev pub entries_from : MetaDesc → List ClassId → ℕ → List WrittenReference → List Entry
entries_from meta classes n [] = []
entries_from meta classes n (r ∷ rs) = entry_of meta classes n r ∷ entries_from meta classes (suc n) rs

abbrev pub is_entry_at : ℕ → ℕ → Entry → Bool
is_entry_at o k e = (e.object == o) && (e.place == k)

abbrev pub no_entry : Entry
no_entry = record { object = 0; place = 0; property = record { 0 = 0 }; target = None; written = 0 }

abbrev pub entry_at : List Entry → ℕ → Entry
entry_at xs i = slice_index_or xs i no_entry

-- the entries in order
pub record IsInOrder (xs ys : List Entry) : Type 0 where
  pub same : IsPermutation xs ys
  pub objects : IsNonDecreasingBy (λ (e : Entry). e.object) ys
  pub places : (k : ℕ) (d : Entry) → k + 1 < length ys → (slice_index_or ys k d).object ≡ (slice_index_or ys (k + 1) d).object
      → (slice_index_or ys k d).place ≤ (slice_index_or ys (k + 1) d).place
  pub kept : (o k : ℕ) → filter (is_entry_at o k) ys ≡ filter (is_entry_at o k) xs

-- how what is written at a number of a list is printed
abbrev pub text_or_none : Option WrittenReference → List ℕ
text_or_none None = []
text_or_none (Some r) = r.text

abbrev pub written_text : List WrittenReference → ℕ → List ℕ
written_text rs n = text_or_none (slice_get rs n)
