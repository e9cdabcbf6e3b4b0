-- Images of terms by those of the terms among their key values, which have lesser numbers in a table.
use Rattle.std.specs.Prelude.{ℕ, List, map, Option, Some, None, slice_index_or}
use Rattle.std.specs.Option.{option_map, option_and_then}
use Rattle.object_tables.specs.declared.value.ObjId.{ObjId}
use Rattle.object_tables.specs.Models.{ModelData}
use Rattle.qv_syntax.specs.declared.program.Program.{Program}
use Rattle.qvtr_semantics.specs.Outs.{all_given}
use Rattle.term_table.specs.declared.numbered.NumberedValue.{NumberedValue}
use Rattle.term_table.specs.declared.numbered.NumberedValue.TheVariants as numbered
use Rattle.term_table.specs.declared.numbered.NumberedTerm.{NumberedTerm}
use Rattle.term_images.specs.ClassIndexes.{number_of, object_holding}

-- images by the numbers of objects
abbrev pub image_numbers : List (Option ObjId) → List (Option ℕ)
image_numbers found = map (option_map number_of) found

-- an object by its number
abbrev pub object_value : ObjId → NumberedValue
object_value o = numbered.Term (number_of o)

-- a key value with the image of its term
abbrev pub key_image : List (Option ObjId) → NumberedValue → Option NumberedValue
key_image found (numbered.Val d) = Some (numbered.Val d)
key_image found (numbered.Term n) = option_map object_value (slice_index_or found n None)

-- the key values with the images of their terms, if each has one
abbrev pub key_images : List (Option ObjId) → List NumberedValue → Option (List NumberedValue)
key_images found keys = all_given (map (key_image found) keys)

-- the image of a term by those of its key values
abbrev pub image_by : Program → ModelData → List (Option ObjId) → NumberedTerm → Option ℕ
image_by program m found t = option_and_then (object_holding program m t.class.0) (key_images found t.keys)
