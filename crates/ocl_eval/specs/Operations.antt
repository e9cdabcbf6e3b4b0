-- Operations on collections by what they take beside the collection.
use Rattle.std.specs.Prelude.{Bool, true, false}
use Rattle.qv_syntax.specs.declared.operation.CollectionOperation.{CollectionOperation}
use Rattle.qv_syntax.specs.declared.operation.CollectionOperation.TheVariants as of_collections
use Rattle.qvtr_semantics.specs.declared.datum.Datum.{Datum}
use Rattle.qvtr_semantics.specs.declared.out.Out.{Out}
use Rattle.qvtr_semantics.specs.declared.out.Out.TheVariants as outs
use Rattle.qvtr_semantics.specs.Outs.{Collection}
use Rattle.qvtr_semantics.specs.Collections as collections

-- those that only read the collection; the others make their result of it
abbrev pub is_reading : CollectionOperation → Bool
is_reading of_collections.Including = false
is_reading of_collections.Append = false
is_reading of_collections.Prepend = false
is_reading of_collections.Union = false
is_reading of_collections.AsSet = false
is_reading of_collections.AsBag = false
is_reading of_collections.AsSequence = false
is_reading of_collections.AsOrderedSet = false
is_reading operation = true

-- those that read, and take a single value
abbrev pub with_element : CollectionOperation → Collection → Datum → Out
with_element of_collections.Includes c d = collections.includes c d
with_element of_collections.Excludes c d = collections.excludes c d
with_element of_collections.Count c d = collections.count c d
with_element of_collections.Excluding c d = collections.excluding c d
with_element operation c d = outs.Invalid

-- those that bring a single value into the collection
abbrev pub grown_by : CollectionOperation → Collection → Datum → Out
grown_by of_collections.Including c d = collections.including c d
grown_by of_collections.Append c d = collections.append c d
grown_by of_collections.Prepend c d = collections.prepend c d
grown_by operation c d = outs.Invalid

-- those that read, and take another collection
abbrev pub with_other : CollectionOperation → Collection → Collection → Out
with_other of_collections.IncludesAll c e = collections.includes_all c e
with_other of_collections.ExcludesAll c e = collections.excludes_all c e
with_other of_collections.Intersection c e = collections.intersection c e
with_other operation c e = outs.Invalid
