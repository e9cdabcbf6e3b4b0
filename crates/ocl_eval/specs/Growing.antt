-- Elements that are brought into a collection.
use Rattle.std.specs.Prelude.{Bool, true, List, ◌++◌, Option, None, Some, if◌then◌else◌}
use Rattle.qv_syntax.specs.declared.type_tree.Kind.{Kind}
use Rattle.qvtr_semantics.specs.declared.datum.Datum.{Datum}
use Rattle.qvtr_semantics.specs.declared.out.Out.{Out}
use Rattle.qvtr_semantics.specs.declared.out.Out.TheVariants as outs
use Rattle.qvtr_semantics.specs.Equality.{same_kind}
use Rattle.qvtr_semantics.specs.Outs.{Collection}
use Rattle.qvtr_semantics.specs.Collections.{collection}

-- elements of a collection come into one of its kind alone, others into any
abbrev pub fits : Option Kind → Kind → Bool
fits None kind = true
fits (Some other) kind = same_kind kind other

-- the collection with more elements
abbrev pub grown : Option Kind → List Datum → Collection → Out
grown only more c = if fits only c.kind then collection c.kind (c.elements ++ more) else outs.Invalid
