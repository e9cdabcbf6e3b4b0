-- Iterators: what a collection and the values of the body, one for each element, give (OCL 2.4, section 11.9).
use Rattle.std.specs.Prelude.{Bool, ◌==◌, not, List, [], ◌∷◌, ◌++◌, map, Option, None, Some, if◌then◌else◌}
use Rattle.std.specs.List.{items_where_true, count_by}
use Rattle.qv_syntax.specs.declared.type_tree.Kind.{Kind}
use Rattle.qv_syntax.specs.declared.type_tree.Kind.TheVariants.{Set, Bag, Sequence, OrderedSet}
use Rattle.qv_syntax.specs.declared.operation.IteratorKind.{IteratorKind}
use Rattle.qv_syntax.specs.declared.operation.IteratorKind.TheVariants.{Select, Reject, Collect, Exists, ForAll, One, IsUnique}
use Rattle.qvtr_semantics.specs.declared.datum.Datum.{Datum}
use Rattle.qvtr_semantics.specs.declared.out.Out.{Out}
use Rattle.qvtr_semantics.specs.declared.out.Out.TheVariants as outs
use Rattle.qvtr_semantics.specs.Outs.{Collection, given, boolean_of, boolean, truth, all_given, and_then}
use Rattle.qvtr_semantics.specs.Truth.{all_of, some_of}
use Rattle.qvtr_semantics.specs.Equality.{is_defined, all_differ}
use Rattle.qvtr_semantics.specs.Collections.{collection, bounded}

-- the conditions, if each is true or false
abbrev pub conditions : List Out → Option (List Bool)
conditions results = all_given (map boolean_of results)

abbrev pub select : Collection → List Out → Out
select c results = given (conditions results) (λ bs. bounded c.kind (items_where_true bs c.elements))

abbrev pub reject : Collection → List Out → Out
reject c results = given (conditions results) (λ bs. bounded c.kind (items_where_true (map not bs) c.elements))

-- the kind of what is collected from a collection
abbrev pub collected_kind : Kind → Kind
collected_kind Set = Bag
collected_kind Bag = Bag
collected_kind Sequence = Sequence
collected_kind OrderedSet = Sequence

-- what a result adds to what is collected: a collection its elements, null nothing
abbrev pub collected_from : Out → Option (List Datum)
collected_from (outs.One d) = Some (d ∷ [])
collected_from (outs.Many k ds) = Some ds
collected_from outs.Null = Some []
collected_from outs.Invalid = None

abbrev pub all_collected : List Out → Option (List Datum)
all_collected [] = Some []
all_collected (x ∷ xs) = and_then (collected_from x) (λ ds. and_then (all_collected xs) (λ es. Some (ds ++ es)))

abbrev pub collect : Collection → List Out → Out
collect c results = given (all_collected results) (collection (collected_kind c.kind))

abbrev pub exists : List Out → Out
exists results = truth (some_of (map boolean_of results))

abbrev pub for_all : List Out → Out
for_all results = truth (all_of (map boolean_of results))

-- exactly one condition is true
abbrev pub one : List Out → Out
one results = given (conditions results) (λ bs. boolean (count_by (λ b. b) bs == 1))

-- the result, if it is neither null nor invalid
abbrev pub defined : Out → Option Out
defined x = if is_defined x then Some x else None

-- all results are different
abbrev pub is_unique : List Out → Out
is_unique results = given (all_given (map defined results)) (λ xs. boolean (all_differ xs))

abbrev pub iterated : IteratorKind → Collection → List Out → Out
iterated Select c results = select c results
iterated Reject c results = reject c results
iterated Collect c results = collect c results
iterated Exists c results = exists results
iterated ForAll c results = for_all results
iterated One c results = one results
iterated IsUnique c results = is_unique results
