-- Collections and their operations (OCL 2.4, sections 11.6 and 11.7). A collection is a kind and the list of its elements; what an
-- operation gives is told by a list, of which the kind keeps what it keeps.
use Rattle.std.specs.Prelude.{ℕ, Bool, true, false, ◌==◌, ◌-◌, not, nat_le, pos, ℤ, List, [], ◌∷◌, ◌++◌, length, Option, None, slice_get, if◌then◌else◌}
use Rattle.std.specs.List.{filter, list_all, last_or, count_by}
use Rattle.qvtr_semantics.specs.declared.limits.TheConstants.{MAX_RESULT}
use Rattle.qv_syntax.specs.declared.type_tree.Kind.{Kind}
use Rattle.qv_syntax.specs.declared.type_tree.Kind.TheVariants.{Set, Bag, Sequence, OrderedSet}
use Rattle.qvtr_semantics.specs.declared.datum.Datum.{Datum}
use Rattle.qvtr_semantics.specs.declared.out.Out.{Out}
use Rattle.qvtr_semantics.specs.declared.out.Out.TheVariants as outs
use Rattle.qvtr_semantics.specs.Data.{same_datum, is_among, in_order, distinct}
use Rattle.qvtr_semantics.specs.Outs.{Collection, given, natural, boolean}
use Rattle.qvtr_semantics.specs.Integers.{integer}
use Rattle.qvtr_semantics.specs.Equality.{same_kind}

-- what a kind of collection keeps of a list: a Set and an OrderedSet no repeat, a Set and a Bag no order
abbrev pub kept : Kind → List Datum → List Datum
kept Set ds = in_order (distinct ds)
kept Bag ds = in_order ds
kept Sequence ds = ds
kept OrderedSet ds = distinct ds

-- a collection of at most so many elements as a result may have
abbrev pub bounded : Kind → List Datum → Out
bounded kind ds = if nat_le (length ds) MAX_RESULT then outs.Many kind ds else outs.Invalid

-- the collection of these elements
abbrev pub collection : Kind → List Datum → Out
collection kind ds = bounded kind (kept kind ds)

-- Sequences and OrderedSets have an order
abbrev pub is_ordered : Kind → Bool
is_ordered Set = false
is_ordered Bag = false
is_ordered Sequence = true
is_ordered OrderedSet = true

abbrev pub without : Datum → List Datum → List Datum
without d ds = filter (λ e. not (same_datum d e)) ds

abbrev pub size : Collection → Out
size c = integer (pos (length c.elements))

abbrev pub is_empty : Collection → Out
is_empty c = boolean (length c.elements == 0)

abbrev pub not_empty : Collection → Out
not_empty c = boolean (not (length c.elements == 0))

abbrev pub includes : Collection → Datum → Out
includes c d = boolean (is_among d c.elements)

abbrev pub excludes : Collection → Datum → Out
excludes c d = boolean (not (is_among d c.elements))

abbrev pub includes_all : Collection → Collection → Out
includes_all c e = boolean (list_all (λ d. is_among d c.elements) e.elements)

abbrev pub excludes_all : Collection → Collection → Out
excludes_all c e = boolean (list_all (λ d. not (is_among d c.elements)) e.elements)

abbrev pub count : Collection → Datum → Out
count c d = integer (pos (count_by (same_datum d) c.elements))

-- the new element goes last; in a Set or an OrderedSet one that is present stays
abbrev pub including : Collection → Datum → Out
including c d = collection c.kind (c.elements ++ d ∷ [])

-- without each occurrence
abbrev pub excluding : Collection → Datum → Out
excluding c d = bounded c.kind (without d c.elements)

-- of two collections of one kind
abbrev pub union : Collection → Collection → Out
union c e = if same_kind c.kind e.kind then collection c.kind (c.elements ++ e.elements) else outs.Invalid

abbrev pub intersection_of : List Datum → Kind → List Datum → Kind → Out
intersection_of ds Set es Set = bounded Set (filter (λ d. is_among d es) ds)
intersection_of ds k es l = outs.Invalid

-- of two Sets
abbrev pub intersection : Collection → Collection → Out
intersection c e = intersection_of c.elements c.kind e.elements e.kind

-- the elements as a collection of another kind
abbrev pub as_kind : Kind → Collection → Out
as_kind kind c = collection kind c.elements

-- the element, if there is one, of a collection with an order
abbrev pub element : Kind → Option Datum → Out
element kind d = if is_ordered kind then given d outs.One else outs.Invalid

abbrev pub first : Collection → Out
first c = element c.kind (slice_get c.elements 0)

abbrev pub last : Collection → Out
last c = element c.kind (last_or None c.elements)

-- the element at a place that is counted from 1
abbrev pub element_at : List Datum → ℕ → Option Datum
element_at ds i = if i == 0 then None else slice_get ds (i - 1)

abbrev pub at : Collection → ℤ → Out
at c i = given (natural i) (λ n. element c.kind (element_at c.elements n))

-- an element that an OrderedSet has moves to the new end
abbrev pub appended : Kind → List Datum → Datum → Out
appended Sequence ds d = bounded Sequence (ds ++ d ∷ [])
appended OrderedSet ds d = bounded OrderedSet (without d ds ++ d ∷ [])
appended kind ds d = outs.Invalid

abbrev pub append : Collection → Datum → Out
append c d = appended c.kind c.elements d

abbrev pub prepended : Kind → List Datum → Datum → Out
prepended Sequence ds d = bounded Sequence (d ∷ ds)
prepended OrderedSet ds d = bounded OrderedSet (d ∷ without d ds)
prepended kind ds d = outs.Invalid

abbrev pub prepend : Collection → Datum → Out
prepend c d = prepended c.kind c.elements d
