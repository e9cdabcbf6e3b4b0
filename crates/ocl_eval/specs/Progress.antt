-- An iterator on its way over a collection: what it keeps of the values of its body so far, and what these give in the end.
use Rattle.std.specs.Prelude.{Bool, true, false, ◌&&◌, ◌==◌, not, nat_le, List, [], ◌∷◌, ◌++◌, length, map, Option, None, Some, if◌then◌else◌}
use Rattle.std.specs.List.{items_where_true, count_by, list_any}
use Rattle.qvtr_semantics.specs.declared.limits.TheConstants.{MAX_RESULT}
use Rattle.qv_syntax.specs.declared.operation.IteratorKind.{IteratorKind}
use Rattle.qv_syntax.specs.declared.operation.IteratorKind.TheVariants.{Select, Reject, Collect, Exists, ForAll, One, IsUnique}
use Rattle.qvtr_semantics.specs.declared.datum.Datum.{Datum}
use Rattle.qvtr_semantics.specs.declared.out.Out.{Out}
use Rattle.qvtr_semantics.specs.declared.out.Out.TheVariants as outs
use Rattle.qvtr_semantics.specs.Outs.{Collection, boolean_of, boolean, truth}
use Rattle.qvtr_semantics.specs.Truth.{and, or}
use Rattle.qvtr_semantics.specs.Equality.{is_defined}
use Rattle.qvtr_semantics.specs.Collections.{collection, bounded}
use Rattle.qvtr_semantics.specs.Iterators.{collected_kind, collected_from}
use Rattle.ocl_eval.specs.Order.{same_out}
use Rattle.ocl_eval.specs.declared.progress.Progress.{Progress}
use Rattle.ocl_eval.specs.declared.progress.Progress.TheVariants.{Conditions, Collected, AnyTrue, AllTrue, Values, Failed}

-- before the first element
abbrev pub begun : IteratorKind → Progress
begun Select = Conditions []
begun Reject = Conditions []
begun Collect = Collected []
begun Exists = AnyTrue (Some false)
begun ForAll = AllTrue (Some true)
begun One = Conditions []
begun IsUnique = Values []

abbrev pub with_condition : List Bool → Option Bool → Progress
with_condition bs None = Failed
with_condition bs (Some b) = Conditions (bs ++ b ∷ [])

-- no more than a result may have
abbrev pub with_elements : List Datum → Option (List Datum) → Progress
with_elements ds None = Failed
with_elements ds (Some es) = if nat_le (length (ds ++ es)) MAX_RESULT then Collected (ds ++ es) else Failed

-- after one more value of the body
abbrev pub advanced : Progress → Out → Progress
advanced (Conditions bs) x = with_condition bs (boolean_of x)
advanced (Collected ds) x = with_elements ds (collected_from x)
advanced (AnyTrue p) x = AnyTrue (or p (boolean_of x))
advanced (AllTrue p) x = AllTrue (and p (boolean_of x))
advanced (Values xs) x = if is_defined x then Values (xs ++ x ∷ []) else Failed
advanced Failed x = Failed

-- none of the list is one of those that were met, or stands there twice
abbrev pub all_new : List Out → List Out → Bool
all_new met [] = true
all_new met (x ∷ xs) = not (list_any (same_out x) met) && all_new (x ∷ met) xs

abbrev pub from_conditions : IteratorKind → Collection → List Bool → Out
from_conditions Select c bs = bounded c.kind (items_where_true bs c.elements)
from_conditions Reject c bs = bounded c.kind (items_where_true (map not bs) c.elements)
from_conditions One c bs = boolean (count_by (λ b. b) bs == 1)
from_conditions iterator c bs = outs.Invalid

-- after the last element
abbrev pub iterator_result : IteratorKind → Collection → Progress → Out
iterator_result iterator c (Conditions bs) = from_conditions iterator c bs
iterator_result iterator c (Collected ds) = collection (collected_kind c.kind) ds
iterator_result iterator c (AnyTrue p) = truth p
iterator_result iterator c (AllTrue p) = truth p
iterator_result iterator c (Values xs) = boolean (all_new [] xs)
iterator_result iterator c Failed = outs.Invalid
