-- No operation gives an object of the target that its parts don't have.
use Rattle.std.specs.Prelude.{◌==◌, ◌&&◌, ◌+◌, ◌-◌, ◌+ℤ◌, ◌-ℤ◌, ◌*ℤ◌, neg_ℤ, nat_abs, int_div, int_rem, codes, take, drop, ℕ, zero, suc, ℤ, pos, Bool, true, false, not, nat_le, List, [], ◌∷◌, ◌++◌, map, length, Option, None, Some, slice_get, if◌then◌else◌}
use Rattle.std.specs.Fmt.{signed_decimal}
use Rattle.std.specs.Int.{int_min, int_max}
use Rattle.std.specs.List.{AllByRecursion, count_by}
use Rattle.std.specs.Ordering.{int_eq}
use Rattle.std.specs.Option.{option_map}
use Rattle.qvtr_semantics.specs.declared.limits.TheConstants.{MAX_RESULT}
use Rattle.qv_syntax.specs.declared.operator.Operator.{Operator}
use Rattle.qv_syntax.specs.declared.operator.Operator.TheVariants as operators
use Rattle.qv_syntax.specs.declared.operation.Operation.{Operation}
use Rattle.qv_syntax.specs.declared.operation.Operation.TheVariants as operations
use Rattle.qv_syntax.specs.declared.operation.CollectionOperation.{CollectionOperation}
use Rattle.qv_syntax.specs.declared.operation.CollectionOperation.TheVariants as of_collections
use Rattle.qv_syntax.specs.declared.operation.IteratorKind.{IteratorKind}
use Rattle.qv_syntax.specs.declared.operation.IteratorKind.TheVariants as iterators
use Rattle.qv_syntax.specs.declared.type_tree.Kind.{Kind}
use Rattle.qv_syntax.specs.declared.type_tree.Kind.TheVariants as kinds
use Rattle.qv_syntax.specs.declared.typed.Values.{Values}
use Rattle.qv_syntax.specs.declared.typed.Values.TheVariants as gives
use Rattle.qvtr_semantics.specs.declared.datum.Datum.{Datum}
use Rattle.qvtr_semantics.specs.declared.out.Out.{Out}
use Rattle.qvtr_semantics.specs.declared.out.Out.TheVariants as outs
use Rattle.qvtr_semantics.specs.Outs.{Collection, and_then, given, datum_of, integer_of, integer_of_datum, string_of, boolean_of, collection_of, natural, truth, string, all_given}
use Rattle.qvtr_semantics.specs.Integers as integers
use Rattle.qvtr_semantics.specs.Strings as strings
use Rattle.qvtr_semantics.specs.Equality.{same_kind}
use Rattle.qvtr_semantics.specs.Data.{same_datum, is_among}
use Rattle.qvtr_semantics.specs.Collections as collections
use Rattle.qvtr_semantics.specs.Iterators.{iterated, collect, conditions, collected_from, all_collected, collected_kind, defined}
use Rattle.qvtr_semantics.specs.Objects.{navigated}
use Rattle.qvtr_semantics.specs.Expressions.{on_integers, on_strings, result, or_else, operated, negation, negated, chosen, literal, is_undefined, is_invalid, singleton, argument, operation, with_datum, with_collection, on_collection}
use Rattle.source_laws.specs.SourceValues.{IsOfSources, HasNoTarget}
use Rattle.source_laws.proofs.DataLaws.{AllOfSources, IfOfSources, all_joined, all_filtered, all_chosen, all_in_order, all_kept, at_place, at_last}

module _ (t : ℕ) where
  abbrev Apart : Out → Type 0
  Apart = HasNoTarget t

  abbrev pub AllApart : List Out → Type 0
  AllApart = AllByRecursion (HasNoTarget t)

  abbrev pub IfApart : Option Out → Type 0
  IfApart None = Unit {0}
  IfApart (Some x) = HasNoTarget t x

  -- ---- what is given, one of two, and the values of data types

  pub given_apart : {X : Type 0} (o : Option X) (f : X → Out) → ((x : X) → Apart (f x)) → Apart (given o f)
  given_apart None f p = tt
  given_apart (Some x) f p = p x

  pub if_apart : (b : Bool) (x y : Out) → Apart x → Apart y → Apart (if b then x else y)
  if_apart true x y p q = p
  if_apart false x y p q = q

  truth_apart : (b : Option Bool) → Apart (truth b)
  truth_apart None = tt
  truth_apart (Some b) = tt

  pub integer_apart : (i : ℤ) → Apart (integers.integer i)
  integer_apart i = if_apart (integers.is_integer i) _ outs.Invalid tt tt

  string_apart : (s : List ℕ) → Apart (string s)
  string_apart s = if_apart (nat_le (length s) MAX_RESULT) _ outs.Invalid tt tt

  result_apart : (o : Option Out) → IfApart o → Apart (result o)
  result_apart None p = tt
  result_apart (Some x) p = p

  either_apart : (o p : Option Out) → IfApart o → IfApart p → Apart (or_else o p)
  either_apart None p a b = result_apart p b
  either_apart (Some x) p a b = a

  mapped : {X : Type 0} (o : Option X) (f : X → Out) → ((x : X) → Apart (f x)) → IfApart (option_map f o)
  mapped None f p = tt
  mapped (Some x) f p = p x

  then_mapped : {X Y : Type 0} (o : Option X) (q : Option Y) (f : X → Y → Out) → ((x : X) (y : Y) → Apart (f x y)) → IfApart (and_then o (λ x. option_map (f x) q))
  then_mapped None q f p = tt
  then_mapped (Some x) q f p = mapped q (f x) (p x)

  on_integers_apart : (f : ℤ → ℤ → Out) (x y : Out) → ((i j : ℤ) → Apart (f i j)) → IfApart (on_integers f x y)
  on_integers_apart f x y p = then_mapped (integer_of x) (integer_of y) f p

  on_strings_apart : (f : List ℕ → List ℕ → Out) (x y : Out) → ((s u : List ℕ) → Apart (f s u)) → IfApart (on_strings f x y)
  on_strings_apart f x y p = then_mapped (string_of x) (string_of y) f p

  -- ---- operators

  pub operated_apart : (o : Operator) (x y : Out) → Apart (operated o x y)
  operated_apart operators.Implies x y = truth_apart _
  operated_apart operators.Xor x y = truth_apart _
  operated_apart operators.Or x y = truth_apart _
  operated_apart operators.And x y = truth_apart _
  operated_apart operators.Equal x y = truth_apart _
  operated_apart operators.NotEqual x y = truth_apart _
  operated_apart operators.Less x y = truth_apart _
  operated_apart operators.Greater x y = truth_apart _
  operated_apart operators.AtMost x y = truth_apart _
  operated_apart operators.AtLeast x y = truth_apart _
  operated_apart operators.Plus x y =
      either_apart (on_integers integers.plus x y) (on_strings strings.concatenated x y) (on_integers_apart integers.plus x y (λ i j. integer_apart (i +ℤ j)))
      (on_strings_apart strings.concatenated x y (λ s u. string_apart (s ++ u)))
  operated_apart operators.Minus x y = result_apart (on_integers integers.minus x y) (on_integers_apart integers.minus x y (λ i j. integer_apart (i -ℤ j)))
  operated_apart operators.Times x y = result_apart (on_integers integers.times x y) (on_integers_apart integers.times x y (λ i j. integer_apart (i *ℤ j)))

  pub negation_apart : (x : Out) → Apart (negation x)
  negation_apart x = truth_apart _

  pub negated_apart : (x : Out) → Apart (negated x)
  negated_apart x = given_apart (integer_of x) integers.negated (λ i. integer_apart (neg_ℤ i))

  pub chosen_apart : (b : Option Bool) (x y : Out) → Apart x → Apart y → Apart (chosen b x y)
  chosen_apart None x y p q = tt
  chosen_apart (Some true) x y p q = p
  chosen_apart (Some false) x y p q = q

  -- ---- a single datum, and an argument

  pub datum_apart : (x : Out) → Apart x → IfOfSources t (datum_of x)
  datum_apart (outs.One d) p = p
  datum_apart (outs.Many k ds) p = tt
  datum_apart outs.Null p = tt
  datum_apart outs.Invalid p = tt

  with_datum_by : (o : Option Datum) (f : Datum → Out) → IfOfSources t o → ((d : Datum) → IsOfSources t d → Apart (f d)) → Apart (given o f)
  with_datum_by None f p q = tt
  with_datum_by (Some d) f p q = q d p

  pub with_datum_apart : (x : Out) (f : Datum → Out) → Apart x → ((d : Datum) → IsOfSources t d → Apart (f d)) → Apart (with_datum x f)
  with_datum_apart x f p q = with_datum_by (datum_of x) f (datum_apart x p) q

  pub with_collection_apart : (x : Out) (f : Collection → Out) → Apart x → ((c : Collection) → AllOfSources t c.elements → Apart (f c)) → Apart (with_collection x f)
  with_collection_apart (outs.One d) f p q = tt
  with_collection_apart (outs.Many k ds) f p q = q (record { kind = k; elements = ds }) p
  with_collection_apart outs.Null f p q = tt
  with_collection_apart outs.Invalid f p q = tt

  pub argument_apart : (xs : List Out) (i : ℕ) → AllApart xs → Apart (argument xs i)
  argument_apart [] i p = tt
  argument_apart (x ∷ xs) zero p = p.0
  argument_apart (x ∷ xs) (suc i) p = argument_apart xs i p.1

  -- ---- collections

  bounded_apart : (kind : Kind) (ds : List Datum) → AllOfSources t ds → Apart (collections.bounded kind ds)
  bounded_apart kind ds p = if_apart (nat_le (length ds) MAX_RESULT) (outs.Many kind ds) outs.Invalid p tt

  collection_apart : (kind : Kind) (ds : List Datum) → AllOfSources t ds → Apart (collections.collection kind ds)
  collection_apart kind ds p = bounded_apart kind (collections.kept kind ds) (all_kept t kind ds p)

  -- the elements, if none is missing
  IfAll : Option (List Datum) → Type 0
  IfAll None = Unit {0}
  IfAll (Some ds) = AllOfSources t ds

  one_more : (d : Datum) (o : Option (List Datum)) → IsOfSources t d → IfAll o → IfAll (option_map (λ ds. d ∷ ds) o)
  unfolding IfAll
  one_more d None p q = tt
  one_more d (Some ds) p q = (p, q)

  all_given_by : (o : Option Datum) (os : List (Option Datum)) → IfOfSources t o → IfAll (all_given os) → IfAll (all_given (o ∷ os))
  unfolding IfAll
  all_given_by None os p q = tt
  all_given_by (Some d) os p q = one_more d (all_given os) p q

  all_data : (xs : List Out) → AllApart xs → IfAll (all_given (map datum_of xs))
  unfolding IfAll
  all_data [] p = tt
  all_data (x ∷ xs) p = all_given_by (datum_of x) (map datum_of xs) (datum_apart x p.0) (all_data xs p.1)

  given_all : (o : Option (List Datum)) (f : List Datum → Out) → IfAll o → ((ds : List Datum) → AllOfSources t ds → Apart (f ds)) → Apart (given o f)
  unfolding IfAll
  given_all None f p q = tt
  given_all (Some ds) f p q = q ds p

  pub literal_apart : (kind : Kind) (xs : List Out) → AllApart xs → Apart (literal kind xs)
  literal_apart kind xs p = given_all (all_given (map datum_of xs)) (collections.collection kind) (all_data xs p) (λ ds q. collection_apart kind ds q)

  element_by : (o : Option Datum) → IfOfSources t o → Apart (given o outs.One)
  element_by None p = tt
  element_by (Some d) p = p

  element_apart : (kind : Kind) (o : Option Datum) → IfOfSources t o → Apart (collections.element kind o)
  element_apart kind o p = if_apart (collections.is_ordered kind) (given o outs.One) outs.Invalid (element_by o p) tt

  none_or : (b : Bool) (o : Option Datum) → IfOfSources t o → IfOfSources t (if b then None else o)
  none_or true o p = tt
  none_or false o p = p

  intersection_apart : (ds : List Datum) (k : Kind) (es : List Datum) (l : Kind) → AllOfSources t ds → Apart (collections.intersection_of ds k es l)
  intersection_apart ds kinds.Set es kinds.Set p = bounded_apart kinds.Set _ (all_filtered t (λ d. is_among d es) ds p)
  intersection_apart ds kinds.Set es kinds.Bag p = tt
  intersection_apart ds kinds.Set es kinds.Sequence p = tt
  intersection_apart ds kinds.Set es kinds.OrderedSet p = tt
  intersection_apart ds kinds.Bag es l p = tt
  intersection_apart ds kinds.Sequence es l p = tt
  intersection_apart ds kinds.OrderedSet es l p = tt

  without_apart : (d : Datum) (ds : List Datum) → AllOfSources t ds → AllOfSources t (collections.without d ds)
  without_apart d ds p = all_filtered t (λ e. not (same_datum d e)) ds p

  appended_apart : (kind : Kind) (ds : List Datum) (d : Datum) → AllOfSources t ds → IsOfSources t d → Apart (collections.appended kind ds d)
  appended_apart kinds.Set ds d p q = tt
  appended_apart kinds.Bag ds d p q = tt
  appended_apart kinds.Sequence ds d p q = bounded_apart kinds.Sequence (ds ++ d ∷ []) (all_joined t ds (d ∷ []) p (q, tt))
  appended_apart kinds.OrderedSet ds d p q =
      bounded_apart kinds.OrderedSet (collections.without d ds ++ d ∷ []) (all_joined t (collections.without d ds) (d ∷ []) (without_apart d ds p) (q, tt))

  prepended_apart : (kind : Kind) (ds : List Datum) (d : Datum) → AllOfSources t ds → IsOfSources t d → Apart (collections.prepended kind ds d)
  prepended_apart kinds.Set ds d p q = tt
  prepended_apart kinds.Bag ds d p q = tt
  prepended_apart kinds.Sequence ds d p q = bounded_apart kinds.Sequence (d ∷ ds) (q, p)
  prepended_apart kinds.OrderedSet ds d p q = bounded_apart kinds.OrderedSet (d ∷ collections.without d ds) (q, without_apart d ds p)

  sum_apart : (ds : List Datum) (s : ℤ) → Apart (integers.sum_onto s ds)
  sum_apart [] s = integer_apart s
  sum_apart (d ∷ ds) s = given_apart (integer_of_datum d) _ (λ i. if_apart (integers.is_integer (s +ℤ i)) (integers.sum_onto (s +ℤ i) ds) outs.Invalid (sum_apart ds (s +ℤ i)) tt)

  pub on_collection_apart : (o : CollectionOperation) (c : Collection) (args : List Out) → AllOfSources t c.elements → AllApart args → Apart (on_collection o c args)
  on_collection_apart of_collections.Size c args p q = integer_apart (pos (length c.elements))
  on_collection_apart of_collections.IsEmpty c args p q = tt
  on_collection_apart of_collections.NotEmpty c args p q = tt
  on_collection_apart of_collections.Includes c args p q = given_apart (datum_of (argument args 0)) (collections.includes c) (λ d. tt)
  on_collection_apart of_collections.Excludes c args p q = given_apart (datum_of (argument args 0)) (collections.excludes c) (λ d. tt)
  on_collection_apart of_collections.IncludesAll c args p q = given_apart (collection_of (argument args 0)) (collections.includes_all c) (λ e. tt)
  on_collection_apart of_collections.ExcludesAll c args p q = given_apart (collection_of (argument args 0)) (collections.excludes_all c) (λ e. tt)
  on_collection_apart of_collections.Count c args p q = given_apart (datum_of (argument args 0)) (collections.count c) (λ d. integer_apart (pos (count_by (same_datum d) c.elements)))
  on_collection_apart of_collections.Sum c args p q = sum_apart c.elements (pos 0)
  on_collection_apart of_collections.Including c args p q =
      with_datum_apart (argument args 0) (collections.including c) (argument_apart args 0 q)
      (λ d r. collection_apart c.kind (c.elements ++ d ∷ []) (all_joined t c.elements (d ∷ []) p (r, tt)))
  on_collection_apart of_collections.Excluding c args p q =
      given_apart (datum_of (argument args 0)) (collections.excluding c) (λ d. bounded_apart c.kind (collections.without d c.elements) (without_apart d c.elements p))
  on_collection_apart of_collections.Union c args p q =
      with_collection_apart (argument args 0) (collections.union c) (argument_apart args 0 q)
      (λ e r. if_apart (same_kind c.kind e.kind) (collections.collection c.kind (c.elements ++ e.elements)) outs.Invalid
      (collection_apart c.kind (c.elements ++ e.elements) (all_joined t c.elements e.elements p r)) tt)
  on_collection_apart of_collections.Intersection c args p q =
      given_apart (collection_of (argument args 0)) (collections.intersection c) (λ e. intersection_apart c.elements c.kind e.elements e.kind p)
  on_collection_apart of_collections.AsSet c args p q = collection_apart kinds.Set c.elements p
  on_collection_apart of_collections.AsBag c args p q = collection_apart kinds.Bag c.elements p
  on_collection_apart of_collections.AsSequence c args p q = collection_apart kinds.Sequence c.elements p
  on_collection_apart of_collections.AsOrderedSet c args p q = collection_apart kinds.OrderedSet c.elements p
  on_collection_apart of_collections.First c args p q = element_apart c.kind (slice_get c.elements 0) (at_place t c.elements 0 p)
  on_collection_apart of_collections.Last c args p q = element_apart c.kind _ (at_last t c.elements None tt p)
  on_collection_apart of_collections.At c args p q =
      given_apart (integer_of (argument args 0)) (collections.at c) (λ i. given_apart (natural i) (λ n. collections.element c.kind (collections.element_at c.elements n))
      (λ n. element_apart c.kind (collections.element_at c.elements n) (none_or (n == 0) (slice_get c.elements (n - 1)) (at_place t c.elements (n - 1) p))))
  on_collection_apart of_collections.Append c args p q =
      with_datum_apart (argument args 0) (collections.append c) (argument_apart args 0 q) (λ d r. appended_apart c.kind c.elements d p r)
  on_collection_apart of_collections.Prepend c args p q =
      with_datum_apart (argument args 0) (collections.prepend c) (argument_apart args 0 q) (λ d r. prepended_apart c.kind c.elements d p r)

  -- ---- operations on single values

  singleton_apart : (x : Out) → Apart x → Apart (singleton x)
  singleton_apart (outs.One d) p = (p, tt)
  singleton_apart (outs.Many k ds) p = tt
  singleton_apart outs.Null p = tt
  singleton_apart outs.Invalid p = tt

  undefined_apart : (x : Out) → Apart (is_undefined x)
  undefined_apart (outs.One d) = tt
  undefined_apart (outs.Many k ds) = tt
  undefined_apart outs.Null = tt
  undefined_apart outs.Invalid = tt

  invalid_apart : (x : Out) → Apart (is_invalid x)
  invalid_apart (outs.One d) = tt
  invalid_apart (outs.Many k ds) = tt
  invalid_apart outs.Null = tt
  invalid_apart outs.Invalid = tt

  boolean_text_apart : (b : Bool) → Apart (strings.boolean_text b)
  boolean_text_apart true = string_apart (codes "true")
  boolean_text_apart false = string_apart (codes "false")

  part_apart : (s : List ℕ) (l u : ℕ) → Apart (strings.part_between s l u)
  part_apart s l u =
      if_apart (nat_le 1 l && nat_le l u && nat_le u (length s)) (string (take (u + 1 - l) (drop (l - 1) s))) outs.Invalid (string_apart (take (u + 1 - l) (drop (l - 1) s))) tt

  pub operation_apart : (o : Operation) (x : Out) (args : List Out) → Apart x → Apart (operation o x args)
  operation_apart operations.Absolute x args p = given_apart (integer_of x) integers.absolute (λ i. integer_apart (pos (nat_abs i)))
  operation_apart operations.Divide x args p =
      result_apart (on_integers integers.quotient x (argument args 0)) (on_integers_apart integers.quotient x (argument args 0) (λ i j. if_apart (int_eq j (pos 0)) outs.Invalid (integers.integer (int_div i j)) tt (integer_apart (int_div i j))))
  operation_apart operations.Modulo x args p =
      result_apart (on_integers integers.remainder x (argument args 0)) (on_integers_apart integers.remainder x (argument args 0) (λ i j. if_apart (int_eq j (pos 0)) outs.Invalid (integers.integer (int_rem i j)) tt (integer_apart (int_rem i j))))
  operation_apart operations.Maximum x args p =
      result_apart (on_integers integers.maximum x (argument args 0)) (on_integers_apart integers.maximum x (argument args 0) (λ i j. integer_apart (int_max i j)))
  operation_apart operations.Minimum x args p =
      result_apart (on_integers integers.minimum x (argument args 0)) (on_integers_apart integers.minimum x (argument args 0) (λ i j. integer_apart (int_min i j)))
  operation_apart operations.ToString x args p =
      either_apart (option_map strings.integer_text (integer_of x)) (option_map strings.boolean_text (boolean_of x))
      (mapped (integer_of x) strings.integer_text (λ i. string_apart (signed_decimal i))) (mapped (boolean_of x) strings.boolean_text boolean_text_apart)
  operation_apart operations.Length x args p = given_apart (string_of x) strings.size (λ s. integer_apart (pos (length s)))
  operation_apart operations.Concatenate x args p =
      result_apart (on_strings strings.concatenated x (argument args 0)) (on_strings_apart strings.concatenated x (argument args 0) (λ s u. string_apart (s ++ u)))
  operation_apart operations.ToInteger x args p =
      given_apart (string_of x) strings.to_integer (λ s. given_apart (strings.spelled_integer s) integers.integer integer_apart)
  operation_apart operations.Substring x args p =
      given_apart (string_of x) _ (λ s. given_apart (integer_of (argument args 0)) _ (λ l. given_apart (integer_of (argument args 1)) (strings.substring s l)
      (λ u. given_apart (natural l) _ (λ m. given_apart (natural u) _ (λ n. part_apart s m n)))))
  operation_apart operations.IsUndefined x args p = undefined_apart x
  operation_apart operations.IsInvalid x args p = invalid_apart x
  operation_apart operations.AsSingletonSet x args p = singleton_apart x p

  -- ---- navigation and iterators

  pub navigated_apart : (values : Values) (ds : List Datum) → AllOfSources t ds → Apart (navigated values ds)
  navigated_apart gives.Single [] p = tt
  navigated_apart gives.Single (d ∷ ds) p = p.0
  navigated_apart gives.Set ds p = all_in_order t ds p
  navigated_apart gives.OrderedSet ds p = p

  from_one : (x : Out) → Apart x → IfAll (collected_from x)
  unfolding IfAll
  from_one (outs.One d) p = (p, tt)
  from_one (outs.Many k ds) p = p
  from_one outs.Null p = tt
  from_one outs.Invalid p = tt

  joined_after : (ds : List Datum) (o : Option (List Datum)) → AllOfSources t ds → IfAll o → IfAll (and_then o (λ es. Some (ds ++ es)))
  unfolding IfAll
  joined_after ds None p q = tt
  joined_after ds (Some es) p q = all_joined t ds es p q

  both_joined : (o p : Option (List Datum)) → IfAll o → IfAll p → IfAll (and_then o (λ ds. and_then p (λ es. Some (ds ++ es))))
  unfolding IfAll
  both_joined None p a b = tt
  both_joined (Some ds) p a b = joined_after ds p a b

  all_collected_apart : (xs : List Out) → AllApart xs → IfAll (all_collected xs)
  unfolding IfAll
  all_collected_apart [] p = tt
  all_collected_apart (x ∷ xs) p = both_joined (collected_from x) (all_collected xs) (from_one x p.0) (all_collected_apart xs p.1)

  pub collect_apart : (c : Collection) (xs : List Out) → AllApart xs → Apart (collect c xs)
  collect_apart c xs p =
      given_all (all_collected xs) (collections.collection (collected_kind c.kind)) (all_collected_apart xs p) (λ ds q. collection_apart (collected_kind c.kind) ds q)

  pub iterated_apart : (i : IteratorKind) (c : Collection) (xs : List Out) → AllOfSources t c.elements → AllApart xs → Apart (iterated i c xs)
  iterated_apart iterators.Select c xs p q = given_apart (conditions xs) _ (λ bs. bounded_apart c.kind _ (all_chosen t bs c.elements p))
  iterated_apart iterators.Reject c xs p q = given_apart (conditions xs) _ (λ bs. bounded_apart c.kind _ (all_chosen t (map not bs) c.elements p))
  iterated_apart iterators.Collect c xs p q = collect_apart c xs q
  iterated_apart iterators.Exists c xs p q = truth_apart _
  iterated_apart iterators.ForAll c xs p q = truth_apart _
  iterated_apart iterators.One c xs p q = given_apart (conditions xs) _ (λ bs. tt)
  iterated_apart iterators.IsUnique c xs p q = given_apart (all_given (map defined xs)) _ (λ ys. tt)
