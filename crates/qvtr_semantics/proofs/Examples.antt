-- The definitions computed on examples: what they give is what OCL's tables say.
use Rattle.std.specs.Prelude.{◌≡◌, ℕ, Bool, true, false, ℤ, pos, negsuc, List, [], ◌∷◌, codes}
use Rattle.std.proofs.Common.{refl}
use Rattle.object_tables.specs.declared.value.Value.TheVariants as values
use Rattle.qv_syntax.specs.declared.operator.Operator.TheVariants as operators
use Rattle.qv_syntax.specs.declared.operation.Operation.TheVariants as operations
use Rattle.qv_syntax.specs.declared.operation.CollectionOperation.TheVariants as of_collections
use Rattle.qv_syntax.specs.declared.operation.IteratorKind.TheVariants as iterators
use Rattle.qv_syntax.specs.declared.type_tree.Kind.{Kind}
use Rattle.qv_syntax.specs.declared.type_tree.Kind.TheVariants as kinds
use Rattle.qvtr_semantics.specs.declared.datum.Datum.{Datum}
use Rattle.qvtr_semantics.specs.declared.datum.Datum.TheVariants.{Val}
use Rattle.qvtr_semantics.specs.declared.out.Out.{Out}
use Rattle.qvtr_semantics.specs.declared.out.Out.TheVariants as outs
use Rattle.qvtr_semantics.specs.Outs.{Collection}
use Rattle.qvtr_semantics.specs.Iterators.{iterated}
use Rattle.qvtr_semantics.specs.Expressions.{operation, operated, literal, on_collection}

abbrev number : ℕ → Datum
number n = Val 0 (values.Int (pos n))

abbrev int : ℤ → Out
int i = outs.One (Val 0 (values.Int i))

abbrev text : List ℕ → Out
text s = outs.One (Val 0 (values.Str s))

abbrev bool : Bool → Out
bool b = outs.One (Val 0 (values.Bool b))

abbrev numbers : List ℕ → List Datum
numbers [] = []
numbers (n ∷ ns) = number n ∷ numbers ns

abbrev of_kind : Kind → List ℕ → Collection
of_kind kind ns = record { kind = kind; elements = numbers ns }

abbrev many : Kind → List ℕ → Out
many kind ns = outs.Many kind (numbers ns)

-- (-7).div(2), (-7).mod(2), 7.div(-2)
pub division_is_cut : operation operations.Divide (int (negsuc 6)) (int (pos 2) ∷ []) ≡ int (negsuc 2)
division_is_cut = refl

pub remainder_has_the_dividends_sign : operation operations.Modulo (int (negsuc 6)) (int (pos 2) ∷ []) ≡ int (negsuc 0)
remainder_has_the_dividends_sign = refl

pub division_by_a_negative : operation operations.Divide (int (pos 7)) (int (negsuc 1) ∷ []) ≡ int (negsuc 2)
division_by_a_negative = refl

-- 1.div(0), 9223372036854775807 + 1
pub division_by_zero : operation operations.Divide (int (pos 1)) (int (pos 0) ∷ []) ≡ outs.Invalid
division_by_zero = refl

pub sum_past_the_greatest : operated operators.Plus (int (pos 9223372036854775807)) (int (pos 1)) ≡ outs.Invalid
sum_past_the_greatest = refl

-- the least Integer by -1
pub least_by_minus_one : operation operations.Divide (int (negsuc 9223372036854775807)) (int (negsuc 0) ∷ []) ≡ outs.Invalid
least_by_minus_one = refl

-- false and an invalid part, null = null
pub false_and_invalid : operated operators.And (bool false) outs.Invalid ≡ bool false
false_and_invalid = refl

pub invalid_implies_true : operated operators.Implies outs.Invalid (bool true) ≡ bool true
invalid_implies_true = refl

pub true_and_null : operated operators.And (bool true) outs.Null ≡ outs.Invalid
true_and_null = refl

pub null_is_null : operated operators.Equal outs.Null outs.Null ≡ bool true
null_is_null = refl

-- 'abc'.substring(2, 3), 'abc'.substring(0, 1)
pub part_of_a_string : operation operations.Substring (text (codes "abc")) (int (pos 2) ∷ int (pos 3) ∷ []) ≡ text (codes "bc")
part_of_a_string = refl

pub part_before_a_string : operation operations.Substring (text (codes "abc")) (int (pos 0) ∷ int (pos 1) ∷ []) ≡ outs.Invalid
part_before_a_string = refl

-- ''.toInteger(), '-0'.toInteger(), '-12'.toInteger()
pub no_digits : operation operations.ToInteger (text []) [] ≡ outs.Invalid
no_digits = refl

pub minus_zero : operation operations.ToInteger (text (codes "-0")) [] ≡ int (pos 0)
minus_zero = refl

pub minus_twelve : operation operations.ToInteger (text (codes "-12")) [] ≡ int (negsuc 11)
minus_twelve = refl

-- Sequence{3, 1, 3}->asSet(), Sequence{1, 2}->at(3), OrderedSet{1, 2}->append(1), Bag{2, 1, 2}->excluding(2)
pub as_a_set : on_collection of_collections.AsSet (of_kind kinds.Sequence (3 ∷ 1 ∷ 3 ∷ [])) [] ≡ many kinds.Set (1 ∷ 3 ∷ [])
as_a_set = refl

pub past_the_end : on_collection of_collections.At (of_kind kinds.Sequence (1 ∷ 2 ∷ [])) (int (pos 3) ∷ []) ≡ outs.Invalid
past_the_end = refl

pub the_second : on_collection of_collections.At (of_kind kinds.Sequence (1 ∷ 2 ∷ [])) (int (pos 2) ∷ []) ≡ int (pos 2)
the_second = refl

pub moves_to_the_end : on_collection of_collections.Append (of_kind kinds.OrderedSet (1 ∷ 2 ∷ [])) (int (pos 1) ∷ []) ≡ many kinds.OrderedSet (2 ∷ 1 ∷ [])
moves_to_the_end = refl

pub excludes_each : on_collection of_collections.Excluding (of_kind kinds.Bag (1 ∷ 2 ∷ 2 ∷ [])) (int (pos 2) ∷ []) ≡ many kinds.Bag (1 ∷ [])
excludes_each = refl

-- Set{1, 2}->collect(x | 0)
pub collects_repeats : iterated iterators.Collect (of_kind kinds.Set (1 ∷ 2 ∷ [])) (int (pos 0) ∷ int (pos 0) ∷ []) ≡ many kinds.Bag (0 ∷ 0 ∷ [])
collects_repeats = refl

pub collects_no_null : iterated iterators.Collect (of_kind kinds.Sequence (1 ∷ 2 ∷ [])) (outs.Null ∷ int (pos 0) ∷ []) ≡ many kinds.Sequence (0 ∷ [])
collects_no_null = refl

-- a literal holds no null, and a Bag stands in value order
pub no_null_in_a_literal : literal kinds.Set (int (pos 1) ∷ outs.Null ∷ []) ≡ outs.Invalid
no_null_in_a_literal = refl

pub bags_in_value_order : literal kinds.Bag (int (pos 2) ∷ int (pos 1) ∷ int (pos 2) ∷ []) ≡ many kinds.Bag (1 ∷ 2 ∷ 2 ∷ [])
bags_in_value_order = refl
