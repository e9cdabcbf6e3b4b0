-- Wrong answers that the definitions exclude, each on a small case: what the definition gives, and that it isn't what the wrong
-- code would answer. A contract says that the code's result is what the definition gives, so it refuses that code.
use Rattle.std.specs.Prelude.{◌≡◌, ℕ, true, false, ℤ, pos, negsuc, [], ◌∷◌, length, Option, None, Some}
use Rattle.std.proofs.Common.{refl, ap, arith}
use Rattle.object_tables.specs.declared.value.Value.TheVariants as values
use Rattle.qv_syntax.specs.declared.operator.Operator.TheVariants as operators
use Rattle.qv_syntax.specs.declared.operation.Operation.TheVariants as operations
use Rattle.qv_syntax.specs.declared.operation.CollectionOperation.TheVariants as of_collections
use Rattle.qv_syntax.specs.declared.type_tree.Kind.TheVariants as kinds
use Rattle.qvtr_semantics.specs.declared.datum.Datum.{Datum}
use Rattle.qvtr_semantics.specs.declared.datum.Datum.TheVariants.{Val}
use Rattle.qvtr_semantics.specs.declared.out.Out.{Out}
use Rattle.qvtr_semantics.specs.declared.out.Out.TheVariants as outs
use Rattle.qvtr_semantics.specs.Outs.{Collection, boolean, boolean_of, integer_of, collection_of}
use Rattle.qvtr_semantics.specs.Equality.{is_known_true}
use Rattle.qvtr_semantics.specs.Expressions.{operation, operated, on_collection}

abbrev number : ℕ → Datum
number n = Val 0 (values.Int (pos n))

abbrev int : ℤ → Out
int i = outs.One (Val 0 (values.Int i))

-- how far below -1 a number lies
abbrev below : Option ℤ → ℕ
below None = 0
below (Some (pos n)) = 0
below (Some (negsuc n)) = n

abbrev size_of : Option Collection → ℕ
size_of None = 0
size_of (Some c) = length c.elements

-- ---- false and an invalid part

pub false_and_invalid : operated operators.And (boolean false) outs.Invalid ≡ boolean false
false_and_invalid = refl

-- invalid, where one part is false
pub false_and_invalid_is_invalid : operated operators.And (boolean false) outs.Invalid ≡ outs.Invalid → ⊥
false_and_invalid_is_invalid e = cc

-- ---- (-7).div(2)

pub division_is_cut : operation operations.Divide (int (negsuc 6)) (int (pos 2) ∷ []) ≡ int (negsuc 2)
division_is_cut = refl

-- a quotient that is rounded down
pub div_rounds_down : operation operations.Divide (int (negsuc 6)) (int (pos 2) ∷ []) ≡ int (negsuc 3) → ⊥
div_rounds_down e = let apart : 2 ≡ 3 = ap (λ x. below (integer_of x)) e in absurd (omega (arith, apart))

-- ---- OrderedSet{1, 2}->append(1)

abbrev one_two : Collection
one_two = record { kind = kinds.OrderedSet; elements = number 1 ∷ number 2 ∷ [] }

pub element_moves_to_the_end : on_collection of_collections.Append one_two (int (pos 1) ∷ []) ≡ outs.Many kinds.OrderedSet (number 2 ∷ number 1 ∷ [])
element_moves_to_the_end = refl

-- an element that stands where it was too
pub append_leaves_a_present_element : on_collection of_collections.Append one_two (int (pos 1) ∷ []) ≡ outs.Many kinds.OrderedSet (number 1 ∷ number 2 ∷ number 1 ∷ []) → ⊥
append_leaves_a_present_element e = let apart : 2 ≡ 3 = ap (λ x. size_of (collection_of x)) e in absurd (omega (arith, apart))

-- ---- conditions

pub invalid_does_not_hold : is_known_true (boolean_of outs.Invalid) ≡ false
invalid_does_not_hold = refl

-- a condition that holds where it is invalid
pub invalid_holds : is_known_true (boolean_of outs.Invalid) ≡ true → ⊥
invalid_holds e = cc
