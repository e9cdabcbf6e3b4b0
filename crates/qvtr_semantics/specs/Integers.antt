-- Integers of 64 bits (OCL 2.4, section 11.5.2; a result outside that range is invalid).
use Rattle.std.specs.Prelude.{Bool, ◌&&◌, ◌+ℤ◌, ◌-ℤ◌, ◌*ℤ◌, neg_ℤ, nat_abs, int_le, int_div, int_rem, ℤ, pos, negsuc, List, [], ◌∷◌, if◌then◌else◌}
use Rattle.std.specs.Int.{int_min, int_max}
use Rattle.std.specs.Ordering.{int_eq}
use Rattle.object_tables.specs.declared.value.Value.TheVariants as values
use Rattle.qvtr_semantics.specs.declared.datum.Datum.{Datum}
use Rattle.qvtr_semantics.specs.declared.datum.Datum.TheVariants.{Val}
use Rattle.qvtr_semantics.specs.declared.out.Out.{Out}
use Rattle.qvtr_semantics.specs.declared.out.Out.TheVariants as outs
use Rattle.qvtr_semantics.specs.Outs.{given, integer_of_datum}

abbrev pub greatest_integer : ℤ
greatest_integer = pos 9223372036854775807

abbrev pub least_integer : ℤ
least_integer = negsuc 9223372036854775807

abbrev pub is_integer : ℤ → Bool
is_integer i = int_le least_integer i && int_le i greatest_integer

abbrev pub integer : ℤ → Out
integer i = if is_integer i then outs.One (Val 0 (values.Int i)) else outs.Invalid

abbrev pub plus : ℤ → ℤ → Out
plus i j = integer (i +ℤ j)

abbrev pub minus : ℤ → ℤ → Out
minus i j = integer (i -ℤ j)

abbrev pub times : ℤ → ℤ → Out
times i j = integer (i *ℤ j)

abbrev pub negated : ℤ → Out
negated i = integer (neg_ℤ i)

abbrev pub absolute : ℤ → Out
absolute i = integer (pos (nat_abs i))

-- cut towards zero
abbrev pub quotient : ℤ → ℤ → Out
quotient i j = if int_eq j (pos 0) then outs.Invalid else integer (int_div i j)

-- with the dividend's sign
abbrev pub remainder : ℤ → ℤ → Out
remainder i j = if int_eq j (pos 0) then outs.Invalid else integer (int_rem i j)

abbrev pub maximum : ℤ → ℤ → Out
maximum i j = integer (int_max i j)

abbrev pub minimum : ℤ → ℤ → Out
minimum i j = integer (int_min i j)

-- the sum of Integers from left to right, of which each partial one has to be an Integer
abbrev pub sum_onto : ℤ → List Datum → Out
sum_onto s [] = integer s
sum_onto s (d ∷ ds) = given (integer_of_datum d) (λ i. if is_integer (s +ℤ i) then sum_onto (s +ℤ i) ds else outs.Invalid)

abbrev pub sum : List Datum → Out
sum ds = sum_onto (pos 0) ds
