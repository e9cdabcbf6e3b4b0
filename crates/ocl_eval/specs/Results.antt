-- What operations give.
use Rattle.std.specs.Prelude.{ℤ, ◌+ℤ◌, Option, None, Some, if◌then◌else◌}
use Rattle.object_tables.specs.declared.value.Value.TheVariants as values
use Rattle.qvtr_semantics.specs.declared.datum.Datum.{Datum}
use Rattle.qvtr_semantics.specs.declared.datum.Datum.TheVariants.{Val}
use Rattle.qvtr_semantics.specs.declared.out.Out.{Out}
use Rattle.qvtr_semantics.specs.declared.out.Out.TheVariants as outs
use Rattle.qvtr_semantics.specs.Outs.{and_then, integer_of_datum}
use Rattle.qvtr_semantics.specs.Integers.{is_integer}

-- the number as the value of an expression
abbrev pub an_integer : ℤ → Out
an_integer i = outs.One (Val 0 (values.Int i))

-- the number, if it is an Integer
abbrev pub within : ℤ → Option ℤ
within i = if is_integer i then Some i else None

-- the sum so far with one more datum, if that is an Integer and so is the sum
abbrev pub partial_sum : ℤ → Datum → Option ℤ
partial_sum s d = and_then (integer_of_datum d) (λ i. within (s +ℤ i))
