-- What a slot holds, as the code has it: a datum, or an object by its number.
use Rattle.std.specs.Prelude.{ℕ}
use Rattle.repair_semantics.specs.Claims.{Held}
use Rattle.slot_claims.specs.declared.held_value.HeldValue.{HeldValue}
use Rattle.slot_claims.specs.declared.held_value.HeldValue.TheVariants as values
use Rattle.slot_claims.specs.declared.held_value.Element.{Element}
use Rattle.slot_claims.specs.declared.held_value.Element.TheVariants as elements

-- what it is
abbrev pub held_by : HeldValue → Held ℕ
held_by (values.Datum d) = Held.datum d
held_by (values.Object o) = Held.object o.0

-- the same of a datum that is lent
abbrev pub element_by : Element → Held ℕ
element_by (elements.Datum d) = Held.datum d.now
element_by (elements.Object o) = Held.object o.0
