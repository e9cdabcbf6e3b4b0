-- The order in which an index keeps holders: by the attribute, the value, and then the object's number (the order is this engine's own).
use Rattle.std.specs.Prelude.{ℕ, Bool}
use Rattle.std.specs.Ordering.{nat_cmp, ordering_then, is_eq}
use Rattle.std.specs.declared.cmp.Ordering.{Ordering}
use Rattle.object_tables.specs.declared.value.Value.{Value}
use Rattle.key_index.specs.declared.holder.Holder.{Holder}
use Rattle.key_index.specs.ValueOrder.{value_order}

-- an attribute and a value
abbrev pub key_of : Holder → ℕ × Value
key_of h = (h.prop.0, h.value)

abbrev pub key_order : ℕ × Value → ℕ × Value → Ordering
key_order k l = ordering_then (nat_cmp k.0 l.0) (value_order k.1 l.1)

abbrev pub holder_order : Holder → Holder → Ordering
holder_order h k = ordering_then (key_order (key_of h) (key_of k)) (nat_cmp h.object.0 k.object.0)

-- the holder is one of the value at the attribute
abbrev pub is_at : ℕ → Value → Holder → Bool
is_at p v h = is_eq (key_order (key_of h) (p, v))
