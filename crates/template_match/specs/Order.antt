-- The order of bindings of one relation: by the values of some of its variables, one after another.
use Rattle.std.specs.Prelude.{ℕ, List, [], ◌∷◌, Option}
use Rattle.std.specs.Option.{option_cmp}
use Rattle.std.specs.Ordering.{ordering_then}
use Rattle.std.specs.declared.cmp.Ordering.{Ordering}
use Rattle.std.specs.declared.cmp.Ordering.TheVariants.{Equal}
use Rattle.qvtr_semantics.specs.declared.datum.Datum.{Datum}
use Rattle.qvtr_semantics.specs.declared.binding.Binding.{Binding}
use Rattle.qvtr_semantics.specs.Templates.{Values, value_at}
use Rattle.ocl_eval.specs.Order.{datum_order}

-- of the values of two variables: none comes before each value
abbrev pub optional_order : Option Datum → Option Datum → Ordering
optional_order = option_cmp datum_order

abbrev pub values_order : List ℕ → Values → Values → Ordering
values_order [] = λ a b. Equal
values_order (v ∷ vs) = λ a b. ordering_then (optional_order (value_at a v) (value_at b v)) (values_order vs a b)

-- of two bindings
abbrev pub binding_order : List ℕ → Binding → Binding → Ordering
binding_order vars b c = values_order vars b.values c.values
