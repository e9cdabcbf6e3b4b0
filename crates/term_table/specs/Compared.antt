-- How two terms of one table stand: at their first key values that differ. Where those are terms it is as these stand.
use Rattle.std.specs.Prelude.{◌==◌, ℕ, Bool, false, List, [], ◌∷◌, slice_get, if◌then◌else◌}
use Rattle.std.specs.Option.{option_map_or}
use Rattle.std.specs.Ordering.{nat_cmp, is_eq}
use Rattle.std.specs.declared.cmp.Ordering.{Ordering}
use Rattle.std.specs.declared.cmp.Ordering.TheVariants.{Less, Equal, Greater}
use Rattle.ocl_eval.specs.Order.{datum_order}
use Rattle.repair_semantics.specs.declared.term.Term.{Term}
use Rattle.repair_semantics.specs.Terms.{term_order}
use Rattle.term_table.specs.declared.numbered.NumberedValue.{NumberedValue}
use Rattle.term_table.specs.declared.numbered.NumberedValue.TheVariants as numbered
use Rattle.term_table.specs.declared.kept.Kept.{Kept}
use Rattle.term_table.specs.declared.comparing.Compared.{Compared}
use Rattle.term_table.specs.declared.comparing.Compared.TheVariants.{Decided, As}
use Rattle.term_table.specs.TermTables.{term_at}

-- two terms by their numbers: with one number they are one
abbrev pub numbers_compared : ℕ → ℕ → Compared
numbers_compared m n = if m == n then Decided Equal else As m n

-- two values
abbrev pub values_compared : NumberedValue → NumberedValue → Compared
values_compared (numbered.Val d) (numbered.Val e) = Decided (datum_order d e)
values_compared (numbered.Val d) (numbered.Term n) = Decided Less
values_compared (numbered.Term m) (numbered.Val e) = Decided Greater
values_compared (numbered.Term m) (numbered.Term n) = numbers_compared m n

-- neither comes first
abbrev pub is_tie : Compared → Bool
is_tie (Decided o) = is_eq o
is_tie (As m n) = false

-- what decides, or the rest where it ties
abbrev pub compared_then : Compared → Compared → Compared
compared_then (Decided Less) rest = Decided Less
compared_then (Decided Equal) rest = rest
compared_then (Decided Greater) rest = Decided Greater
compared_then (As m n) rest = As m n

-- key values in their order; a list that ends comes first
abbrev pub keys_compared : List NumberedValue → List NumberedValue → Compared
keys_compared [] [] = Decided Equal
keys_compared [] (w ∷ ws) = Decided Less
keys_compared (v ∷ vs) [] = Decided Greater
keys_compared (v ∷ vs) (w ∷ ws) = compared_then (values_compared v w) (keys_compared vs ws)

-- the number of the class of a term, 0 for a number outside
abbrev pub class_at : List Kept → ℕ → ℕ
class_at kept n = option_map_or (λ k. k.term.class.0) (slice_get kept n) 0

-- the key values of a term, none for a number outside
abbrev pub keys_at : List Kept → ℕ → List NumberedValue
keys_at kept n = option_map_or (λ k. k.term.keys) (slice_get kept n) []

-- two terms by their classes and key values
abbrev pub terms_compared : List Kept → ℕ → ℕ → Compared
terms_compared kept m n = compared_then (Decided (nat_cmp (class_at kept m) (class_at kept n))) (keys_compared (keys_at kept m) (keys_at kept n))

-- what a comparison says of terms of this table
abbrev pub order_in : List Term → Compared → Ordering
order_in terms (Decided o) = o
order_in terms (As m n) = term_order (term_at terms m) (term_at terms n)
