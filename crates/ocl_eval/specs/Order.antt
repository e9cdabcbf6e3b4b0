-- The order of data as one comparison, for sorting: that of `is_before`, where the same data tie.
use Rattle.std.specs.Prelude.{ℕ, Bool, ◌&&◌, ◌==◌, List, [], ◌∷◌}
use Rattle.std.specs.Cmp.Lexicographic.{pointwise, slice_cmp}
use Rattle.std.specs.Ordering.{nat_cmp, ordering_then}
use Rattle.std.specs.declared.cmp.Ordering.{Ordering}
use Rattle.std.specs.declared.cmp.Ordering.TheVariants.{Less, Greater}
use Rattle.qvtr_semantics.specs.declared.datum.Datum.{Datum}
use Rattle.qvtr_semantics.specs.declared.datum.Datum.TheVariants.{Obj, Val}
use Rattle.qv_syntax.specs.declared.type_tree.Kind.TheVariants.{Set, Bag, Sequence, OrderedSet}
use Rattle.qvtr_semantics.specs.declared.out.Out.{Out}
use Rattle.qvtr_semantics.specs.declared.out.Out.TheVariants as outs
use Rattle.key_index.specs.ValueOrder.{value_order}
use Rattle.qvtr_semantics.specs.Data.{same_datum}

abbrev pub datum_order : Datum → Datum → Ordering
datum_order (Obj m o) (Obj n p) = ordering_then (nat_cmp m n) (nat_cmp o.0 p.0)
datum_order (Obj m o) (Val n w) = Less
datum_order (Val m v) (Obj n p) = Greater
datum_order (Val m v) (Val n w) = ordering_then (nat_cmp m n) (value_order v w)

-- ---- values of expressions

-- single data, the kinds of collections, null, invalid
abbrev pub rank : Out → ℕ
rank (outs.One d) = 0
rank (outs.Many Set ds) = 1
rank (outs.Many Bag ds) = 2
rank (outs.Many Sequence ds) = 3
rank (outs.Many OrderedSet ds) = 4
rank outs.Null = 5
rank outs.Invalid = 6

abbrev pub data_in : Out → List Datum
data_in (outs.One d) = d ∷ []
data_in (outs.Many k ds) = ds
data_in outs.Null = []
data_in outs.Invalid = []

-- by their ranks, and within a rank by their data from the first on
abbrev pub out_order : Out → Out → Ordering
out_order x y = ordering_then (nat_cmp (rank x) (rank y)) (slice_cmp datum_order (data_in x) (data_in y))

-- they are of one rank and have the same data
abbrev pub same_out : Out → Out → Bool
same_out x y = (rank x == rank y) && pointwise same_datum (data_in x) (data_in y)
