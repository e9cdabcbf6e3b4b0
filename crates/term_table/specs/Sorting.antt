-- How numbers of a table stand: as their terms.
use Rattle.std.specs.Prelude.{ℕ, List}
use Rattle.std.specs.declared.cmp.Ordering.{Ordering}
use Rattle.repair_semantics.specs.declared.term.Term.{Term}
use Rattle.repair_semantics.specs.Terms.{term_order}
use Rattle.term_table.specs.TermTables.{term_at}

abbrev pub number_order : List Term → ℕ → ℕ → Ordering
number_order terms m n = term_order (term_at terms m) (term_at terms n)
