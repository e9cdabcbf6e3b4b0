-- The order of entries by the numbers of terms.
use Rattle.std.specs.Prelude.{List}
use Rattle.std.specs.declared.cmp.Ordering.{Ordering}
use Rattle.repair_semantics.specs.declared.term.Term.{Term}
use Rattle.repair_semantics.specs.EntryOrder.{entry_order}
use Rattle.entry_finding.specs.declared.numbered_entry.NumberedEntry.{NumberedEntry}
use Rattle.entry_finding.specs.Found.{entry_in}

-- as the entries for which they stand
abbrev pub numbered_order : List Term → NumberedEntry → NumberedEntry → Ordering
numbered_order terms d e = entry_order (entry_in terms d) (entry_in terms e)
