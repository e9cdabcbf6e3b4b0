use Rattle.std.proofs.Common.{take}
use Rattle.term_table.specs.TermTables.{IsGrown}
use Rattle.entry_tops.specs.TopOrder.{numbers_of}
use Rattle.entry_tops.specs.Steps.{AreTopsUpTo}
use Rattle.entry_tops.proofs.search.add_relations.Given as goal

abbrev pub invariant-loop-i : goal.invariant-loop-i
invariant-loop-i l = AreTopsUpTo l.world.program.now l.world.models.now l.table (numbers_of (take l.i l.order)) l.tops × IsGrown l.fn.table l.table
