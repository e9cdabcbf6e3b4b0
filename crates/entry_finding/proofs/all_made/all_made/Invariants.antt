use Rattle.std.proofs.Common.{map, take}
use Rattle.term_table.specs.TermTables.{values_in, IsGrown}
use Rattle.entry_finding.specs.Made.{AreMade}
use Rattle.entry_finding.proofs.all_made.all_made.Given as goal

abbrev pub invariant-loop-b : goal.invariant-loop-b
invariant-loop-b l = record {
  grown : IsGrown l.fn.table l.table;
  made : AreMade l.task.program.now l.task.models.now l.table l.task.rel l.task.recipe.now.rel.now l.task.called (map (values_in l.fn.table) (take l.b-index l.bs)) l.found;
}
