use Rattle.std.proofs.Common.{reverse}
use Rattle.std.specs.Prelude.{◌↔◌}
use Rattle.qvtr_semantics.specs.Templates.{Values}
use Rattle.template_match.specs.Levels.{AreLevels, IsFoundOrOwed}
use Rattle.template_match.specs.Prepared.{problem_in}
use Rattle.template_match.specs.Search.{values_of}
use Rattle.template_match.proofs.search.search_levels.Given as goal

abbrev pub invariant-steps : goal.invariant-steps
invariant-steps l = record {
  levels : AreLevels l.prepared l.binding.values (reverse l.levels);
  same : (b : Values) → IsFoundOrOwed (problem_in l.prepared) l.binding.values (reverse l.levels) (values_of l.found) b
      ↔ IsFoundOrOwed (problem_in l.prepared) l.fn.roots.values (reverse l.fn.levels) (values_of l.fn.found) b;
}
