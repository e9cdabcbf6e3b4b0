use Rattle.std.specs.Prelude.{IfSome}
use Rattle.template_match.specs.Branches.{IsChoice}
use Rattle.template_match.specs.Prepared.{problem_in}
use Rattle.template_match.proofs.choosing.best_asked.Given as goal

abbrev pub invariant-loop-asked : goal.invariant-loop-asked
invariant-loop-asked l = IfSome l.best (IsChoice (problem_in l.prepared) l.binding.values)
