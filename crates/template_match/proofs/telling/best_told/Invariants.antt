use Rattle.template_match.specs.Branches.{Tells}
use Rattle.template_match.specs.Prepared.{problem_in}
use Rattle.template_match.proofs.telling.best_told.Given as goal

abbrev pub invariant-loop : goal.invariant-loop
invariant-loop l = Tells (problem_in l.prepared) l.binding.values l.best
