use Rattle.std.specs.Prelude.{IfSome}
use Rattle.template_match.specs.Branches.{IsChoice}
use Rattle.template_match.specs.Prepared.{problem_in}
use Rattle.template_match.proofs.join_choosing.best_whole.Given as goal

abbrev pub invariant-loop-number : goal.invariant-loop-number
invariant-loop-number l = IfSome l.best (IsChoice (problem_in l.prepared) l.binding.values)
