use Rattle.std.specs.Prelude.{IfSome}
use Rattle.template_match.specs.Branches.{IsChoice}
use Rattle.template_match.specs.Prepared.{problem_in}
use Rattle.template_match.proofs.join_choosing.best_bound.Given as goal

abbrev pub invariant-loop-join : goal.invariant-loop-join
invariant-loop-join l = IfSome l.best (IsChoice (problem_in l.prepared) l.binding.values)
