use Rattle.std.proofs.Common.{◌≡◌, drop}
use Rattle.std.specs.List.{find}
use Rattle.template_match.specs.Prepared.{problem_in}
use Rattle.template_match.specs.Search.{usable_conjunct, conjuncts_in}
use Rattle.template_match.proofs.opening.usable_conjunct.Given as goal

abbrev pub invariant-loop-conjunct : goal.invariant-loop-conjunct
invariant-loop-conjunct l = find (usable_conjunct (problem_in l.prepared) l.binding.values) (drop l.conjunct-index (conjuncts_in (problem_in l.prepared)))
    ≡ find (usable_conjunct (problem_in l.prepared) l.binding.values) (conjuncts_in (problem_in l.prepared))
