use Rattle.std.proofs.Common.{◌≡◌, ◌++◌, take}
use Rattle.std.specs.List.{flat_map}
use Rattle.template_match.specs.Asked.{asked_values, conjunct_asked}
use Rattle.template_match.specs.Sides.{clause_of}
use Rattle.template_match.proofs.comparing.add_clause_asked.Given as goal

abbrev pub invariant-loop-conjunct : goal.invariant-loop-conjunct
invariant-loop-conjunct l = asked_values l.out ≡ asked_values l.fn.out ++ flat_map conjunct_asked (take l.conjunct-index (clause_of l.fn.side l.rel))
