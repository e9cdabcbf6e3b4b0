use Rattle.std.proofs.Common.{◌≡◌, drop}
use Rattle.template_match.specs.Search.{values_of}
use Rattle.relation_calls.specs.Outcomes.{first_alone}
use Rattle.relation_calls.proofs.outcome.first_alone.Given as goal

abbrev pub invariant-loop-i : goal.invariant-loop-i
invariant-loop-i l = first_alone (values_of (drop l.i l.bindings)) (drop l.i l.outcomes) ≡ first_alone (values_of l.bindings) l.outcomes
