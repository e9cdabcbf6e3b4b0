use Rattle.std.proofs.Common.{◌≡◌, drop}
use Rattle.std.specs.List.{list_any}
use Rattle.relation_calls.specs.Outcomes.{is_alone}
use Rattle.relation_calls.proofs.outcome.is_any_alone.Given as goal

abbrev pub invariant-loop-outcome : goal.invariant-loop-outcome
invariant-loop-outcome l = list_any is_alone (drop l.outcome-index l.outcomes) ≡ list_any is_alone l.outcomes
