use Rattle.std.proofs.Common.{◌≡◌, drop}
use Rattle.std.specs.List.{list_any}
use Rattle.relation_calls.specs.Outcomes.{is_partnered}
use Rattle.relation_calls.proofs.outcome.is_any_partnered.Given as goal

abbrev pub invariant-loop-outcome : goal.invariant-loop-outcome
invariant-loop-outcome l = list_any is_partnered (drop l.outcome-index l.outcomes) ≡ list_any is_partnered l.outcomes
