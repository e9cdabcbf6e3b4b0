use Rattle.std.proofs.Common.{◌+◌, ◌*◌}
use Rattle.repair_cases.proofs.plain_calls.+plain_calls.Given as goal

-- each call leaves fewer calls to be made within it

abbrev pub decreases-has_match : goal.decreases-has_match
decreases-has_match l = 4 * l.depth + 3

abbrev pub decreases-failing_with : goal.decreases-failing_with
decreases-failing_with l = 4 * l.depth + 3

abbrev pub decreases-has_partner : goal.decreases-has_partner
decreases-has_partner l = 4 * l.depth + 2

abbrev pub decreases-calls_hold : goal.decreases-calls_hold
decreases-calls_hold l = 4 * l.depth + 1

abbrev pub decreases-call_holds : goal.decreases-call_holds
decreases-call_holds l = 4 * l.depth
