use Rattle.std.proofs.Common.{◌≡◌, ◌++◌}
use Rattle.std.specs.List.{filter_map}
use Rattle.script_scopes.specs.Usages.{call_in}
use Rattle.script_scopes.proofs.calls.append_calls.Given as goal

abbrev pub invariant-loop-usage : goal.invariant-loop-usage
invariant-loop-usage l = l.out ≡ l.fn.out ++ filter_map call_in l.yielded
