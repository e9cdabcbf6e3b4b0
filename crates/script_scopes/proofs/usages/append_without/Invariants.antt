use Rattle.std.proofs.Common.{◌≡◌, ◌++◌}
use Rattle.script_scopes.specs.Usages.{without}
use Rattle.script_scopes.proofs.usages.append_without.Given as goal

abbrev pub invariant-loop-usage : goal.invariant-loop-usage
invariant-loop-usage l = l.out ≡ l.fn.out ++ without l.name l.yielded
