use Rattle.std.proofs.Common.{◌≡◌, drop}
use Rattle.std.specs.List.{list_all}
use Rattle.enforcement_rules.specs.KnownTests.{is_marked}
use Rattle.enforcement_rules.proofs.patterns.all_known.Given as goal

abbrev pub invariant-loop-v : goal.invariant-loop-v
invariant-loop-v l = list_all (is_marked l.known) (drop l.v-index l.variables) ≡ list_all (is_marked l.known) l.variables
