use Rattle.std.proofs.Common.{◌≡◌, drop}
use Rattle.std.specs.List.{list_any}
use Rattle.enforcement_rules.specs.KnownTests.{is_undetermined, has_undetermined}
use Rattle.enforcement_rules.proofs.known.any_undetermined.Given as goal

abbrev pub invariant-loop-v : goal.invariant-loop-v
invariant-loop-v l = list_any (is_undetermined l.rel l.known) (drop l.v-index l.rel.existential) ≡ has_undetermined l.rel l.known
