use Rattle.std.proofs.Common.{◌≡◌, ◌++◌, drop}
use Rattle.script_scopes.specs.Occurrences.{domains_variables}
use Rattle.script_scopes.proofs.occurrences.add_domains.Given as goal

abbrev pub invariant-loop-domain : goal.invariant-loop-domain
invariant-loop-domain l = l.out ++ domains_variables l.k (drop l.domain-index l.domains) ≡ l.fn.out ++ domains_variables 1 l.domains
