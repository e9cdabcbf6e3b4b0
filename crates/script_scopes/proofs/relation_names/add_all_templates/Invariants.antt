use Rattle.std.proofs.Common.{◌≡◌, ◌++◌, drop}
use Rattle.script_scopes.specs.Occurrences.{templates_from}
use Rattle.script_scopes.proofs.relation_names.add_all_templates.Given as goal

abbrev pub invariant-loop-domain : goal.invariant-loop-domain
invariant-loop-domain l = l.out ++ templates_from l.k (drop l.domain-index l.domains) ≡ l.fn.out ++ templates_from 1 l.domains
