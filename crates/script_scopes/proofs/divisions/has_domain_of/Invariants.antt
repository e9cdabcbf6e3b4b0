use Rattle.std.proofs.Common.{◌≡◌, drop}
use Rattle.std.specs.Prelude.{chars}
use Rattle.script_scopes.specs.UniversalNames.{has_domain_of}
use Rattle.script_scopes.proofs.divisions.has_domain_of.Given as goal

abbrev pub invariant-loop-domain : goal.invariant-loop-domain
invariant-loop-domain l = has_domain_of (chars l.target) (drop l.domain-index l.domains) ≡ has_domain_of (chars l.target) l.domains
