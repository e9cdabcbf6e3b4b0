use Rattle.std.proofs.Common.{◌≡◌, ◌++◌, drop}
use Rattle.std.specs.Prelude.{chars}
use Rattle.script_scopes.specs.UniversalNames.{names_outside}
use Rattle.script_scopes.proofs.divisions.add_all_outside.Given as goal

abbrev pub invariant-loop-domain : goal.invariant-loop-domain
invariant-loop-domain l = l.out ++ names_outside (chars l.target) l.k (drop l.domain-index l.domains) ≡ l.fn.out ++ names_outside (chars l.target) 1 l.domains
