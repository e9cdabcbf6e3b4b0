use Rattle.std.proofs.Common.{ℕ, List, map, take}
use Rattle.std.specs.List.{AllZip}
use Rattle.script_scopes.specs.Occurrences.{root_of}
use Rattle.qvtr_types.specs.RootVariables.{IsNamed}
use Rattle.qvtr_types.proofs.roots.domain_roots.Given as goal

abbrev pub invariant-loop-domain : goal.invariant-loop-domain
invariant-loop-domain l = AllZip (λ d root. IsNamed (map {A = List ℕ × ℕ} {B = List ℕ} (λ e. e.0) l.numbers) l.vars (root_of d) root) (take l.domain-index l.domains) (map (λ r. r.now) l.out)
