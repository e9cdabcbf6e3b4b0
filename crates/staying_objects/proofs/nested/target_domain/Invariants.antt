use Rattle.std.proofs.Common.{◌≡◌, drop}
use Rattle.std.specs.List.{find}
use Rattle.qvtr_semantics.specs.Bindings.{is_target_domain}
use Rattle.staying_objects.proofs.nested.target_domain.Given as goal

abbrev pub invariant-loop-dom : goal.invariant-loop-dom
invariant-loop-dom l = find (is_target_domain l.program) (drop l.dom-index l.rel.domains) ≡ find (is_target_domain l.program) l.rel.domains
