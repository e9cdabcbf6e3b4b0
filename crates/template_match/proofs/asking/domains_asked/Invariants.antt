use Rattle.std.proofs.Common.{◌≡◌, take}
use Rattle.std.specs.List.{flat_map}
use Rattle.template_match.specs.Asked.{asked_values, domain_asked}
use Rattle.template_match.proofs.asking.domains_asked.Given as goal

abbrev pub invariant-loop-dom : goal.invariant-loop-dom
invariant-loop-dom l = asked_values l.out ≡ flat_map (domain_asked l.side l.program) (take l.dom-index l.rel.domains)
