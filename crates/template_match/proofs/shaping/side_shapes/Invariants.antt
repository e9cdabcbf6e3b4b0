use Rattle.std.proofs.Common.{◌≡◌, take}
use Rattle.std.specs.List.{flat_map}
use Rattle.template_match.specs.Shapes.{domain_shapes}
use Rattle.template_match.proofs.shaping.side_shapes.Given as goal

abbrev pub invariant-loop-dom : goal.invariant-loop-dom
invariant-loop-dom l = l.out ≡ flat_map (domain_shapes l.side l.program) (take l.dom-index l.rel.domains)
