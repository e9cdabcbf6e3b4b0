use Rattle.std.proofs.Common.{◌≡◌, ◌++◌, take}
use Rattle.std.specs.List.{flat_map}
use Rattle.script_variables.specs.Bindings.{primitive_rules, numbered}
use Rattle.script_variables.proofs.bindings.add_primitives.Given as goal

abbrev pub invariant-loop-domain : goal.invariant-loop-domain
invariant-loop-domain l = l.out ≡ l.fn.out ++ flat_map (λ d. numbered l.types (primitive_rules l.top d)) (take l.domain-index l.domains)
