use Rattle.std.proofs.Common.{◌≡◌, map, take}
use Rattle.std.specs.List.{filter_map}
use Rattle.script_scopes.specs.Occurrences.{relation_in}
use Rattle.script_scopes.proofs.declared.relations_in.Given as goal

abbrev pub invariant-loop-declaration : goal.invariant-loop-declaration
invariant-loop-declaration l = map (λ r. r.now) l.out ≡ filter_map relation_in (take l.declaration-index l.declarations)
