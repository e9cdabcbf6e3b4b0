use Rattle.std.proofs.Common.{◌≡◌, map, take}
use Rattle.std.specs.List.{flat_map}
use Rattle.std.specs.Prelude.{chars}
use Rattle.script_scopes.specs.CallNames.{outside_name}
use Rattle.script_scopes.proofs.calls.outside_names.Given as goal

abbrev pub invariant-loop-relation : goal.invariant-loop-relation
invariant-loop-relation l = l.out ≡ flat_map (outside_name (chars l.target)) (map (λ r. r.now) (take l.relation-index l.relations))
