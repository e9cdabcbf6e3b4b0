use Rattle.std.proofs.Common.{◌≡◌}
use Rattle.std.specs.List.{flat_map, range_with_len}
use Rattle.key_index.specs.Instances.{instances_of}
use Rattle.key_index.proofs.building.all_instances.Given as goal

abbrev pub invariant-loop-object : goal.invariant-loop-object
invariant-loop-object l = l.instances.items ≡ flat_map (instances_of l.model) (range_with_len 0 l.object)
