use Rattle.std.proofs.Common.{◌≡◌, ◌++◌, drop}
use Rattle.std.specs.List.{filter_map}
use Rattle.term_images.specs.Extents.{object_in}
use Rattle.term_images.proofs.extent.objects_in.Given as goal

abbrev pub invariant-loop-datum : goal.invariant-loop-datum
invariant-loop-datum l = l.objects ++ filter_map object_in (drop l.datum-index l.found) ≡ filter_map object_in l.found
