use Rattle.std.proofs.Common.{◌≡◌, map, take}
use Rattle.ocl_environments.specs.Extents.{alone_of}
use Rattle.ocl_environments.proofs.extents.each_alone.Given as goal

abbrev pub invariant-loop-met : goal.invariant-loop-met
invariant-loop-met l = l.out ≡ map alone_of (take l.met-index l.table)
