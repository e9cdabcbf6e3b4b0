use Rattle.std.proofs.Common.{◌≡◌}
use Rattle.ocl_environments.specs.Parts.{trees_of as all_trees}
use Rattle.ocl_environments.proofs.parts.trees_of.Given as goal

abbrev pub invariant-loop-part : goal.invariant-loop-part
invariant-loop-part l = l.trees ≡ all_trees l.yielded
