use Rattle.std.proofs.Common.{◌≡◌, drop}
use Rattle.ocl_environments.specs.Parts.{with_models as joined_with}
use Rattle.ocl_environments.proofs.parts.with_models.Given as goal

abbrev pub invariant-loop-part : goal.invariant-loop-part
invariant-loop-part l = joined_with l.joined (drop l.part-index l.parts) ≡ joined_with l.fn.model l.parts
