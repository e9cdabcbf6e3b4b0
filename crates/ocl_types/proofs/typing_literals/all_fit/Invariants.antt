use Rattle.std.proofs.Common.{◌≡◌, drop}
use Rattle.ocl_environments.specs.Agreement.{all_fit}
use Rattle.ocl_environments.specs.Parts.{types_of}
use Rattle.ocl_types.proofs.typing_literals.all_fit.Given as goal

abbrev pub invariant-loop-part : goal.invariant-loop-part
invariant-loop-part l = all_fit l.metas l.top (types_of (drop l.part-index l.parts)) ≡ all_fit l.metas l.top (types_of l.parts)
