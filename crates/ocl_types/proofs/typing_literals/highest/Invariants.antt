use Rattle.std.proofs.Common.{◌≡◌, drop}
use Rattle.std.specs.Prelude.{fold}
use Rattle.ocl_environments.specs.Agreement.{higher}
use Rattle.ocl_environments.specs.Parts.{types_of}
use Rattle.ocl_types.proofs.typing_literals.highest.Given as goal

abbrev pub invariant-loop-part : goal.invariant-loop-part
invariant-loop-part l = fold (higher l.metas) l.top (types_of (drop l.part-index l.rest)) ≡ fold (higher l.metas) l.fn.first (types_of l.rest)
