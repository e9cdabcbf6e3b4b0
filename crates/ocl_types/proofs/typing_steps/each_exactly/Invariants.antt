use Rattle.std.proofs.Common.{◌≡◌, drop}
use Rattle.ocl_types.specs.TypingSteps.{each_exactly as all_exactly}
use Rattle.ocl_types.proofs.typing_steps.each_exactly.Given as goal

abbrev pub invariant-loop-arg : goal.invariant-loop-arg
invariant-loop-arg l = all_exactly l.metas l.wanted (drop l.arg-index l.args) ≡ all_exactly l.metas l.wanted l.args
