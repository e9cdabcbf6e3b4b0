use Rattle.ocl_eval.specs.Frames.{outcome, IsLed}
use Rattle.ocl_eval.specs.Worlds.{meaning_of}
use Rattle.ocl_eval.proofs.machine.Machine.run.Given as goal

abbrev pub invariant-loop : goal.invariant-loop
invariant-loop l =
    IsLed l.fn.self.world (record { calls = l.fn.self.world.calls; scope = l.fn.self.scope; out = meaning_of l.fn.self.world l.fn.part l.fn.self.scope }) (λ n. outcome n l.self l.control)
