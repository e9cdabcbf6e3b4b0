use Rattle.example_run.proofs.repairing.ready.Goals as goal

pub demand_memory-requires : goal.demand_memory-requires
demand_memory-requires c = c.requires.unrefused.demanded c.in-Err.error c.in-Err.ensures.refusal
