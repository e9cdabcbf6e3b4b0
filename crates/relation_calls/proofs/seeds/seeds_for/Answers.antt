use Rattle.relation_calls.proofs.seeds.seeds_for.Goals as goal

pub returns-else-has_call : goal.returns-else-has_call
returns-else-has_call c = c.free_seeds.ensures
