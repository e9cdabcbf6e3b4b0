-- The calls of top relations begin chains; when all have been walked, the walk is whole.
use Rattle.std.proofs.Common.{subst}
use Rattle.entry_walk.specs.Walking.{HasReachedAll}
use Rattle.entry_walk.proofs.EndLaws.{begun_at, begins_next, walked_by}
use Rattle.entry_walk.proofs.walk.walk_from.Goals as goal

pub reach_all-requires-clause-walking : goal.reach_all-requires-clause-walking
reach_all-requires-clause-walking c =
    begun_at c.args.ground.now.world.program.now c.args.ground.now.world.models.now c.args.table.now c.args.ground.now.tops.now c.requires.tops c.new-finished.result c.new-path.result c.new-finished.ensures c.new-path.ensures

pub reach_all-requires-clause-lead : goal.reach_all-requires-clause-lead
reach_all-requires-clause-lead c =
    begins_next c.args.ground.now.world.program.now c.args.ground.now.world.models.now c.args.table.now c.args.ground.now.tops.now c.requires.tops c.new-path.result c.new-path.ensures c.as_slice-calls.result.now
    c.as_slice-calls.ensures

pub returns-in-All-clause-walked : goal.returns-in-All-clause-walked
returns-in-All-clause-walked c =
    let program = c.args.ground.now.world.program.now in
    let models = c.args.ground.now.world.models.now in
    let tops = c.args.ground.now.tops.now in
    let reached = subst (HasReachedAll program models tops c.new-finished.result c.new-path.result c.as_slice-calls.result.now c.reach_all.new.table c.reach_all.new.finished c.reach_all.new.path) c.in-All.is c.in_ok-reach_all.ensures.reached in
    walked_by program models c.reach_all.new.table tops c.new-finished.result c.reach_all.new.finished c.new-path.result c.reach_all.new.path c.as_slice-calls.result.now c.in-All.field-0 c.new-path.ensures c.as_slice-calls.ensures
    reached.0 reached.1
