use Rattle.example_run.proofs.SecondLaws.{made_there, can_again, unrefused_after, unchanged_after}
use Rattle.example_run.proofs.second_look.stays_after.Goals as goal

pub repair-requires-clause-premises : goal.repair-requires-clause-premises
repair-requires-clause-premises c = (c.requires.after.metas, can_again c.args.program.now c.args.models.now c.requires.after c.targets_are_replaced.ensures)

pub repair-requires-clause-unrefused : goal.repair-requires-clause-unrefused
repair-requires-clause-unrefused c =
    unrefused_after c.args.program.now c.args.models.now c.requires.after c.demand_sets_are_of_sources.ensures c.made_models_stay.ensures.equal

pub returns-in-Ok : goal.returns-in-Ok
returns-in-Ok c =
    let program = c.args.program.now in
    let models = c.args.models.now in
    unchanged_after program models c.requires.after c.made_models_stay.ensures.report (c.requires.readable _ (made_there program models c.requires.after)) _ c.in-Ok.report c.in-Ok.ensures
