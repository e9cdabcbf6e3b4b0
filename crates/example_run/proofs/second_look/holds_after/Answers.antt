use Rattle.check_mode.specs.declared.verdict.Verdict.TheVariants as verdicts
use Rattle.example_run.proofs.SecondLaws.{satisfied_after, clean_after, checked_after}
use Rattle.example_run.proofs.second_look.holds_after.Goals as goal

pub check-requires-clause-formed : goal.check-requires-clause-formed
check-requires-clause-formed c = (c.requires.after.metas, c.requires.after.can.evaluable.well)

pub returns-in-Ok : goal.returns-in-Ok
returns-in-Ok c =
    let program = c.args.program.now in
    let models = c.args.models.now in
    c.is_yes-holds.ensures.1
    (c.verdicts_are_one.ensures program models c.in-Ok.verdict verdicts.Yes c.in-Ok.ensures.value (satisfied_after program models c.requires.after c.made_models_satisfy.ensures.satisfied))

pub call_memory-requires : goal.call_memory-requires
call_memory-requires c =
    let program = c.args.program.now in
    let models = c.args.models.now in
    checked_after program models (clean_after program models c.requires.after c.made_models_satisfy.ensures.chains) c.in-Err.error c.in-Err.ensures.fault
