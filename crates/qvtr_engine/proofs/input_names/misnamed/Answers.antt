use Rattle.qvtr_engine.specs.RequestView.{request_view}
use Rattle.qvtr_engine.proofs.InputNameLaws.{names_stopped}
use Rattle.qvtr_engine.proofs.input_names.misnamed.Goals as goal

pub returns-in-Ok : goal.returns-in-Ok
returns-in-Ok c =
    names_stopped c.refusal.result (request_view c.args.request.now) c.args.script.now c.args.fault c.in-Ok.name c.requires c.in-Ok.ensures c.refusal.ensures
