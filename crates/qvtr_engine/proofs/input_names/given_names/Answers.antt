use Rattle.std.proofs.Common.{List, ◌∙◌}
use Rattle.qvtr_engine.specs.CheckView.{bound_view}
use Rattle.qvtr_engine.specs.CheckWords.{Bound}
use Rattle.qvtr_engine.specs.CheckedNames.{name_of}
use Rattle.qvtr_engine.specs.RequestView.{request_view}
use Rattle.qvtr_engine.proofs.RequestLaws.{mapped_more}
use Rattle.qvtr_engine.proofs.input_names.given_names.Goals as goal

pub loop-i-preserved : goal.loop-i-preserved
loop-i-preserved c =
    let files : List Bound = (request_view c.args.request.now).files in
    c.in_ok-push.ensures.ok
    ∙ mapped_more name_of files c.loop-i.i (bound_view c.file.result) c.loop-i.given c.in_ok-new.field-0 c.file.ensures c.in_ok-new.ensures.characters c.loop-i.invariant
