use Rattle.std.proofs.Common.{◌+◌, ◌∙◌, ap}
use Rattle.qvtr_engine.specs.Reading.{nth}
use Rattle.qvtr_engine.proofs.RequestLaws.{file_is, texts_in}
use Rattle.qvtr_engine.proofs.check_request.CheckRequest.file.Goals as goal

pub returns : goal.returns
returns c =
    file_is (texts_in c.args.self.now.arguments.items) c.args.place c.argument_at.result.now c.split_at_equals.result.0.now
    c.split_at_equals.result.1.now c.requires
    (c.argument_at.ensures ∙ ap (λ xs. nth (texts_in xs) (c.args.place + 2)) c.as_slice.ensures.value) c.split_at_equals.ensures
