use Rattle.qvtr_engine.specs.CheckView.{bound_view}
use Rattle.qvtr_engine.proofs.RequestLaws.{mapped_at}
use Rattle.qvtr_engine.proofs.reading_inputs.file_at.Goals as goal

pub returns : goal.returns
returns c = mapped_at bound_view c.args.files.now c.args.place _ c.requires
