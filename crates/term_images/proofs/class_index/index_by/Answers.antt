use Rattle.std.proofs.Common.{ap, ◌∙◌}
use Rattle.term_images.specs.ClassIndexes.{numbers_of}
use Rattle.term_images.proofs.IndexLaws.{firsts_index}
use Rattle.term_images.proofs.class_index.index_by.Goals as goal

pub returns-in-Ok : goal.returns-in-Ok
returns-in-Ok c =
    firsts_index c.args.target.now.program.now c.args.target.now.model.now c.args.class.0 c.args.props.now
    (numbers_of c.as_slice.result.now) c.in-Ok.firsts c.requires (ap numbers_of c.as_slice.ensures ∙ c.in_ok-objects.ensures) c.in-Ok.ensures
