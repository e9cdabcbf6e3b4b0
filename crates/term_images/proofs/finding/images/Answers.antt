use Rattle.std.specs.Prelude.{◌<◌, length}
use Rattle.std.proofs.Common.{ap, ◌∙◌, arith}
use Rattle.term_images.specs.FoundImages.{image_by}
use Rattle.term_images.proofs.FoundLaws.{images_more}
use Rattle.term_images.proofs.finding.images.Goals as goal

pub loop-number-preserved : goal.loop-number-preserved
loop-number-preserved c =
    let program = c.args.program.now in
    let m = c.args.target.now in
    let terms = c.args.table.now in
    let number = c.loop-number.number in
    let term = c.at.result.now in
    let within : number < length terms = omega arith in
    record {
      found = images_more program m terms number within c.loop-number.found c.loop-number.invariant.found
          term c.in_ok-image.image c.push.new.self c.at.ensures.below c.at.ensures.term
          (c.in_ok-image.ensures.image ∙ ap (λ found. image_by program m found term) c.as_slice.ensures) c.in_ok-push.ensures.ok;
      indexes = c.in_ok-image.ensures.all;
    }
