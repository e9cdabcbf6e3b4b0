use Rattle.std.proofs.Common.{◌≡◌, drop}
use Rattle.repair_semantics.specs.Images.{holds_key}
use Rattle.term_images.specs.KeyReadings.{asked}
use Rattle.term_images.proofs.passing.holds_key.Given as goal

abbrev pub invariant-loop-place : goal.invariant-loop-place
invariant-loop-place l = holds_key l.target.program.now l.target.model.now l.object.0 (drop l.place l.props) (asked (drop l.place l.values))
    ≡ holds_key l.target.program.now l.target.model.now l.object.0 l.props (asked l.values)
