use Rattle.std.proofs.Common.{◌≡◌, drop}
use Rattle.term_images.specs.ClassIndexes.{numbers_of, first_holding}
use Rattle.term_images.proofs.passing.first_holding.Given as goal

abbrev pub invariant-loop-object : goal.invariant-loop-object
invariant-loop-object l = first_holding l.target.program.now l.target.model.now l.props l.values (numbers_of (drop l.object-index l.objects))
    ≡ first_holding l.target.program.now l.target.model.now l.props l.values (numbers_of l.objects)
