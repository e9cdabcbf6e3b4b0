use Rattle.std.proofs.Common.{take}
use Rattle.term_images.specs.ClassIndexes.{numbers_of, HasFirsts}
use Rattle.term_images.proofs.class_index.firsts_of.Given as goal

abbrev pub invariant-loop-object : goal.invariant-loop-object
invariant-loop-object l = HasFirsts l.target.program.now l.target.model.now l.class.0 l.props (numbers_of (take l.object-index l.objects)) l.firsts
