use Rattle.std.proofs.Common.{◌≡◌, map, take}
use Rattle.repair_semantics.specs.Images.{image}
use Rattle.term_images.specs.ClassIndexes.{AreIndexes}
use Rattle.term_images.specs.FoundImages.{image_numbers}
use Rattle.term_images.proofs.finding.images.Given as goal

abbrev pub invariant-loop-number : goal.invariant-loop-number
invariant-loop-number l = record {
  found : image_numbers l.found ≡ map (image l.program l.target.model.now) (take l.number l.table);
  indexes : AreIndexes l.program l.target.model.now l.indexes;
}
