use Rattle.std.proofs.Common.{◌≡◌, ◌++◌, drop}
use Rattle.std.specs.Option.{option_map}
use Rattle.term_images.specs.FoundImages.{key_images}
use Rattle.term_images.proofs.finding.key_images.Given as goal

abbrev pub invariant-loop-key : goal.invariant-loop-key
invariant-loop-key l = option_map (λ more. l.values ++ more) (key_images l.found (drop l.key-index l.keys)) ≡ key_images l.found l.keys
