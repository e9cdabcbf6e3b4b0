use Rattle.std.proofs.Common.{◌≡◌}
use Rattle.example_models.specs.Growing.{model_of, up_to_class}
use Rattle.example_models.proofs.source.add_package.Given as goal

-- the package has the classes so far
abbrev pub invariant-loop-place : goal.invariant-loop-place
invariant-loop-place l = record {
  grown : l.model ≡ model_of (up_to_class l.shape.classes l.shape.seed l.number l.place);
}
