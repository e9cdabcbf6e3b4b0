use Rattle.std.proofs.Common.{◌≡◌}
use Rattle.example_models.specs.Source.{packages_objects}
use Rattle.example_models.specs.Growing.{model_of}
use Rattle.example_models.proofs.source.gen_source.Given as goal

-- the packages so far are there
abbrev pub invariant-loop-number : goal.invariant-loop-number
invariant-loop-number l = record {
  grown : l.model ≡ model_of (packages_objects l.n l.seed l.number);
}
