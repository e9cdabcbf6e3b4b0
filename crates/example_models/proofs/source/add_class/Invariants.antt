use Rattle.std.proofs.Common.{◌≡◌}
use Rattle.example_models.specs.Growing.{model_of, up_to_attribute}
use Rattle.example_models.proofs.source.add_class.Given as goal

-- the class has the attributes so far
abbrev pub invariant-loop-attribute : goal.invariant-loop-attribute
invariant-loop-attribute l = record {
  grown : l.model ≡ model_of (up_to_attribute l.shape.classes l.shape.seed l.class l.attribute);
}
