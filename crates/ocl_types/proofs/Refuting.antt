-- Wrong answers that the definitions exclude, each on a small case: what the definition gives, and that it isn't what the wrong
-- code would answer. A contract says that the code's result is what the definition gives, so it refuses that code.
use Rattle.std.specs.Prelude.{◌≡◌, None, Some}
use Rattle.std.proofs.Common.{refl}
use Rattle.qv_syntax.specs.declared.operation.CollectionOperation.TheVariants as collections
use Rattle.ocl_types.specs.TypingCollections.{result_model}

-- objects of no one model, without one of model 1: those of no model
pub excluding_gives_no_new_objects : result_model collections.Excluding None (Some 1) ≡ None
excluding_gives_no_new_objects = refl

-- the model of what `excluding` is given, as that of its result
pub excluding_takes_the_model_of_its_argument : result_model collections.Excluding None (Some 1) ≡ Some 1 → ⊥
excluding_takes_the_model_of_its_argument e = cc

pub including_gives_objects_of_its_argument : result_model collections.Including None (Some 1) ≡ Some 1
including_gives_objects_of_its_argument = refl
