use Rattle.std.proofs.Common.{◌≡◌, ◌+◌, ◌*◌, ◌/◌, ◌%◌, ap, ◌∙◌, arith}
use Rattle.example_models.specs.Source.{package_number, classes_in}
use Rattle.example_models.specs.Growing.{model_of, up_to_class}
use Rattle.example_models.proofs.GrowLaws.{package_whole}
use Rattle.example_models.proofs.source.add_package.Goals as goal

pub add_class-requires-clause-whole : goal.add_class-requires-clause-whole
add_class-requires-clause-whole c =
    let at : c.args.number ≡ (100 * c.args.number + c.loop-place.place) / 100 = omega arith in
    c.in_ok-object.ensures.object ∙ ap (package_number c.args.shape.seed) at

pub add_class-requires-clause-before : goal.add_class-requires-clause-before
add_class-requires-clause-before c =
    let n = c.args.shape.classes in
    let seed = c.args.shape.seed in
    let at : c.args.number ≡ (100 * c.args.number + c.loop-place.place) / 100 = omega arith in
    let place : c.loop-place.place ≡ (100 * c.args.number + c.loop-place.place) % 100 = omega arith in
    c.loop-place.invariant.grown ∙ ap (λ k. model_of (up_to_class n seed k c.loop-place.place)) at
    ∙ ap (λ p. model_of (up_to_class n seed ((100 * c.args.number + c.loop-place.place) / 100) p)) place

pub loop-place-preserved : goal.loop-place-preserved
loop-place-preserved c =
    let n = c.args.shape.classes in
    let seed = c.args.shape.seed in
    let at : (100 * c.args.number + c.loop-place.place) / 100 ≡ c.args.number = omega arith in
    let place : (100 * c.args.number + c.loop-place.place) % 100 + 1 ≡ c.loop-place.place + 1 = omega arith in
    record {
      grown = c.in_ok-add_class.ensures ∙ ap (λ k. model_of (up_to_class n seed k ((100 * c.args.number + c.loop-place.place) % 100 + 1))) at
          ∙ ap (λ p. model_of (up_to_class n seed c.args.number p)) place;
    }

pub returns : goal.returns
returns c =
    let n = c.args.shape.classes in
    let seed = c.args.shape.seed in
    let all : c.loop-place.place ≡ classes_in n c.args.number = omega arith in
    c.loop-place.invariant.grown ∙ ap (λ p. model_of (up_to_class n seed c.args.number p)) all ∙ ap model_of (package_whole n seed c.args.number)
