use Rattle.std.proofs.Common.{◌≡◌, ap, ◌∙◌, arith}
use Rattle.example_models.specs.Source.{attribute_count}
use Rattle.example_models.specs.Growing.{model_of, up_to_attribute}
use Rattle.example_models.proofs.GrowLaws.{class_whole}
use Rattle.example_models.proofs.StepLaws.{class_fitting, class_room, class_made, class_numbered}
use Rattle.example_models.proofs.source.add_class.Goals as goal

pub add_part-requires-clause-part : goal.add_part-requires-clause-part
add_part-requires-clause-part c =
    class_fitting c.args.shape.classes c.args.shape.seed c.requires.sizes c.args.class c.requires.class c.args.package_object c.requires.whole
    c.args.model.now c.in_ok-part.part c.requires.before c.in_ok-part.ensures

pub add_part-requires-clause-addable : goal.add_part-requires-clause-addable
add_part-requires-clause-addable c =
    class_room c.args.shape.classes c.args.shape.seed c.requires.sizes c.args.class c.requires.class c.args.package_object c.requires.whole
    c.args.model.now c.in_ok-part.part c.requires.before c.in_ok-part.ensures

pub loop-attribute-init : goal.loop-attribute-init
loop-attribute-init c = record {
  grown = class_made c.args.shape.classes c.args.shape.seed c.requires.sizes c.args.class c.requires.class c.args.package_object c.requires.whole
      c.args.model.now c.in_ok-part.part c.requires.before c.in_ok-part.ensures c.add_part.new.model c.in_ok-owner.ensures.1;
}

pub add_attribute-requires-clause-owner : goal.add_attribute-requires-clause-owner
add_attribute-requires-clause-owner c =
    class_numbered c.args.shape.classes c.args.shape.seed c.requires.sizes c.args.class c.requires.class c.args.package_object c.requires.whole
    c.args.model.now c.in_ok-part.part c.requires.before c.in_ok-part.ensures c.in_ok-owner.owner.0 c.in_ok-owner.ensures.0

pub returns : goal.returns
returns c =
    let n = c.args.shape.classes in
    let seed = c.args.shape.seed in
    let all : c.loop-attribute.attribute ≡ attribute_count seed c.args.class = omega arith in
    c.loop-attribute.invariant.grown ∙ ap (λ j. model_of (up_to_attribute n seed c.args.class j)) all ∙ ap model_of (class_whole n seed c.args.class c.requires.class)
