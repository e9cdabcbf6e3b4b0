use Rattle.example_models.proofs.StepLaws.{attribute_fitting, attribute_room, attribute_made}
use Rattle.example_models.proofs.source.add_attribute.Goals as goal

pub add_part-requires-clause-part : goal.add_part-requires-clause-part
add_part-requires-clause-part c =
    attribute_fitting c.args.shape.classes c.args.shape.seed c.requires.sizes c.args.class c.args.attribute c.requires.class c.requires.attribute c.args.owner c.requires.owner
    c.args.model.now c.in_ok-part.part c.requires.before c.in_ok-part.ensures

pub add_part-requires-clause-addable : goal.add_part-requires-clause-addable
add_part-requires-clause-addable c =
    attribute_room c.args.shape.classes c.args.shape.seed c.requires.sizes c.args.class c.args.attribute c.requires.class c.requires.attribute c.args.owner c.requires.owner
    c.args.model.now c.in_ok-part.part c.requires.before c.in_ok-part.ensures

pub returns : goal.returns
returns c =
    attribute_made c.args.shape.classes c.args.shape.seed c.requires.sizes c.args.class c.args.attribute c.requires.class c.requires.attribute c.args.owner c.requires.owner
    c.args.model.now c.in_ok-part.part c.requires.before c.in_ok-part.ensures c.add_part.new.model c.in_ok-add_part.ensures.1
