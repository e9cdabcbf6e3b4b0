use Rattle.std.proofs.Common.{◌<◌, ◌^◌, ap, ◌∙◌, arith}
use Rattle.mof_metamodel.specs.Characters.{is_identifier_text}
use Rattle.example_models.proofs.StepLaws.{package_identifier, package_room, package_known, package_numbered, package_named, package_text, package_made}
use Rattle.example_models.proofs.source.add_empty_package.Goals as goal

pub add_object-requires-clause-class : goal.add_object-requires-clause-class
add_object-requires-clause-class c = package_known c.args.shape.classes c.args.shape.seed c.requires.sizes c.args.number c.requires.number c.args.model.now c.requires.before

pub add_object-requires-clause-identifier : goal.add_object-requires-clause-identifier
add_object-requires-clause-identifier c =
    let low : c.args.number < 2 ^ 32 = omega (arith, c.requires.number, c.requires.sizes.classes_few) in
    ap is_identifier_text c.in_ok-id.ensures ∙ package_identifier c.args.shape.classes c.args.shape.seed c.requires.sizes c.args.number low

pub add_object-requires-clause-addable : goal.add_object-requires-clause-addable
add_object-requires-clause-addable c =
    package_room c.args.shape.classes c.args.shape.seed c.requires.sizes c.args.number c.requires.number c.args.model.now c.requires.before c.in_ok-id.id c.in_ok-id.ensures

pub set_text-requires-clause-attribute : goal.set_text-requires-clause-attribute
set_text-requires-clause-attribute c =
    package_named c.args.shape.classes c.args.shape.seed c.requires.sizes c.args.number c.requires.number c.args.model.now c.requires.before
    c.add_object.new.model c.in_ok-object.object.0 c.in_ok-id.id c.in_ok-object.ensures.1 c.in_ok-object.ensures.0

pub set_text-requires-clause-text : goal.set_text-requires-clause-text
set_text-requires-clause-text c =
    package_text c.args.shape.classes c.args.shape.seed c.requires.sizes c.args.number c.requires.number c.args.model.now c.requires.before
    c.add_object.new.model c.in_ok-id.id c.in_ok-name.name c.in_ok-object.ensures.1 c.in_ok-name.ensures

pub returns-clause-object : goal.returns-clause-object
returns-clause-object c =
    package_numbered c.args.shape.classes c.args.shape.seed c.requires.sizes c.args.number c.requires.number c.args.model.now c.requires.before
    c.in_ok-object.object.0 c.in_ok-object.ensures.0

pub returns-clause-model : goal.returns-clause-model
returns-clause-model c =
    package_made c.args.shape.classes c.args.shape.seed c.requires.sizes c.args.number c.requires.number c.args.model.now c.requires.before
    c.add_object.new.model c.set_text.new.model c.in_ok-object.object.0 c.in_ok-id.id c.in_ok-name.name c.in_ok-object.ensures.1 c.in_ok-object.ensures.0
    c.in_ok-id.ensures c.in_ok-name.ensures c.in_ok-set_text.ensures
