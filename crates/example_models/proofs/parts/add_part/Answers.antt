use Rattle.example_models.proofs.PartLaws.{first_attribute, first_text, second_attribute, second_text, link_reference, link_partner, link_new, link_free, is_named, is_texted, is_whole}
use Rattle.example_models.proofs.parts.add_part.Goals as goal

pub set_text-requires-clause-attribute : goal.set_text-requires-clause-attribute
set_text-requires-clause-attribute c =
    let o = c.in_ok-object.ensures in
    first_attribute c.args.model.now c.args.part c.end.ensures.kept c.requires.part c.requires.addable c.add_object.new.model c.in_ok-object.object.0 o.1 o.0

pub set_text-requires-clause-text : goal.set_text-requires-clause-text
set_text-requires-clause-text c =
    let o = c.in_ok-object.ensures in
    first_text c.args.model.now c.args.part c.end.ensures.kept c.requires.part c.requires.addable c.add_object.new.model o.1

pub set_text-requires-2-clause-attribute : goal.set_text-requires-2-clause-attribute
set_text-requires-2-clause-attribute c =
    let o = c.in_ok-object.ensures in
    let m = c.args.model.now in
    let k = c.end.ensures.kept in
    let named = is_named m c.args.part k c.requires.part c.requires.addable c.add_object.new.model c.set_text.new.model c.in_ok-object.object.0 o.1 o.0 c.in_ok-set_text.ensures in
    second_attribute m c.args.part k c.requires.part c.requires.addable c.set_text.new.model c.in_ok-object.object.0 named o.0

pub set_text-requires-2-clause-text : goal.set_text-requires-2-clause-text
set_text-requires-2-clause-text c =
    let o = c.in_ok-object.ensures in
    let m = c.args.model.now in
    let k = c.end.ensures.kept in
    let named = is_named m c.args.part k c.requires.part c.requires.addable c.add_object.new.model c.set_text.new.model c.in_ok-object.object.0 o.1 o.0 c.in_ok-set_text.ensures in
    second_text m c.args.part k c.requires.part c.requires.addable c.set_text.new.model named

pub link-requires-clause-reference : goal.link-requires-clause-reference
link-requires-clause-reference c =
    let o = c.in_ok-object.ensures in
    let m = c.args.model.now in
    let k = c.end.ensures.kept in
    let named = is_named m c.args.part k c.requires.part c.requires.addable c.add_object.new.model c.set_text.new.model c.in_ok-object.object.0 o.1 o.0 c.in_ok-set_text.ensures in
    let texted = is_texted m c.args.part k c.requires.part c.requires.addable c.set_text.new.model c.set_text-2.new.model c.in_ok-object.object.0 named o.0 c.in_ok-set_text-2.ensures in
    link_reference m c.args.part k c.requires.part c.requires.addable c.set_text-2.new.model c.in_ok-object.object.0 texted o.0

pub link-requires-clause-partner : goal.link-requires-clause-partner
link-requires-clause-partner c =
    let o = c.in_ok-object.ensures in
    let m = c.args.model.now in
    let k = c.end.ensures.kept in
    let named = is_named m c.args.part k c.requires.part c.requires.addable c.add_object.new.model c.set_text.new.model c.in_ok-object.object.0 o.1 o.0 c.in_ok-set_text.ensures in
    let texted = is_texted m c.args.part k c.requires.part c.requires.addable c.set_text.new.model c.set_text-2.new.model c.in_ok-object.object.0 named o.0 c.in_ok-set_text-2.ensures in
    link_partner m c.args.part k c.requires.part c.requires.addable c.set_text-2.new.model texted

pub link-requires-clause-new : goal.link-requires-clause-new
link-requires-clause-new c =
    let o = c.in_ok-object.ensures in
    let m = c.args.model.now in
    let k = c.end.ensures.kept in
    let named = is_named m c.args.part k c.requires.part c.requires.addable c.add_object.new.model c.set_text.new.model c.in_ok-object.object.0 o.1 o.0 c.in_ok-set_text.ensures in
    let texted = is_texted m c.args.part k c.requires.part c.requires.addable c.set_text.new.model c.set_text-2.new.model c.in_ok-object.object.0 named o.0 c.in_ok-set_text-2.ensures in
    link_new m c.args.part k c.requires.part c.requires.addable c.set_text-2.new.model c.in_ok-object.object.0 texted o.0

pub link-requires-clause-free : goal.link-requires-clause-free
link-requires-clause-free c =
    let o = c.in_ok-object.ensures in
    let m = c.args.model.now in
    let k = c.end.ensures.kept in
    let named = is_named m c.args.part k c.requires.part c.requires.addable c.add_object.new.model c.set_text.new.model c.in_ok-object.object.0 o.1 o.0 c.in_ok-set_text.ensures in
    let texted = is_texted m c.args.part k c.requires.part c.requires.addable c.set_text.new.model c.set_text-2.new.model c.in_ok-object.object.0 named o.0 c.in_ok-set_text-2.ensures in
    link_free m c.args.part k c.requires.part c.requires.addable c.set_text-2.new.model c.in_ok-object.object.0 texted o.0

pub returns : goal.returns
returns c =
    let o = c.in_ok-object.ensures in
    let m = c.args.model.now in
    let k = c.end.ensures.kept in
    let named = is_named m c.args.part k c.requires.part c.requires.addable c.add_object.new.model c.set_text.new.model c.in_ok-object.object.0 o.1 o.0 c.in_ok-set_text.ensures in
    let texted = is_texted m c.args.part k c.requires.part c.requires.addable c.set_text.new.model c.set_text-2.new.model c.in_ok-object.object.0 named o.0 c.in_ok-set_text-2.ensures in
    (o.0, is_whole m c.args.part k c.requires.part c.requires.addable c.set_text-2.new.model c.link.new.self c.in_ok-object.object.0 texted o.0 c.in_ok-link.ensures.ok)
