use Rattle.enforce_mode.proofs.ReportLaws.{reference_else, reference_too, same_partners}
use Rattle.enforce_mode.proofs.reporting.is_same_slot.Goals as goal

pub partners-requires : goal.partners-requires
partners-requires c =
    reference_else c.args.target.now c.args.o.0 c.args.p.0 c.has_attribute.result c.requires.target c.has_attribute.ensures c.if-has_attribute.false

pub partners-requires-else-has_attribute : goal.partners-requires-else-has_attribute
partners-requires-else-has_attribute c =
    reference_too c.args.target.now c.args.made.now c.args.o.0 c.args.p.0 c.requires.meta c.requires.made
    (reference_else c.args.target.now c.args.o.0 c.args.p.0 c.has_attribute.result c.requires.target c.has_attribute.ensures c.if-has_attribute.false)

pub returns-else-has_attribute : goal.returns-else-has_attribute
returns-else-has_attribute c =
    let m = c.args.target.now in
    let n = c.args.made.now in
    let o = c.args.o.0 in
    let p = c.args.p.0 in
    let there = reference_else m o p c.has_attribute.result c.requires.target c.has_attribute.ensures c.if-has_attribute.false in
    same_partners m n o p c.are_same_partners.result c.partners.result c.partners-else-has_attribute.result
    (c.end.ensures.kept.references o p there).values
    (c.end-2.ensures.kept.references o p (reference_too m n o p c.requires.meta c.requires.made there)).values c.partners.ensures.list
    c.partners-else-has_attribute.ensures.list c.are_same_partners.ensures
