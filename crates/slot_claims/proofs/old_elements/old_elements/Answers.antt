use Rattle.std.specs.Prelude.{map}
use Rattle.std.proofs.Common.{◌∙◌, ap}
use Rattle.std.proofs.lemmas.Result.{IfOk-weaker}
use Rattle.qvtr_semantics.specs.Objects.{value_datum}
use Rattle.repair_semantics.specs.Claims.{Held}
use Rattle.repair_semantics.specs.TargetItems.{target_meta_number}
use Rattle.slot_claims.specs.HeldValues.{held_by}
use Rattle.slot_claims.proofs.OldLaws.{values_held, nothing_held}
use Rattle.slot_claims.proofs.old_elements.old_elements.Goals as goal

pub returns-then-has_attribute : goal.returns-then-has_attribute
returns-then-has_attribute c =
    let program = c.args.program.now in
    let m = c.args.target.now in
    IfOk-weaker c.attribute_elements.result _ _
    (λ found is.
    values_held program m c.args.o.0 c.args.p.0 (map held_by found) (c.has_attribute.ensures.0 c.if-has_attribute.true)
    (is ∙ ap (λ n. map (λ v. Held.datum (value_datum n v)) c.attr.result.now) c.target_meta_number.ensures
    ∙ ap (map (λ v. Held.datum (value_datum (target_meta_number program) v))) c.attr.ensures))
    c.attribute_elements.ensures

pub returns-else-has_attribute : goal.returns-else-has_attribute
returns-else-has_attribute c =
    ap (map held_by) c.new.ensures
    ∙ nothing_held c.args.program.now c.args.target.now c.args.o.0 c.args.p.0 c.end.ensures.kept c.has_reference.result c.has_attribute.result
    c.has_reference.ensures c.if-has_reference.false c.has_attribute.ensures c.if-has_attribute.false
