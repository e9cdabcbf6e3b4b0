use Rattle.std.specs.Prelude.{◌≡◌, ℕ, List, map}
use Rattle.std.proofs.Common.{ap, sym, ◌∙◌}
use Rattle.std.proofs.lemmas.Result.{IfOk-weaker}
use Rattle.object_tables.specs.Models.{values_at, partners_at}
use Rattle.repair_semantics.specs.Images.{held_in}
use Rattle.repair_semantics.specs.TargetItems.{target_meta_number}
use Rattle.term_table.specs.declared.numbered.NumberedValue.{NumberedValue}
use Rattle.term_images.specs.KeyReadings.{as_held, read_values, read_partners}
use Rattle.term_images.proofs.HeldLaws.{held_partners, held_values, nothing_held}
use Rattle.term_images.proofs.held.held_at.Goals as goal

pub returns-then-has_reference : goal.returns-then-has_reference
returns-then-has_reference c =
    let program = c.args.target.now.program.now in
    let m = c.args.target.now.model.now in
    let o = c.args.object.0 in
    let p = c.args.prop.0 in
    IfOk-weaker c.read_partners.result
    (λ (read : List NumberedValue). read ≡ read_partners (partners_at m o p))
    (λ (read : List NumberedValue). map as_held read ≡ held_in program m o p)
    (λ read is. held_partners program m o p read (c.has_reference.ensures.0 c.if-has_reference.true) is) c.read_partners.ensures

pub returns-then-has_attribute : goal.returns-then-has_attribute
returns-then-has_attribute c =
    let program = c.args.target.now.program.now in
    let m = c.args.target.now.model.now in
    let o = c.args.object.0 in
    let p = c.args.prop.0 in
    let meta = c.target_meta_number-meta.result in
    let values = c.attr.result.now in
    let same : read_values meta values ≡ read_values (target_meta_number program) (values_at m o p)
    = ap (λ (n : ℕ). read_values n values) c.target_meta_number-meta.ensures ∙ ap (read_values (target_meta_number program)) c.attr.ensures in
    IfOk-weaker c.read_values.result
    (λ (read : List NumberedValue). read ≡ read_values meta values)
    (λ (read : List NumberedValue). map as_held read ≡ held_in program m o p)
    (λ read is. held_values program m o p read (c.has_attribute.ensures.0 c.if-has_attribute.true) (is ∙ same)) c.read_values.ensures

pub returns-else-has_attribute : goal.returns-else-has_attribute
returns-else-has_attribute c =
    let none = nothing_held c.args.target.now.program.now c.args.target.now.model.now c.args.object.0 c.args.prop.0 c.end.ensures.kept
    c.has_reference.result c.has_attribute.result c.has_reference.ensures c.if-has_reference.false c.has_attribute.ensures c.if-has_attribute.false in
    ap (map as_held) c.new.ensures ∙ sym none
