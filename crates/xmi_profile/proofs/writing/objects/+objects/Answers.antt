use Rattle.std.proofs.Common.{rules, [], ◌+◌, ◌≡◌, ◌≤◌, ◌<◌, ℕ, Bool, List, suc, ◌-◌, ◌++◌, ◌||◌, sym, ap, subst, ◌∙◌, refl, arith, length, get_or, map}
use Rattle.std.specs.Prelude.{chars}
use Rattle.std.specs.List.{flat_map}
use Rattle.std.proofs.lemmas.Result.{on_ok_weaker, IfOk-weaker}
use Rattle.mof_metamodel.specs.Metamodels.{prop_count, props_of}
use Rattle.mof_metamodel.specs.Tables.{prop_numbers}
use Rattle.object_tables.specs.Models.{partners_at}
use Rattle.xmi_text.specs.Calls.{wrote}
use Rattle.model_assembly.specs.declared.form.Form.TheVariants as forms
use Rattle.model_assembly.specs.Forms.{form_of}
use Rattle.model_assembly.specs.Profile.{prop_name, object_props}
use Rattle.xmi_profile.specs.Canon.{depth_over, tag_calls, object_calls}
use Rattle.xmi_profile.specs.Writable.{CanWrite, Left, has_some, children_calls, calls_of, end_calls, value_elements, part_elements}
use Rattle.xmi_profile.proofs.WritingSteps.{left_start, left_first, left_rest, item_can, item_left, item_some, left_none_by, none_some, object_begun, part_can, part_left, part_some, parts_none, parts_some, object_some}
use Rattle.xmi_profile.proofs.WritingForms.{attribute_at, reference_at, property_known, reference_known, props_here, property_here, first_live, rest_live, ids_live, numbers_back, elements_of, parts_of, none_of}
use Rattle.xmi_profile.proofs.writing.objects.+objects.Goals as goal

-- ---- a property

pub write_child-form_of-requires : goal.write_child-form_of-requires
write_child-form_of-requires t c = subst (λ x. c.args.at.1.0 < prop_count x) (sym c.meta.ensures) (property_known _ _ _ c.requires.property)

pub write_child-write_values-requires-clause-attribute : goal.write_child-write_values-requires-clause-attribute
write_child-write_values-requires-clause-attribute t c =
    attribute_at c.args.model.now c.args.at.0.0 c.args.at.1.0 forms.Elements c.requires.property (ap (λ x. form_of x c.args.at.1.0) (sym c.meta.ensures) ∙ sym c.in-Elements.ensures) refl

pub write_child-write_values-requires-clause-can : goal.write_child-write_values-requires-clause-can
write_child-write_values-requires-clause-can t c = subst (CanWrite c.args.writer.now) (elements_of c.args.model.now c.args.levels c.args.at.0.0 c.args.at.1.0 c.meta.result.now c.meta.ensures c.in-Elements.ensures) c.requires.can

pub write_child-write_parts-requires : goal.write_child-write_parts-requires
write_child-write_parts-requires t c = (
  omega (arith, c.decreases),
  (
    reference_at c.args.model.now c.args.at.0.0 c.args.at.1.0 forms.Parts c.requires.property (ap (λ x. form_of x c.args.at.1.0) (sym c.meta.ensures) ∙ sym c.in-Parts.ensures) refl,
    (c.requires.levels, (subst (CanWrite c.args.writer.now) (parts_of c.args.model.now c.args.levels c.args.at.0.0 c.args.at.1.0 c.meta.result.now c.meta.ensures c.in-Parts.ensures) c.requires.can)),
  ),
)

pub write_child-returns-in-Elements-clause-ok : goal.write_child-returns-in-Elements-clause-ok
write_child-returns-in-Elements-clause-ok t c =
    on_ok_weaker c.write_values.result (λ e. e ∙ ap (wrote c.args.writer.now) (sym (elements_of c.args.model.now c.args.levels c.args.at.0.0 c.args.at.1.0 c.meta.result.now c.meta.ensures c.in-Elements.ensures))) c.write_values.ensures.ok

pub write_child-returns-in-Elements-clause-some : goal.write_child-returns-in-Elements-clause-some
write_child-returns-in-Elements-clause-some t c =
    IfOk-weaker c.write_values.result (λ x. x ≡ has_some (value_elements c.args.model.now (200 - c.args.levels + 1) c.args.at.0.0 c.args.at.1.0)) (λ x. x ≡ has_some (calls_of c.args.model.now c.args.levels c.args.at.0.0 c.args.at.1.0))
    (λ x e. e ∙ ap has_some (sym (elements_of c.args.model.now c.args.levels c.args.at.0.0 c.args.at.1.0 c.meta.result.now c.meta.ensures c.in-Elements.ensures))) c.write_values.ensures.some

pub write_child-returns-in-Parts-clause-ok : goal.write_child-returns-in-Parts-clause-ok
write_child-returns-in-Parts-clause-ok t c =
    on_ok_weaker c.write_parts.result (λ e. e ∙ ap (wrote c.args.writer.now) (sym (parts_of c.args.model.now c.args.levels c.args.at.0.0 c.args.at.1.0 c.meta.result.now c.meta.ensures c.in-Parts.ensures))) c.write_parts.ensures.ok

pub write_child-returns-in-Parts-clause-some : goal.write_child-returns-in-Parts-clause-some
write_child-returns-in-Parts-clause-some t c =
    IfOk-weaker c.write_parts.result (λ x. x ≡ has_some (part_elements c.args.model.now c.args.levels c.args.at.0.0 c.args.at.1.0)) (λ x. x ≡ has_some (calls_of c.args.model.now c.args.levels c.args.at.0.0 c.args.at.1.0))
    (λ x e. e ∙ ap has_some (sym (parts_of c.args.model.now c.args.levels c.args.at.0.0 c.args.at.1.0 c.meta.result.now c.meta.ensures c.in-Parts.ensures))) c.write_parts.ensures.some

pub write_child-returns-in-Attribute-clause-ok : goal.write_child-returns-in-Attribute-clause-ok
write_child-returns-in-Attribute-clause-ok t c = sym (ap (wrote c.args.writer.now) (none_of c.args.model.now c.args.levels c.args.at.0.0 c.args.at.1.0 c.meta.result.now forms.Attribute c.meta.ensures c.in-Attribute.ensures refl))

pub write_child-returns-in-Attribute-clause-some : goal.write_child-returns-in-Attribute-clause-some
write_child-returns-in-Attribute-clause-some t c = sym (ap has_some (none_of c.args.model.now c.args.levels c.args.at.0.0 c.args.at.1.0 c.meta.result.now forms.Attribute c.meta.ensures c.in-Attribute.ensures refl))

pub write_child-returns-in-Identifiers-clause-ok : goal.write_child-returns-in-Identifiers-clause-ok
write_child-returns-in-Identifiers-clause-ok t c = sym (ap (wrote c.args.writer.now) (none_of c.args.model.now c.args.levels c.args.at.0.0 c.args.at.1.0 c.meta.result.now forms.Identifiers c.meta.ensures c.in-Identifiers.ensures refl))

pub write_child-returns-in-Identifiers-clause-some : goal.write_child-returns-in-Identifiers-clause-some
write_child-returns-in-Identifiers-clause-some t c = sym (ap has_some (none_of c.args.model.now c.args.levels c.args.at.0.0 c.args.at.1.0 c.meta.result.now forms.Identifiers c.meta.ensures c.in-Identifiers.ensures refl))

pub write_child-returns-in-Nesting-clause-ok : goal.write_child-returns-in-Nesting-clause-ok
write_child-returns-in-Nesting-clause-ok t c = sym (ap (wrote c.args.writer.now) (none_of c.args.model.now c.args.levels c.args.at.0.0 c.args.at.1.0 c.meta.result.now forms.Nesting c.meta.ensures c.in-Nesting.ensures refl))

pub write_child-returns-in-Nesting-clause-some : goal.write_child-returns-in-Nesting-clause-some
write_child-returns-in-Nesting-clause-some t c = sym (ap has_some (none_of c.args.model.now c.args.levels c.args.at.0.0 c.args.at.1.0 c.meta.result.now forms.Nesting c.meta.ensures c.in-Nesting.ensures refl))

-- ---- the properties of an object

pub write_children-loop-p-init : goal.write_children-loop-p-init
write_children-loop-p-init t c =
    let f = calls_of c.args.model.now c.args.levels c.args.o.0 in
    let same : prop_numbers c.props-props.result.now ≡ object_props c.args.model.now c.args.o.0 = props_here c.args.model.now c.args.o.0 c.class_of.result.0 c.props-props.result.now c.class_of.ensures.class (c.props-props.ensures.numbers ∙ ap (λ x. props_of x c.class_of.result.0) c.meta.ensures) in
    record {
      left = subst (λ (ns : List ℕ). Left c.args.writer.now (flat_map f ns) (wrote c.args.writer.now (children_calls c.args.model.now c.args.levels c.args.o.0))) (sym same) (left_start c.args.writer.now (children_calls c.args.model.now c.args.levels c.args.o.0) c.requires.can);
      some = ap (λ (ns : List ℕ). has_some (flat_map f ns)) same;
    }

pub write_children-write_child-requires : goal.write_children-write_child-requires
write_children-write_child-requires t c =
    let short : c.loop-p.p-index < length c.props-props.result.now = omega arith in (
      omega (arith, c.decreases),
      (
        property_here c.args.model.now c.args.o.0 c.class_of.result.0 c.loop-p.p-index c.props-props.result.now _ (record { 0 = 0 }) c.class_of.ensures.class (c.props-props.ensures.numbers ∙ ap (λ x. props_of x c.class_of.result.0) c.meta.ensures) short refl,
        (
          c.requires.levels,
          (item_can (λ p. p.0) (calls_of c.args.model.now c.args.levels c.args.o.0) c.props-props.result.now c.loop-p.p-index (get_or c.props-props.result.now c.loop-p.p-index (record { 0 = 0 })) (record { 0 = 0 }) _ _ short refl c.loop-p.invariant.left),
        ),
      ),
    )

pub write_children-loop-p-preserved : goal.write_children-loop-p-preserved
write_children-loop-p-preserved t c =
    let short : c.loop-p.p-index < length c.props-props.result.now = omega arith in
    record {
      left = item_left (λ p. p.0) (calls_of c.args.model.now c.args.levels c.args.o.0) c.props-props.result.now c.loop-p.p-index (get_or c.props-props.result.now c.loop-p.p-index (record { 0 = 0 })) (record { 0 = 0 }) _ _ _ short refl c.loop-p.invariant.left c.in_ok-more.ensures.ok;
      some = item_some (λ p. p.0) (calls_of c.args.model.now c.args.levels c.args.o.0) c.props-props.result.now c.loop-p.p-index (get_or c.props-props.result.now c.loop-p.p-index (record { 0 = 0 })) (record { 0 = 0 }) c.loop-p.some c.is_either-some.result _ short refl c.loop-p.invariant.some
          (c.is_either-some.ensures ∙ ap (λ b. c.loop-p.some || b) c.in_ok-more.ensures.some);
    }

pub write_children-returns-clause-ok : goal.write_children-returns-clause-ok
write_children-returns-clause-ok t c =
    let past : length c.props-props.result.now ≤ c.loop-p.p-index = omega arith in
    left_none_by (λ p. p.0) (calls_of c.args.model.now c.args.levels c.args.o.0) c.props-props.result.now c.loop-p.p-index _ _ past c.loop-p.invariant.left

pub write_children-returns-clause-some : goal.write_children-returns-clause-some
write_children-returns-clause-some t c =
    let past : length c.props-props.result.now ≤ c.loop-p.p-index = omega arith in
    none_some (λ p. p.0) (calls_of c.args.model.now c.args.levels c.args.o.0) c.props-props.result.now c.loop-p.p-index c.loop-p.some _ past c.loop-p.invariant.some

-- ---- an object

pub write_object-returns-then-levels-eq0 : goal.write_object-returns-then-levels-eq0
write_object-returns-then-levels-eq0 t c =
    let none : c.args.levels ≡ 0 = omega arith in
    ap (λ n. wrote c.args.writer.now (object_calls c.args.model.now n (chars c.args.element.now) c.args.o.0)) (sym none)

pub write_object-write_tag-requires-clause-can : goal.write_object-write_tag-requires-clause-can
write_object-write_tag-requires-clause-can t c =
    let deeper : c.args.levels ≡ suc (c.args.levels - 1) = omega arith in
    left_first c.line.new.self (wrote c.args.writer.now (object_calls c.args.model.now c.args.levels (chars c.args.element.now) c.args.o.0)) (tag_calls c.args.model.now (chars c.args.element.now) c.args.o.0) ((children_calls c.args.model.now (c.args.levels - 1) c.args.o.0) ++ (end_calls (depth_over (c.args.levels - 1)) (has_some (children_calls c.args.model.now (c.args.levels - 1) c.args.o.0)))) (object_begun c.args.model.now c.args.levels (c.args.levels - 1) (chars c.args.element.now) c.args.o.0 c.args.writer.now c.line.new.self deeper c.requires.1.1.1.1 c.in_ok-line.ensures.ok)

pub write_object-write_children-requires : goal.write_object-write_children-requires
write_object-write_children-requires t c =
    let deeper : c.args.levels ≡ suc (c.args.levels - 1) = omega arith in
    let left : Left c.write_tag.new.writer ((children_calls c.args.model.now (c.args.levels - 1) c.args.o.0) ++ (end_calls (depth_over (c.args.levels - 1)) (has_some (children_calls c.args.model.now (c.args.levels - 1) c.args.o.0)))) (wrote c.args.writer.now (object_calls c.args.model.now c.args.levels (chars c.args.element.now) c.args.o.0)) = left_rest c.line.new.self c.write_tag.new.writer (wrote c.args.writer.now (object_calls c.args.model.now c.args.levels (chars c.args.element.now) c.args.o.0)) (tag_calls c.args.model.now (chars c.args.element.now) c.args.o.0) ((children_calls c.args.model.now (c.args.levels - 1) c.args.o.0) ++ (end_calls (depth_over (c.args.levels - 1)) (has_some (children_calls c.args.model.now (c.args.levels - 1) c.args.o.0)))) (object_begun c.args.model.now c.args.levels (c.args.levels - 1) (chars c.args.element.now) c.args.o.0 c.args.writer.now c.line.new.self deeper c.requires.1.1.1.1 c.in_ok-line.ensures.ok) c.in_ok-write_tag.ensures in
    (omega (arith, c.requires.1.0), (c.requires.1.1.0, (omega arith, (left_first c.write_tag.new.writer (wrote c.args.writer.now (object_calls c.args.model.now c.args.levels (chars c.args.element.now) c.args.o.0)) (children_calls c.args.model.now (c.args.levels - 1) c.args.o.0) (end_calls (depth_over (c.args.levels - 1)) (has_some (children_calls c.args.model.now (c.args.levels - 1) c.args.o.0))) left))))

pub write_object-write_end-requires : goal.write_object-write_end-requires
write_object-write_end-requires t c =
    let deeper : c.args.levels ≡ suc (c.args.levels - 1) = omega arith in
    let left : Left c.write_children.new.writer (end_calls (depth_over (c.args.levels - 1)) (has_some (children_calls c.args.model.now (c.args.levels - 1) c.args.o.0))) (wrote c.args.writer.now (object_calls c.args.model.now c.args.levels (chars c.args.element.now) c.args.o.0)) = left_rest c.write_tag.new.writer c.write_children.new.writer (wrote c.args.writer.now (object_calls c.args.model.now c.args.levels (chars c.args.element.now) c.args.o.0)) (children_calls c.args.model.now (c.args.levels - 1) c.args.o.0) (end_calls (depth_over (c.args.levels - 1)) (has_some (children_calls c.args.model.now (c.args.levels - 1) c.args.o.0))) (left_rest c.line.new.self c.write_tag.new.writer (wrote c.args.writer.now (object_calls c.args.model.now c.args.levels (chars c.args.element.now) c.args.o.0)) (tag_calls c.args.model.now (chars c.args.element.now) c.args.o.0) ((children_calls c.args.model.now (c.args.levels - 1) c.args.o.0) ++ (end_calls (depth_over (c.args.levels - 1)) (has_some (children_calls c.args.model.now (c.args.levels - 1) c.args.o.0)))) (object_begun c.args.model.now c.args.levels (c.args.levels - 1) (chars c.args.element.now) c.args.o.0 c.args.writer.now c.line.new.self deeper c.requires.1.1.1.1 c.in_ok-line.ensures.ok) c.in_ok-write_tag.ensures) c.in_ok-some.ensures.ok in
    subst (λ (b : Bool). CanWrite c.write_children.new.writer (end_calls (depth_over (c.args.levels - 1)) b)) (sym c.in_ok-some.ensures.some) left.0

pub write_object-returns : goal.write_object-returns
write_object-returns t c =
    let deeper : c.args.levels ≡ suc (c.args.levels - 1) = omega arith in
    let left : Left c.write_children.new.writer (end_calls (depth_over (c.args.levels - 1)) (has_some (children_calls c.args.model.now (c.args.levels - 1) c.args.o.0))) (wrote c.args.writer.now (object_calls c.args.model.now c.args.levels (chars c.args.element.now) c.args.o.0)) = left_rest c.write_tag.new.writer c.write_children.new.writer (wrote c.args.writer.now (object_calls c.args.model.now c.args.levels (chars c.args.element.now) c.args.o.0)) (children_calls c.args.model.now (c.args.levels - 1) c.args.o.0) (end_calls (depth_over (c.args.levels - 1)) (has_some (children_calls c.args.model.now (c.args.levels - 1) c.args.o.0))) (left_rest c.line.new.self c.write_tag.new.writer (wrote c.args.writer.now (object_calls c.args.model.now c.args.levels (chars c.args.element.now) c.args.o.0)) (tag_calls c.args.model.now (chars c.args.element.now) c.args.o.0) ((children_calls c.args.model.now (c.args.levels - 1) c.args.o.0) ++ (end_calls (depth_over (c.args.levels - 1)) (has_some (children_calls c.args.model.now (c.args.levels - 1) c.args.o.0)))) (object_begun c.args.model.now c.args.levels (c.args.levels - 1) (chars c.args.element.now) c.args.o.0 c.args.writer.now c.line.new.self deeper c.requires.1.1.1.1 c.in_ok-line.ensures.ok) c.in_ok-write_tag.ensures) c.in_ok-some.ensures.ok in
    on_ok_weaker c.write_end.result (λ e. e ∙ ap (λ (b : Bool). wrote c.write_children.new.writer (end_calls (depth_over (c.args.levels - 1)) b)) c.in_ok-some.ensures.some ∙ left.1) c.write_end.ensures

-- ---- contained objects

pub write_parts-prop_name-name-requires : goal.write_parts-prop_name-name-requires
write_parts-prop_name-name-requires t c = subst (λ x. c.args.at.1.0 < prop_count x) (sym c.meta.ensures) (reference_known _ _ _ c.requires.reference)

pub write_parts-loop-b-init : goal.write_parts-loop-b-init
write_parts-loop-b-init t c =
    let same : map (λ b. b.0) c.partners-left.result ≡ (partners_at c.args.model.now c.args.at.0.0 c.args.at.1.0) = ap (map (λ b. b.0)) c.partners-left.ensures.list ∙ numbers_back (partners_at c.args.model.now c.args.at.0.0 c.args.at.1.0) in
    record {
      live = ids_live c.args.model.now (partners_at c.args.model.now c.args.at.0.0 c.args.at.1.0) c.partners-left.result c.partners-left.ensures.list c.partners-left.ensures.live;
      left = subst (λ (ns : List ℕ). Left c.args.writer.now (flat_map (object_calls c.args.model.now c.args.levels (prop_name c.args.model.now.meta c.args.at.1.0)) ns) (wrote c.args.writer.now (part_elements c.args.model.now c.args.levels c.args.at.0.0 c.args.at.1.0))) (sym same) (left_start c.args.writer.now (part_elements c.args.model.now c.args.levels c.args.at.0.0 c.args.at.1.0) c.requires.can);
      some = ap (λ (ns : List ℕ). has_some (flat_map (object_calls c.args.model.now c.args.levels (prop_name c.args.model.now.meta c.args.at.1.0)) ns)) same;
    }

pub write_parts-write_object-requires : goal.write_parts-write_object-requires
write_parts-write_object-requires t c = (
  omega (arith, c.decreases),
  (
    first_live c.args.model.now c.loop-b.left c.in-Some.b c.next.new.self c.in-Some.ensures.steps c.loop-b.invariant.live,
    (
      c.requires.levels,
      subst (λ (x : List ℕ). CanWrite c.loop-b.writer (object_calls c.args.model.now c.args.levels x c.in-Some.b.0)) (sym (c.prop_name-name.ensures ∙ ap (λ x. prop_name x c.args.at.1.0) c.meta.ensures)) (part_can (λ b. b.0) (object_calls c.args.model.now c.args.levels (prop_name c.args.model.now.meta c.args.at.1.0)) c.loop-b.left c.in-Some.b c.next.new.self _ _ c.in-Some.ensures.steps c.loop-b.invariant.left),
    ),
  ),
)

pub write_parts-loop-b-preserved : goal.write_parts-loop-b-preserved
write_parts-loop-b-preserved t c = record {
  live = rest_live c.args.model.now c.loop-b.left c.in-Some.b c.next.new.self c.in-Some.ensures.steps c.loop-b.invariant.live;
  left = part_left (λ b. b.0) (object_calls c.args.model.now c.args.levels (prop_name c.args.model.now.meta c.args.at.1.0)) c.loop-b.left c.in-Some.b c.next.new.self _ _ _ c.in-Some.ensures.steps c.loop-b.invariant.left
      (c.in_ok-write_object.ensures ∙ ap (λ (x : List ℕ). wrote c.loop-b.writer (object_calls c.args.model.now c.args.levels x c.in-Some.b.0)) (c.prop_name-name.ensures ∙ ap (λ x. prop_name x c.args.at.1.0) c.meta.ensures));
  some = part_some (λ b. b.0) (object_calls c.args.model.now c.args.levels (prop_name c.args.model.now.meta c.args.at.1.0)) c.loop-b.left c.in-Some.b c.next.new.self c.loop-b.some c.is_either-some.result _ c.in-Some.ensures.steps c.loop-b.invariant.some
      (c.is_either-some.ensures ∙ ap (λ b. c.loop-b.some || b) (c.has_levels.ensures ∙ sym (object_some c.args.model.now c.args.levels (prop_name c.args.model.now.meta c.args.at.1.0) c.in-Some.b.0)));
}

pub write_parts-returns-clause-ok : goal.write_parts-returns-clause-ok
write_parts-returns-clause-ok t c =
    let none : c.loop-b.left ≡ [] = search rules in
    parts_none (λ b. b.0) (object_calls c.args.model.now c.args.levels (prop_name c.args.model.now.meta c.args.at.1.0)) c.loop-b.left _ _ none c.loop-b.invariant.left

pub write_parts-returns-clause-some : goal.write_parts-returns-clause-some
write_parts-returns-clause-some t c =
    let none : c.loop-b.left ≡ [] = search rules in
    parts_some (λ b. b.0) (object_calls c.args.model.now c.args.levels (prop_name c.args.model.now.meta c.args.at.1.0)) c.loop-b.left c.loop-b.some _ none c.loop-b.invariant.some
