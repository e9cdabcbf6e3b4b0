use Rattle.std.proofs.Common.{◌∙◌, ◌<◌, length, get_or, refl, ap, subst, arith}
use Rattle.serde_json.specs.View.{members_view}
use Rattle.mof_metamodel.specs.declared.desc.MetaDesc.{MetaDesc}
use Rattle.mof_metamodel.specs.Metamodels.{prop_count, props_of}
use Rattle.mof_metamodel.specs.Tables.{prop_numbers}
use Rattle.model_files.specs.CanonJson.{with_slots}
use Rattle.model_files.proofs.JsonLaws.{slots_begin, slots_step, slots_end, property_at}
use Rattle.model_files.proofs.json_values.slots_of.Goals as goal

pub loop-p-init : goal.loop-p-init
loop-p-init c =
    ap (λ es. with_slots c.args.model.now c.args.o.0 (prop_numbers c.props-p-items.result.now) (members_view es)) c.new-slots.ensures.empty
    ∙ slots_begin c.args.model.now c.args.o.0 c.class_of.result.0 c.props-p-items.result.now c.class_of.ensures.class
    (c.props-p-items.ensures.numbers ∙ ap (λ meta. props_of meta c.class_of.result.0) c.meta.ensures)

pub put_slot-requires-clause-property : goal.put_slot-requires-clause-property
put_slot-requires-clause-property c =
    let short : c.loop-p.p-index < length c.props-p-items.result.now = omega arith in
    property_at c.args.model.now c.args.o.0 c.class_of.result.0 c.props-p-items.result.now c.loop-p.p-index (record { 0 = 0 }) _ c.class_of.ensures.class
    (c.props-p-items.ensures.numbers ∙ ap (λ meta. props_of meta c.class_of.result.0) c.meta.ensures) short refl

pub put_slot-requires-clause-within : goal.put_slot-requires-clause-within
put_slot-requires-clause-within c =
    let short : c.loop-p.p-index < length c.props-p-items.result.now = omega arith in
    subst (λ (meta : MetaDesc). (get_or c.props-p-items.result.now c.loop-p.p-index (record { 0 = 0 })).0 < prop_count meta) c.meta.ensures
    (c.props-p-items.ensures.within c.loop-p.p-index (record { 0 = 0 }) short)

pub loop-p-preserved : goal.loop-p-preserved
loop-p-preserved c =
    let short : c.loop-p.p-index < length c.props-p-items.result.now = omega arith in
    slots_step c.args.model.now c.args.o.0 c.props-p-items.result.now c.loop-p.p-index (record { 0 = 0 }) _ _ _ short refl c.in_ok-put_slot.ensures
    ∙ c.loop-p.invariant

pub returns : goal.returns
returns c = slots_end c.args.model.now c.args.o.0 c.props-p-items.result.now c.loop-p.p-index _ (omega arith) c.loop-p.invariant
