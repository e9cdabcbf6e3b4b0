use Rattle.std.proofs.Common.{◌≤◌, ◌<◌, sym, subst, arith, length}
use Rattle.std.specs.Prelude.{chars}
use Rattle.xmi_profile.specs.Writable.{text_value, IsTold}
use Rattle.xmi_profile.proofs.WritingSteps.{left_start, value_can, value_left, left_none}
use Rattle.xmi_profile.proofs.writing.lines.write_each.Goals as goal

pub loop-value-init : goal.loop-value-init
loop-value-init c = left_start _ _ c.requires.can

pub write_element-requires-clause-told : goal.write_element-requires-clause-told
write_element-requires-clause-told c =
    let short : c.loop-value.value-index < length c.args.values.now = omega arith in
    subst (IsTold c.args.meta.now) (sym c.value-item.is) (c.requires.told c.loop-value.value-index c.value-item.result short)

pub write_element-requires-clause-can : goal.write_element-requires-clause-can
write_element-requires-clause-can c =
    let short : c.loop-value.value-index < length c.args.values.now = omega arith in
    value_can (text_value c.args.meta.now c.args.depth (chars c.args.name.now)) c.args.values.now c.loop-value.value-index c.value-item.result c.value-item.result _ _ short c.value-item.is c.loop-value.invariant

pub loop-value-preserved : goal.loop-value-preserved
loop-value-preserved c =
    let short : c.loop-value.value-index < length c.args.values.now = omega arith in
    value_left (text_value c.args.meta.now c.args.depth (chars c.args.name.now)) c.args.values.now c.loop-value.value-index c.value-item.result c.value-item.result _ _ _ short c.value-item.is c.loop-value.invariant
    c.in_ok-write_element.ensures

pub returns : goal.returns
returns c =
    let past : length c.args.values.now ≤ c.loop-value.value-index = omega arith in
    left_none (text_value c.args.meta.now c.args.depth (chars c.args.name.now)) c.args.values.now c.loop-value.value-index _ _ past c.loop-value.invariant
