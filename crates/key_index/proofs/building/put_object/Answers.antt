use Rattle.std.proofs.Common.{◌≡◌, ◌∙◌, ap, sym, arith}
use Rattle.mof_metamodel.specs.Metamodels.{props_of}
use Rattle.mof_metamodel.specs.Tables.{prop_numbers}
use Rattle.key_index.specs.Entries.{props_in}
use Rattle.object_tables.specs.Models.{class_at}
use Rattle.key_index.proofs.EntryLaws.{object_more, object_done}
use Rattle.key_index.proofs.building.put_object.Goals as goal

pub loop-prop-preserved : goal.loop-prop-preserved
loop-prop-preserved c =
    let m = c.args.model.now in
    let o = c.args.object.0 in
    let ids = c.props-prop-items.result.now in
    let is : prop_numbers ids ≡ props_in m.meta (class_at m o) =
    c.props-prop-items.ensures.numbers ∙ ap (λ meta. props_of meta c.class_of.result.0) c.meta.ensures ∙ ap (props_in m.meta) (sym c.class_of.ensures.class) in
    let test = c.loop-prop-test.true in
    object_more m o c.args.holders.now.items c.loop-prop.holders.items c.put_slot.new.holders.items ids is c.loop-prop.prop-index (omega (arith, test))
    c.loop-prop.invariant c.in_ok-put_slot.ensures

pub returns-after-loop-prop : goal.returns-after-loop-prop
returns-after-loop-prop c =
    let m = c.args.model.now in
    let o = c.args.object.0 in
    let ids = c.props-prop-items.result.now in
    let is : prop_numbers ids ≡ props_in m.meta (class_at m o) =
    c.props-prop-items.ensures.numbers ∙ ap (λ meta. props_of meta c.class_of.result.0) c.meta.ensures ∙ ap (props_in m.meta) (sym c.class_of.ensures.class) in
    let test = c.loop-prop-test.false in
    object_done m o c.args.holders.now.items c.loop-prop.holders.items ids is c.loop-prop.prop-index (omega (arith, test)) c.loop-prop.invariant
